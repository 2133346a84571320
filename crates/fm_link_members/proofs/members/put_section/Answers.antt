use Rattle.std.proofs.Common.{◌≡◌, ◌+◌, ◌-◌, arith}
use Rattle.fm_link_members.proofs.LayerSteps.{kept_then, PutsSection-more}
use Rattle.fm_link_members.specs.inner.MemberTables.{passes_of}
use Rattle.fm_link_members.proofs.members.put_section.Goals as goal

pub loop-left-preserved : goal.loop-left-preserved
loop-left-preserved c =
    let inv = c.loop-left.invariant in
    let left = c.loop-left.left in
    let next : left ≡ (left - 1) + 1 = omega (arith, c.loop-left-test.true) in
    record {
      below = omega (arith, inv.below);
      above = λ h. omega (arith, c.loop-left-test.true, inv.above h);
      keeps = kept_then c.args.layers.now c.loop-left.layers c.put_kept.new.layers inv.keeps c.put_kept.ensures.keeps;
      puts =
          PutsSection-more c.args.layers.now c.loop-left.layers c.put_kept.new.layers c.args.rows.now c.args.signatures.now (passes_of c.args.kept)
          left (left - 1) c.args.section.1 c.args.inherited c.loop-left.table c.in_ok-table.table next inv.below inv.keeps inv.puts
          c.in_ok-table.ensures.puts;
    }
