use Rattle.std.proofs.Common.{◌∙◌, true, ap, arith, if◌then◌else◌}
use Rattle.std.specs.List.{slice_set}
use Rattle.fm_chain.proofs.PlanLemmas.{flags_size, flags_step, site_at}
use Rattle.fm_chain.proofs.plans.looped_row.Goals as goal

pub looped-requires-clause-inside : goal.looped-requires-clause-inside
looped-requires-clause-inside c = (site_at c.args.code.now c.args.holders c.args.after.now c.loop-pair.pair-index c.requires.sites c.loop-pair-test.true).site

pub set_if-requires : goal.set_if-requires
set_if-requires c =
    let one = (site_at c.args.code.now c.args.holders c.args.after.now c.loop-pair.pair-index c.requires.sites c.loop-pair-test.true).holder in
    omega (arith, one, c.loop-pair.invariant.size)

pub loop-pair-preserved : goal.loop-pair-preserved
loop-pair-preserved c =
    let told = c.set_if.ensures
    ∙ ap (λ n. if c.in_ok-looped.field-0 then slice_set c.loop-pair.row n true else c.loop-pair.row) c.from-in-loop-pair.ensures in
    record {
      size = flags_size c.loop-pair.row c.set_if.new.row _ _ c.args.holders told c.loop-pair.invariant.size;
      flags = flags_step c.args.code.now c.loop-pair.row c.set_if.new.row _ c.args.after.now c.loop-pair.pair-index _ c.loop-pair-test.true
          c.in_ok-looped.ensures told c.loop-pair.invariant.flags;
    }
