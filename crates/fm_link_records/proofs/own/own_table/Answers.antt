use Rattle.std.proofs.Common.{◌-◌, nat_eq, arith}
use Rattle.std.specs.HashMap.{get}
use Rattle.fm_link_records.proofs.OwnSteps.{own_step}
use Rattle.fm_link_records.proofs.own.own_table.Goals as goal

pub loop-left-preserved : goal.loop-left-preserved
loop-left-preserved c =
    let k = c.loop-left.left - 1 in
    let h = c.loop-left-test.true in
    let below = c.loop-left.invariant.below in
    record {
      above = omega (arith, h);
      below = omega (arith, below);
      known = own_step c.args.signatures.now c.args.flags.now c.args.end k c.loop-left.left (λ s. get nat_eq c.loop-left.table s)
          (λ s. get nat_eq c.add_own.new.table s) c.signature_at.result c.flags_at.result (omega (arith, h)) below c.signature_at.ensures
          c.flags_at.ensures
          c.loop-left.invariant.known c.in_ok-add_own.ensures;
    }
