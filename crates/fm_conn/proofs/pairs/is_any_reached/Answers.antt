use Rattle.std.proofs.Common.{◌∙◌, sym}
use Rattle.fm_base.specs.Rows.{has}
use Rattle.fm_conn.proofs.StepLemmas.{any_step}
use Rattle.fm_conn.proofs.pairs.is_any_reached.Goals as goal

pub loop-item-preserved : goal.loop-item-preserved
loop-item-preserved c =
    any_step (λ j. has c.args.flow.now.reached j) c.loop-item.item c.args.end c.loop-item-test.true (sym c.if-is_reachable.ensures)
    ∙ c.loop-item.invariant
