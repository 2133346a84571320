use Rattle.fm_place.proofs.RowLemmas.{push_next}
use Rattle.fm_place.specs.inner.PlanRows.{is_freed}
use Rattle.fm_place.proofs.plans.push_each_freed.Goals as goal

pub loop-holder-preserved : goal.loop-holder-preserved
loop-holder-preserved c =
    push_next (is_freed c.args.classes.now c.args.busy.now c.args.holding.now.rows.items c.args.item) c.args.item c.loop-holder.holder c.args.found.now.items
    c.loop-holder.found.items c.push_if.new.found.items c.is_freed-freed.result c.loop-holder.invariant c.is_freed-freed.ensures c.in_ok-push_if.ensures
