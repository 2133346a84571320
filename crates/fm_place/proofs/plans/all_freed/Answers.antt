use Rattle.fm_conn.proofs.ListLemmas.{flat_range_next}
use Rattle.fm_place.specs.PlansBy.{paired}
use Rattle.fm_place.specs.inner.PlanRows.{freed_by_rows}
use Rattle.fm_place.proofs.plans.all_freed.Goals as goal

pub loop-item-preserved : goal.loop-item-preserved
loop-item-preserved c =
    flat_range_next (paired (freed_by_rows c.args.classes.now c.args.busy.now c.args.holding.now.rows.items)) c.loop-item.item c.loop-item.found.items
    c.push_freed.new.found.items c.loop-item.invariant c.in_ok-push_freed.ensures
