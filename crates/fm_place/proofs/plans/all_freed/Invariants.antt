use Rattle.std.proofs.Common.{◌≡◌}
use Rattle.std.specs.List.{flat_map, range_with_len}
use Rattle.fm_place.specs.PlansBy.{paired}
use Rattle.fm_place.specs.inner.PlanRows.{freed_by_rows}
use Rattle.fm_place.proofs.plans.all_freed.Given as goal

abbrev pub invariant-loop-item : goal.invariant-loop-item
invariant-loop-item l = l.found.items ≡ flat_map (paired (freed_by_rows l.classes l.busy l.holding.rows.items)) (range_with_len 0 l.item)
