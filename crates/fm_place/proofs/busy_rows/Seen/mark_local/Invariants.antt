use Rattle.fm_place.specs.inner.PlanRows.{AreRowsIn, busy_by_local, count_of}
use Rattle.fm_place.proofs.busy_rows.Seen.mark_local.Given as goal

abbrev pub invariant-loop-item : goal.invariant-loop-item
invariant-loop-item l = AreRowsIn l.groups (count_of l.self) (busy_by_local l.self l.local l.item) l.rows.items
