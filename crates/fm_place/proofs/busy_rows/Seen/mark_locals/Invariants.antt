use Rattle.fm_place.specs.inner.PlanRows.{AreRowsIn, busy_with, count_of}
use Rattle.fm_place.proofs.busy_rows.Seen.mark_locals.Given as goal

abbrev pub invariant-loop-local : goal.invariant-loop-local
invariant-loop-local l = AreRowsIn l.groups (count_of l.self) (busy_with l.self l.local) l.rows.items
