use Rattle.fm_place.specs.inner.PlanRows.{IsRowOf, reached_before}
use Rattle.fm_place.proofs.busy_rows.Seen.reached_row.Given as goal

abbrev pub invariant-loop-item : goal.invariant-loop-item
invariant-loop-item l = IsRowOf l.count (reached_before l.self l.item) l.reached
