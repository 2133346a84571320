use Rattle.fm_place.specs.inner.PlanRows.{AreRowsIn, busy_by_words, count_of}
use Rattle.fm_place.proofs.busy_rows.Seen.mark_words.Given as goal

abbrev pub invariant-loop-below : goal.invariant-loop-below
invariant-loop-below l = AreRowsIn l.groups (count_of l.self) (busy_by_words l.self l.item l.below) l.rows.items
