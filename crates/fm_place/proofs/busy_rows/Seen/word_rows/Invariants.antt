use Rattle.fm_place.specs.inner.PlanRows.{AreRowsIn, count_of, words_before}
use Rattle.fm_place.proofs.busy_rows.Seen.word_rows.Given as goal

abbrev pub invariant-loop-item : goal.invariant-loop-item
invariant-loop-item l = AreRowsIn l.groups (count_of l.self) (words_before l.self l.item) l.rows.items
