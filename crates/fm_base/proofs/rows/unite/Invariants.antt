use Rattle.fm_base.proofs.RowsUnion.{Joining}
use Rattle.fm_base.proofs.rows.unite.Given as goal

abbrev pub invariant-loop-i : goal.invariant-loop-i
invariant-loop-i l = Joining l.initial.words l.other l.words l.grown l.i
