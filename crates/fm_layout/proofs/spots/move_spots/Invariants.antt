use Rattle.fm_layout.proofs.MovingLemmas.{Moving}
use Rattle.fm_layout.proofs.spots.move_spots.Given as goal

abbrev pub invariant-loop-k : goal.invariant-loop-k
invariant-loop-k l = Moving l.change l.initial.spots l.spots l.k
