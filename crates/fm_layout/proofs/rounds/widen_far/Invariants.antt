use Rattle.fm_layout.proofs.ChangeLemmas.{FarSoFar}
use Rattle.fm_layout.proofs.rounds.widen_far.Given as goal

abbrev pub invariant-loop-item : goal.invariant-loop-item
invariant-loop-item l = FarSoFar l.initial.rooms l.rooms l.spots l.far l.item-index
