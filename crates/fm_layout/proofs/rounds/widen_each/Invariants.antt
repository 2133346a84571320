use Rattle.fm_layout.proofs.InPlaceLemmas.{Widening}
use Rattle.fm_layout.proofs.rounds.widen_each.Given as goal

abbrev pub invariant-loop-k : goal.invariant-loop-k
invariant-loop-k l = Widening l.starts l.initial.rooms l.rooms l.k l.start
