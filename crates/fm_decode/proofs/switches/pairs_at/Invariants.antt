use Rattle.fm_decode.specs.inner.Switches.{pairs_at}
use Rattle.fm_decode.proofs.SwitchesLoops.{PairsSoFar}
use Rattle.fm_decode.proofs.switches.pairs_at.Given as goal

abbrev pub invariant-loop : goal.invariant-loop
invariant-loop l = PairsSoFar l.fn.at l.fn.count l.counter (pairs_at l.fn.at l.fn.count l.fn.bytes) l.keys.items l.targets.items l.rest
