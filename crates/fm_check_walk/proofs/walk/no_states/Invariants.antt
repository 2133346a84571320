use Rattle.std.proofs.Common.{◌≡◌, None, replicate}
use Rattle.fm_check_walk.specs.inner.Walks.{states_seen}
use Rattle.fm_check_walk.proofs.walk.no_states.Given as goal

abbrev pub invariant-loop : goal.invariant-loop
invariant-loop l = states_seen l.states.items ≡ replicate l.counter None
