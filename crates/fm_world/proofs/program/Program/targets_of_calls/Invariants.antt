use Rattle.fm_world.specs.inner.KnownTargets.{KnowsTargets}
use Rattle.fm_world.proofs.program.Program.targets_of_calls.Given as goal

abbrev pub invariant-loop-method : goal.invariant-loop-method
invariant-loop-method l = KnowsTargets l.self l.known
