use Rattle.fm_world.specs.inner.KnownTargets.{KnowsTargets}
use Rattle.fm_world.proofs.program.Program.add_calls.Given as goal

abbrev pub invariant-loop-item : goal.invariant-loop-item
invariant-loop-item l = KnowsTargets l.self l.known
