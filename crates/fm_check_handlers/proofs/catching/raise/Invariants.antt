use Rattle.std.proofs.Common.{take}
use Rattle.fm_types.specs.Typings.{known_state}
use Rattle.fm_check_handlers.specs.inner.Runs.{IsRaised}
use Rattle.fm_check_walk.specs.inner.Tasks.{task}
use Rattle.fm_check_handlers.proofs.catching.raise.Given as goal

abbrev pub invariant-loop-rise : goal.invariant-loop-rise
invariant-loop-rise l =
    IsRaised (task l.method) (take l.rise-index l.rises) (known_state l.initial.given) (known_state l.given) l.places.items
