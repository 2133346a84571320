use Rattle.std.proofs.Common.{take}
use Rattle.fm_check_handlers.specs.inner.Runs.{CarriesHandlers}
use Rattle.fm_check_walk.specs.inner.Walks.{walked}
use Rattle.fm_check_walk.specs.inner.Tasks.{task}
use Rattle.fm_check_handlers.proofs.catching.carry_to_handlers.Given as goal

abbrev pub invariant-loop-handler : goal.invariant-loop-handler
invariant-loop-handler l =
    CarriesHandlers (task l.method) l.rises (take l.handler-index l.handlers) (walked l.initial.walk) (walked l.walk)
