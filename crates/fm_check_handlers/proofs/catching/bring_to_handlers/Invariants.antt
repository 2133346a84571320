use Rattle.std.proofs.Common.{take}
use Rattle.fm_check_handlers.specs.inner.Runs.{BringsHandlers}
use Rattle.fm_check_walk.specs.inner.Walks.{walked}
use Rattle.fm_check_walk.specs.inner.Tasks.{task}
use Rattle.fm_types.specs.Typings.{type_state}
use Rattle.fm_check_handlers.proofs.catching.bring_to_handlers.Given as goal

abbrev pub invariant-loop-handler : goal.invariant-loop-handler
invariant-loop-handler l =
    BringsHandlers (task l.method) l.item (type_state l.state) (take l.handler-index l.handlers) (walked l.initial.walk) (walked l.walk)
