use Rattle.std.proofs.Common.{take}
use Rattle.fm_check.specs.inner.Steps.{BringsAll}
use Rattle.fm_check_walk.specs.inner.Walks.{walked}
use Rattle.fm_check_walk.specs.inner.Tasks.{task}
use Rattle.fm_types.specs.Typings.{type_state}
use Rattle.fm_check.proofs.steps.bring_to_all.Given as goal

abbrev pub invariant-loop-item : goal.invariant-loop-item
invariant-loop-item l = BringsAll (task l.method) (take l.item-index l.items) (type_state l.brought) (walked l.initial.walk) (walked l.walk)
