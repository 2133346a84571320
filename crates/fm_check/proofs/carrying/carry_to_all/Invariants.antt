use Rattle.std.proofs.Common.{take}
use Rattle.fm_check.specs.inner.Steps.{CarriesAll}
use Rattle.fm_check_walk.specs.inner.Walks.{walked}
use Rattle.fm_check_walk.specs.inner.Tasks.{task}
use Rattle.fm_check.proofs.carrying.carry_to_all.Given as goal

abbrev pub invariant-loop-item : goal.invariant-loop-item
invariant-loop-item l = CarriesAll (task l.method) (take l.item-index l.items) l.rises (walked l.initial.walk) (walked l.walk)
