use Rattle.std.proofs.Common.{take}
use Rattle.fm_check_walk.specs.inner.Walks.{Carries, walked}
use Rattle.fm_check_walk.specs.inner.Tasks.{task}
use Rattle.fm_check_walk.proofs.walk.Walk.carry_all.Given as goal

abbrev pub invariant-loop-rise : goal.invariant-loop-rise
invariant-loop-rise l = Carries (task l.method) l.item (take l.rise-index l.rises) (walked l.initial.self) (walked l.self)
