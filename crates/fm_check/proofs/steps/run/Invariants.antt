use Rattle.fm_check_handlers.specs.inner.Runs.{IsGuarded}
use Rattle.fm_check_walk.specs.inner.Walks.{walked, work_left}
use Rattle.fm_check.specs.inner.Steps.{Walking}
use Rattle.fm_check_walk.specs.inner.Tasks.{task}
use Rattle.fm_check.proofs.steps.run.Given as goal

abbrev pub invariant-loop-item : goal.invariant-loop-item
invariant-loop-item l = Walking (task l.method) (walked l.walk) × IsGuarded (task l.method) (walked l.walk).states l.levels.items

abbrev pub decreases-loop-item : goal.decreases-loop-item
decreases-loop-item l = work_left (task l.method) (walked l.walk)
