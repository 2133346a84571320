use Rattle.std.proofs.Common.{◌≡◌}
use Rattle.fm_check_handlers.specs.inner.Runs.{GivesLevels, halved, is_taken}
use Rattle.fm_check_walk.specs.inner.Walks.{walked}
use Rattle.fm_check_walk.specs.inner.Tasks.{task}
use Rattle.fm_check_handlers.proofs.catching.give_to_levels.Given as goal

abbrev pub invariant-loop-index : goal.invariant-loop-index
invariant-loop-index l =
    GivesLevels (is_taken (task l.method) l.item l.giving) (task l.method) l.item l.index l.initial.levels.items l.levels.items
    (walked l.initial.walk) (walked l.walk)
    × (l.place ≡ halved l.index l.item)
