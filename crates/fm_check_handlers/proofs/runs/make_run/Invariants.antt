use Rattle.std.proofs.Common.{◌+◌, ◌-◌, length}
use Rattle.fm_check_handlers.specs.inner.Runs.{AreMore}
use Rattle.fm_check_handlers.proofs.runs.make_run.Given as goal

abbrev pub invariant-loop-alloc : goal.invariant-loop-alloc
invariant-loop-alloc l = AreMore (λ place h. ⊥) l.initial.runs.items l.runs.items

abbrev pub decreases-loop-alloc : goal.decreases-loop-alloc
decreases-loop-alloc l = l.place + 1 - length l.runs.items
