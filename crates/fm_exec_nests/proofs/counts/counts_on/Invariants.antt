use Rattle.std.proofs.Common.{◌≡◌}
use Rattle.fm_frames.specs.Steps.{stack_of}
use Rattle.fm_exec_nests.proofs.CountSteps.{prefixed}
use Rattle.fm_exec_nests.proofs.counts.counts_on.Given as goal
use Rattle.fm_exec_nests.specs.inner.Counts.{ints_on}

abbrev pub invariant-loop-left : goal.invariant-loop-left
invariant-loop-left g l = ints_on (stack_of l.machine) l.dimensions ≡ prefixed l.counts.items (ints_on (stack_of l.machine) l.left)

abbrev pub decreases-loop-left : goal.decreases-loop-left
decreases-loop-left g l = l.left
