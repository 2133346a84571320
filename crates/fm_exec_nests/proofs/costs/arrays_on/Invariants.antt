use Rattle.std.proofs.Common.{◌≡◌, Some}
use Rattle.fm_frames.specs.Steps.{stack_of}
use Rattle.fm_exec_nests.proofs.CountSums.{told}
use Rattle.fm_exec_nests.proofs.costs.arrays_on.Given as goal
use Rattle.fm_exec_nests.specs.inner.Counts.{arrays_on}

abbrev pub invariant-loop-place : goal.invariant-loop-place
invariant-loop-place g l = Some l.made ≡ told (arrays_on (stack_of l.machine) l.place)
