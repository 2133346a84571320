use Rattle.std.proofs.Common.{◌+◌, if◌then◌else◌}
use Rattle.fm_run.proofs.runs.do_frequent_ones.Given as goal
use Rattle.fm_run.specs.inner.Going.{Keeps, LeadsQuietly, left_of}

abbrev pub invariant-loop-goes : goal.invariant-loop-goes
invariant-loop-goes g l =
    LeadsQuietly l.program g.M.Memory.choose l.steps l.fn.machine l.machine × Keeps l.program l.steps l.machine

abbrev pub decreases-loop-goes : goal.decreases-loop-goes
decreases-loop-goes g l = left_of l.steps l.machine + (if l.goes then 1 else 0)
