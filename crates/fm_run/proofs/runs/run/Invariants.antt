use Rattle.fm_run.specs.inner.Going.{left_of, Ran}
use Rattle.fm_run.proofs.runs.run.Given as goal

abbrev pub invariant-loop-alloc : goal.invariant-loop-alloc
invariant-loop-alloc g l =
    Ran l.program g.M.Memory.choose l.steps l.fn.machine l.machine (g.S.Sink.output l.fn.out) (g.S.Sink.output l.out)

abbrev pub decreases-loop-alloc : goal.decreases-loop-alloc
decreases-loop-alloc g l = left_of l.steps l.machine
