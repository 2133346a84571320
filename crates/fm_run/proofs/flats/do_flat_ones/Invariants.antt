use Rattle.std.proofs.Common.{◌-◌}
use Rattle.fm_fast.specs.Flows.{resumed}
use Rattle.fm_run.proofs.flats.do_flat_ones.Given as goal
use Rattle.fm_run.specs.inner.Flats.{WentOn}

abbrev pub invariant-loop-counted : goal.invariant-loop-counted
invariant-loop-counted g l = WentOn l.program g.M.Memory.choose l.steps l.fn.machine (resumed l.machine l.frames l.counted)

abbrev pub decreases-loop-counted : goal.decreases-loop-counted
decreases-loop-counted g l = l.steps - l.counted
