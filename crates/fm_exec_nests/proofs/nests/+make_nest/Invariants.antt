use Rattle.std.proofs.Common.{length}
use Rattle.fm_exec_nests.proofs.NestSteps.{IsFilling}
use Rattle.fm_exec_nests.proofs.nests.+make_nest.Given as goal

abbrev pub decreases-make_nest : goal.decreases-make_nest
decreases-make_nest g l = length l.lens.now

abbrev pub invariant-loop-place : goal.invariant-loop-place
invariant-loop-place g l =
    IsFilling l.program g.M.Memory.choose l.initial.machine l.machine l.fn.t l.len l.inner l.array.0 l.place
