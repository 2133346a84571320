use Rattle.std.proofs.Common.{◌-◌}
use Rattle.fm_fast.specs.Flows.{resumed}
use Rattle.fm_run.proofs.flats.flow.Given as goal
use Rattle.fm_run.specs.inner.Flats.{done_by, IsStraight}
use Rattle.fm_run.specs.inner.Quicks.{AreNextQuicks}

abbrev pub invariant-straight : goal.invariant-straight
invariant-straight g l =
    IsStraight l.program g.M.Memory.choose l.steps l.fn.before (resumed l.fn.machine l.fn.taken l.fn.before) l.machine l.frames l.reach
    × AreNextQuicks l.program l.frames l.quicks

abbrev pub decreases-straight : goal.decreases-straight
decreases-straight g l = l.steps - done_by l.reach l.frames
