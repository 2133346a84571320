use Rattle.std.proofs.Common.{sym, subst}
use Rattle.fm_frames.proofs.machine.Machine.throw.Goals as goal
use Rattle.fm_frames.specs.States.{State}
use Rattle.fm_frames.specs.inner.Doings.{AreFramesIn}

pub catcher-requires-clause-methods : goal.catcher-requires-clause-methods
catcher-requires-clause-methods g c =
    subst (λ (x : State). AreFramesIn c.args.program.now x.frames) (sym c.self.view_is) c.requires.methods
