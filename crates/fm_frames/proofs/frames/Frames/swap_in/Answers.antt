use Rattle.std.proofs.Common.{◌-◌, refl, reverse, arith}
use Rattle.fm_frames.proofs.FrameValues.{swapped}
use Rattle.fm_frames.proofs.frames.Frames.swap_in.Goals as goal

pub returns : goal.returns
returns c =
    rw c.set.ensures
    (swapped c.self.inside.has_frames c.self.inside.values c.self.inside.used c.args.takes (c.self.inside.used - c.args.takes)
    c.self.inside.topmost (reverse c.self.inside.callers.items) c.args.value c.args.self.now c.self.invariant c.self.view_is c.if-takes-eq0.false
    (omega arith) refl)
