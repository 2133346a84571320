use Rattle.std.proofs.Common.{reverse, arith}
use Rattle.fm_frames.proofs.FrameValues.{set_at}
use Rattle.fm_frames.proofs.frames.Frames.set_local.Goals as goal

pub returns-then-place-count : goal.returns-then-place-count
returns-then-place-count c =
    rw c.set.ensures
    (set_at c.self.inside.has_frames c.self.inside.values c.self.inside.used c.self.inside.topmost (reverse c.self.inside.callers.items)
    c.args.place c.args.value c.args.self.now c.self.invariant c.self.view_is (omega arith))
