use Rattle.std.proofs.Common.{◌+◌, reverse, arith}
use Rattle.fm_frames.proofs.FrameValues.{dropped}
use Rattle.fm_frames.proofs.frames.Frames.drop_words.Goals as goal

pub returns : goal.returns
returns c =
    dropped c.self.inside.has_frames c.self.inside.values c.self.inside.used c.args.count
    (c.self.inside.topmost.stack + c.saturating_sub.result) c.self.inside.topmost (reverse c.self.inside.callers.items) c.args.self.now
    c.self.invariant c.self.view_is (omega arith)
