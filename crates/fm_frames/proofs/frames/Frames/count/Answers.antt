use Rattle.std.proofs.Common.{◌∙◌, ap, ◌+◌, length}
use Rattle.fm_frames.proofs.FrameValues.{counted}
use Rattle.fm_frames.proofs.frames.Frames.count.Goals as goal

pub returns-then-self : goal.returns-then-self
returns-then-self c =
    ap (λ n. n + 1) (ap length c.as_slice.ensures.value)
    ∙ counted c.self.inside.has_frames c.self.inside.values c.self.inside.used c.self.inside.topmost c.self.inside.callers.items
    c.args.self.now c.if-self.true c.self.view_is
