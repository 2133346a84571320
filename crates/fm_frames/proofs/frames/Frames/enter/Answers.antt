use Rattle.std.proofs.Common.{◌≡◌, ◌+◌, true, rules, arith}
use Rattle.fm_frames.proofs.FrameValues.{entered}
use Rattle.fm_frames.proofs.frames.Frames.enter.Goals as goal

pub returns : goal.returns
returns c =
    let there : c.self.inside.has_frames ≡ true = search rules in
    entered c.self.inside.has_frames c.self.inside.values c.clear_values.new.values c.self.inside.used c.self.inside.topmost
    c.self.inside.callers.items c.push.new.self.items c.args.method.0 c.args.max_locals c.args.words
    (c.self.inside.topmost.stack + c.saturating_sub.result) c.max-stack.result c.args.self.now there c.self.invariant c.self.view_is (omega arith)
    (omega arith) c.in_ok-clear_values.ensures.cleared c.in_ok-push.ensures.items
