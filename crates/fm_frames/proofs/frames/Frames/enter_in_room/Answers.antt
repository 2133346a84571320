use Rattle.std.proofs.Common.{◌≡◌, ◌+◌, true, rules, arith}
use Rattle.fm_frames.proofs.FrameValues.{entered}
use Rattle.fm_frames.proofs.frames.Frames.enter_in_room.Goals as goal

pub returns-clause-entered : goal.returns-clause-entered
returns-clause-entered c told =
    let there : c.self.inside.has_frames ≡ true = search rules in
    entered c.self.inside.has_frames c.self.inside.values c.clear_between.new.values c.self.inside.used c.self.inside.topmost
    c.self.inside.callers.items c.push_reserved.new.self.items c.args.method.0 c.args.max_locals c.args.words
    (c.self.inside.topmost.stack + c.saturating_sub.result) c.max-stack.result c.args.self.now there c.self.invariant c.self.view_is (omega arith)
    (omega arith) c.clear_between.ensures.cleared c.push_reserved.ensures.items
