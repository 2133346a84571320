use Rattle.std.proofs.Common.{◌-◌, drop, take, arith}
use Rattle.fm_frames.proofs.FrameValues.{given-down, laid-down}
use Rattle.fm_frames.proofs.frames.Frames.give_back_in_room.Goals as goal

pub returns-clause-given : goal.returns-clause-given
returns-clause-given c told =
    given-down c.self.inside.has_frames c.self.inside.values c.copy_down.new.values c.self.inside.used c.args.words
    c.self.inside.topmost c.in-Some.caller c.self.inside.callers.items c.pop.new.self.items c.args.self.now c.if-not-self.false c.self.invariant
    c.self.view_is c.in-Some.ensures.items (omega arith) c.copy_down.ensures.copied

pub invariant_of-self-2 : goal.invariant_of-self-2
invariant_of-self-2 c =
    laid-down c.self.inside.has_frames c.self.inside.values c.copy_down.new.values
    (drop (c.self.inside.used - c.args.words) (take c.self.inside.used c.self.inside.values)) c.self.inside.used c.args.words
    c.self.inside.topmost c.in-Some.caller c.self.inside.callers.items c.pop.new.self.items c.if-not-self.false c.self.invariant
    c.in-Some.ensures.items (omega arith) c.copy_down.ensures.len c.copy_down.ensures.copied
