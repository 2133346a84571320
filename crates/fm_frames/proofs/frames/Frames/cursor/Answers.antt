use Rattle.std.proofs.Common.{◌≡◌, true, ap, length, rules, arith}
use Rattle.fm_frames.proofs.FrameValues.{cursor-is, no-cursor}
use Rattle.fm_frames.proofs.frames.Frames.cursor.Goals as goal

pub returns-then-above-callers : goal.returns-then-above-callers
returns-then-above-callers c =
    let there : c.self.inside.has_frames ≡ true = search rules in
    let count = ap length c.as_slice-callers.ensures.value in
    no-cursor c.self.inside.has_frames c.self.inside.values c.self.inside.used c.self.inside.topmost c.self.inside.callers.items
    c.args.above c.args.self.now there c.self.view_is (omega arith)

pub returns : goal.returns
returns c =
    let there : c.self.inside.has_frames ≡ true = search rules in
    cursor-is c.self.inside.has_frames c.self.inside.values c.self.inside.used c.self.inside.topmost _ c.self.inside.callers.items
    c.as_slice-callers.result.now c.args.above c.args.self.now there c.self.view_is c.as_slice-callers.ensures.value
    c.if-above-eq0.false c.if-above-callers.false
