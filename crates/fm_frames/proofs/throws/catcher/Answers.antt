use Rattle.std.proofs.Common.{◌∙◌, arith}
use Rattle.fm_frames.proofs.Catches.{leaves-main}
use Rattle.fm_frames.proofs.throws.catcher.Goals as goal

pub returns : goal.returns
returns c v =
    c.loop-above.invariant v
    ∙ leaves-main c.args.program.now c.args.t v c.args.frames.now c.loop-above.above c.class_of.result.0
    (omega (arith, c.count-above-end.ensures)) c.class_of.ensures
