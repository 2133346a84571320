use Rattle.fm_frames.proofs.FrameValues.{dropped-next}
use Rattle.fm_frames.proofs.frames.Frames.catch.Goals as goal

pub loop-popped-preserved : goal.loop-popped-preserved
loop-popped-preserved c =
    dropped-next c.loop-popped.popped c.loop-popped.self c.args.self.now c.pop.new.self c.loop-popped.invariant c.pop.ensures
