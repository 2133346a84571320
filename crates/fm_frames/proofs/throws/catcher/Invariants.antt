use Rattle.std.proofs.Common.{◌≡◌, drop}
use Rattle.fm_frames.specs.Steps.{caught}
use Rattle.fm_frames.specs.declared.values.Value.{Value}
use Rattle.fm_frames.proofs.throws.catcher.Given as goal

abbrev pub invariant-loop-above : goal.invariant-loop-above
invariant-loop-above l = (v : Value) → caught l.program l.t v l.frames ≡ caught l.program l.t v (drop l.above l.frames)
