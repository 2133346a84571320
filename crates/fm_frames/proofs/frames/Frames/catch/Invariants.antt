use Rattle.std.proofs.Common.{◌≡◌, drop}
use Rattle.fm_frames.proofs.frames.Frames.catch.Given as goal

abbrev pub invariant-loop-popped : goal.invariant-loop-popped
invariant-loop-popped l = l.self ≡ drop l.popped l.fn.self
