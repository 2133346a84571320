use Rattle.std.proofs.Common.{◌≡◌, take}
use Rattle.fm_frames.specs.NativeRows.{dotted}
use Rattle.fm_frames.proofs.names.dotted.Given as goal

abbrev pub invariant-loop-letter : goal.invariant-loop-letter
invariant-loop-letter l = l.bytes.items ≡ dotted (take l.letter-index l.name)
