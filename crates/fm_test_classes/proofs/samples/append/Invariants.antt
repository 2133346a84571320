use Rattle.std.proofs.Common.{◌≡◌, ◌++◌, take}
use Rattle.fm_test_classes.specs.Samples.{joined}
use Rattle.fm_test_classes.proofs.samples.append.Given as goal

-- the parts so far are after the bytes
abbrev pub invariant-loop-part : goal.invariant-loop-part
invariant-loop-part l = l.bytes.items ≡ l.initial.bytes.items ++ joined (take l.part-index l.parts)
