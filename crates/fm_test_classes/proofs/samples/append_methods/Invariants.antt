use Rattle.std.proofs.Common.{◌≡◌, ◌++◌, take}
use Rattle.fm_test_classes.specs.Samples.{joined, parts_of_methods}
use Rattle.fm_test_classes.proofs.samples.append_methods.Given as goal

-- the methods so far are after the bytes
abbrev pub invariant-loop-method : goal.invariant-loop-method
invariant-loop-method l = l.bytes.items ≡ l.initial.bytes.items ++ joined (parts_of_methods (take l.method-index l.methods))
