use Rattle.std.proofs.Common.{◌≡◌, drop}
use Rattle.fm_decode.specs.inner.Targets.{numbers_of}
use Rattle.fm_decode.proofs.SwitchesLoops.{behind}
use Rattle.fm_decode.proofs.targets.ItemStarts.numbers_of.Given as goal

abbrev pub invariant-loop-target : goal.invariant-loop-target
invariant-loop-target l = numbers_of l.self.numbers.items l.targets ≡ behind l.numbers.items (numbers_of l.self.numbers.items (drop l.target-index l.targets))
