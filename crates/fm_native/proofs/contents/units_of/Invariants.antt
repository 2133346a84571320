use Rattle.std.proofs.Common.{◌≡◌, take}
use Rattle.fm_native.specs.inner.Asked.{units_in}
use Rattle.fm_native.proofs.contents.units_of.Given as goal

abbrev pub invariant-loop-place : goal.invariant-loop-place
invariant-loop-place g l = l.units.items ≡ take l.place (units_in l.machine.areas.store l.text)
