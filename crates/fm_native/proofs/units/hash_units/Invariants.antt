use Rattle.std.proofs.Common.{◌≡◌, drop, pos}
use Rattle.fm_frames.specs.NativeRows.{hash_from}
use Rattle.fm_native.proofs.units.hash_units.Given as goal

abbrev pub invariant-loop-unit : goal.invariant-loop-unit
invariant-loop-unit l = hash_from l.sum (drop l.unit-index l.units) ≡ hash_from (pos 0) l.units
