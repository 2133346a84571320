use Rattle.std.proofs.Common.{◌≡◌, drop}
use Rattle.fm_frames.specs.NativeRows.{compared}
use Rattle.fm_native.proofs.units.compare_units.Given as goal

abbrev pub invariant-loop-place : goal.invariant-loop-place
invariant-loop-place l = compared (drop l.place l.units) (drop l.place l.others) ≡ compared l.units l.others
