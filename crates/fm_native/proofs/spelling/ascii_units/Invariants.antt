use Rattle.std.proofs.Common.{◌≡◌, take}
use Rattle.fm_native.proofs.spelling.ascii_units.Given as goal

abbrev pub invariant-loop-byte : goal.invariant-loop-byte
invariant-loop-byte l = l.units.items ≡ take l.byte-index l.bytes
