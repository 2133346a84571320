use Rattle.std.proofs.Common.{arith}
use Rattle.std.proofs.lemmas.Int.{ints, to_z-of_z, to_z_pos}
use Rattle.fm_native.proofs.units.difference.Goals as goal

pub returns : goal.returns
returns c = grind (arith, ints, to_z-of_z, to_z_pos)
