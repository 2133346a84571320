use Rattle.std.proofs.Common.{sym, subst, arith}
use Rattle.std.proofs.lemmas.Nat.{one_shl}
use Rattle.fm_cells.specs.Sizes.{IsPack}
use Rattle.fm_cells.proofs.DigitLaws.{IsPack-power}
use Rattle.fm_cells.proofs.headers.pack_in.Goals as goal

pub returns-clause-pack : goal.returns-clause-pack
returns-clause-pack c = subst IsPack (sym (one_shl c.exponent_in.result 8 (omega (arith, c.exponent_in.ensures.small)))) (IsPack-power c.exponent_in.result c.exponent_in.ensures.small)
