use Rattle.std.proofs.Common.{◌≡◌, ◌∙◌, arith, w64, to_z, of_z}
use Rattle.std.proofs.lemmas.Int.{ints, to_z-of_z}
use Rattle.fm_alu.proofs.TwosComplementLemmas.{low_bits-lt}
use Rattle.fm_native.proofs.spelling.char_units.Goals as goal

pub overflow_cast-unit : goal.overflow_cast-unit
overflow_cast-unit c =
    let same : to_z w64 (of_z w64 c.convert-unit.result) ≡ c.convert-unit.result = grind (arith, ints, to_z-of_z) in
    rw (same ∙ c.convert-unit.ensures.value) (tt, omega (arith, low_bits-lt 16 (to_z w64 (of_z w64 c.from.result))))
