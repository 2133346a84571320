-- What a shift of an int (w = 32) or a long (w = 64) gives (JVMS 6.5).
use Rattle.std.specs.Prelude.{ℕ, ◌/◌, ◌^◌, ℤ, pos, negsuc, ◌*ℤ◌}
use Rattle.fm_code.specs.declared.operations.Shift.{Shift}
use Rattle.fm_code.specs.declared.operations.Shift.TheVariants.{Left, Right, RightZero}
use Rattle.fm_alu.specs.TwosComplement.{low_bits, signed}

-- a / d, rounded down. `negsuc a` is −(a + 1)
unfoldable pub floor_quotient : ℤ → ℕ → ℤ
floor_quotient (pos a) d = pos (a / d)
floor_quotient (negsuc a) d = negsuc (a / d)

-- the result of a shift of a number of w bits by k bits, where k is below w
abbrev pub result_of_shift : Shift → ℕ → ℤ → ℕ → ℤ
-- ishl, lshl: the low bits of a · 2 ^ k
result_of_shift Left w a k = signed w (a *ℤ pos (2 ^ k))
-- ishr, lshr: a / 2 ^ k, rounded down
result_of_shift Right w a k = floor_quotient a (2 ^ k)
-- iushr, lushr: the w bits of a, read without a sign, divided by 2 ^ k
result_of_shift RightZero w a k = signed w (pos (low_bits w a / 2 ^ k))
