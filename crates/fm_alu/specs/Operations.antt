-- What an operation on two ints (w = 32) or two longs (w = 64) gives (JVMS 6.5).
use Rattle.std.specs.Prelude.{ℕ, ◌/◌, ◌%◌, ℤ, pos, ◌+ℤ◌, ◌-ℤ◌, ◌*ℤ◌, unsigned_abs, bit_and, bit_or, bit_xor, Option, Some, None, ◌==◌, if◌then◌else◌, ⊤}
use Rattle.std.specs.Int.{int_signum}
use Rattle.fm_code.specs.declared.operations.Op.{Op}
use Rattle.fm_code.specs.declared.operations.Op.TheVariants.{Add, Sub, Mul, Div, Rem, And, Or, Xor}
use Rattle.fm_alu.specs.TwosComplement.{low_bits, signed}

-- a / b, rounded towards zero: the quotient of the magnitudes, negative where the signs differ
unfoldable pub quotient : ℤ → ℤ → ℤ
quotient a b = int_signum a *ℤ int_signum b *ℤ pos (unsigned_abs a / unsigned_abs b)

-- what that division leaves over: the remainder of the magnitudes, with the sign of the dividend a
unfoldable pub remainder : ℤ → ℤ → ℤ
remainder a b = int_signum a *ℤ pos (unsigned_abs a % unsigned_abs b)

-- z, or nothing where the divisor b is 0
abbrev pub unless_zero : ℤ → ℤ → Option ℤ
unless_zero b z = if unsigned_abs b == 0 then None else Some z

-- the operation is a division, so that the divisor 0 has no result
abbrev pub IsDivision : Op → Type 0
IsDivision Div = ⊤
IsDivision Rem = ⊤
IsDivision _ = ⊥

-- the result of an operation on two numbers of w bits
abbrev pub result_of_op : Op → ℕ → ℤ → ℤ → Option ℤ
-- iadd, ladd: the low bits of the sum
result_of_op Add w a b = Some (signed w (a +ℤ b))
-- isub, lsub: the low bits of the difference
result_of_op Sub w a b = Some (signed w (a -ℤ b))
-- imul, lmul: the low bits of the product
result_of_op Mul w a b = Some (signed w (a *ℤ b))
-- idiv, ldiv: rounded towards zero. Only the least number by −1 is out of range, and gives itself
result_of_op Div w a b = unless_zero b (signed w (quotient a b))
-- irem, lrem: the remainder of that division
result_of_op Rem w a b = unless_zero b (remainder a b)
-- iand, land: bit by bit
result_of_op And w a b = Some (signed w (pos (bit_and (low_bits w a) (low_bits w b))))
-- ior, lor: bit by bit
result_of_op Or w a b = Some (signed w (pos (bit_or (low_bits w a) (low_bits w b))))
-- ixor, lxor: bit by bit
result_of_op Xor w a b = Some (signed w (pos (bit_xor (low_bits w a) (low_bits w b))))
