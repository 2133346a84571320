-- What a conversion and a comparison of two longs give (JVMS 6.5).
use Rattle.std.specs.Prelude.{ℤ, pos, negsuc, int_lt, if◌then◌else◌, FitsSigned, ⊤}
use Rattle.std.specs.Int.{w32}
use Rattle.fm_code.specs.declared.operations.Conv.{Conv}
use Rattle.fm_code.specs.declared.operations.Conv.TheVariants.{IntToLong, LongToInt, IntToByte, IntToChar, IntToShort}
use Rattle.fm_alu.specs.TwosComplement.{low_bits, signed}

-- a number that the conversion is of: any long, or one in the range of an int
abbrev pub IsOperandOf : Conv → ℤ → Type 0
IsOperandOf LongToInt a = ⊤
IsOperandOf _ a = FitsSigned w32 a

-- the result of a conversion
abbrev pub result_of_conversion : Conv → ℤ → ℤ
-- i2l: the same number
result_of_conversion IntToLong a = a
-- l2i: the low 32 bits, read with a sign
result_of_conversion LongToInt a = signed 32 a
-- i2b: the low 8 bits, read with a sign
result_of_conversion IntToByte a = signed 8 a
-- i2c: the low 16 bits, read without a sign
result_of_conversion IntToChar a = pos (low_bits 16 a)
-- i2s: the low 16 bits, read with a sign
result_of_conversion IntToShort a = signed 16 a

-- lcmp: 1 where a is greater than b, 0 where they are equal, −1 where a is less
abbrev pub result_of_comparison : ℤ → ℤ → ℤ
result_of_comparison a b = if int_lt b a then pos 1 else (if int_lt a b then negsuc 0 else pos 0)
