-- The rows of constants, locals, moves of the stack and numbers (JVMS 6.5).
use Rattle.std.specs.Prelude.{ℕ, ◌+◌, ℤ, pos, ◌-ℤ◌, List, [], ◌∷◌, map, Option, Some, None}
use Rattle.fm_alu.specs.Conversions.{result_of_comparison, result_of_conversion}
use Rattle.fm_alu.specs.Operations.{result_of_op}
use Rattle.fm_alu.specs.Shifts.{result_of_shift}
use Rattle.fm_alu.specs.TwosComplement.{low_bits, signed}
use Rattle.fm_code.specs.StackWords.{gives_long, number_words, takes_long}
use Rattle.fm_code.specs.declared.instructions.Insn.{Insn}
use Rattle.fm_code.specs.declared.operations.Conv.{Conv}
use Rattle.fm_code.specs.declared.operations.Op.{Op}
use Rattle.fm_code.specs.declared.operations.Reg.{Reg}
use Rattle.fm_code.specs.declared.operations.Reg.TheVariants as reg
use Rattle.fm_code.specs.declared.operations.Shift.{Shift}
use Rattle.fm_types.specs.Moves.{Moves, moves_of}
use Rattle.fm_world.specs.Programs.{Outline}
use Rattle.fm_world.specs.declared.uses.Use.{Use}
use Rattle.fm_world.specs.declared.uses.Use.TheVariants as resolved
use Rattle.fm_frames.specs.Effects.{Effect, Plain, OfOperand, OfLocal, LocalPlus, giving_literal, words, stuck, given_number, int_word, long_words}
use Rattle.fm_frames.specs.Literals.{class_literal}
use Rattle.fm_frames.specs.Operands.{on_int, on_long, on_number, or_thrown}
use Rattle.fm_frames.specs.Sights.{Sight}
use Rattle.fm_frames.specs.declared.values.Value.TheVariants as value

-- ---- constants

-- ldc, ldc_w and ldc2_w: the object of a text, or of a type's class literal, is made at its first use
unfoldable pub constant_effect : Outline → Use → Effect
constant_effect o (resolved.OfType t) = giving_literal 0 (class_literal o t.0)
constant_effect o (resolved.OfField f t) = stuck
constant_effect o (resolved.OfMethod m t) = stuck
constant_effect o (resolved.OfInt n) = words 0 (int_word n)
constant_effect o (resolved.OfLong n) = words 0 (long_words n)
constant_effect o (resolved.OfText text) = giving_literal 0 text
constant_effect o resolved.Unused = stuck

-- ---- locals

-- what iload, lload and aload do (JVMS 6.5)
unfoldable pub load_effect : Reg → ℕ → Effect
load_effect reg.Int k = words 0 (OfLocal k ∷ [])
load_effect reg.Long k = words 0 (Plain value.Top ∷ OfLocal k ∷ [])
load_effect reg.Ref k = words 0 (OfLocal k ∷ [])

-- a long is put into the first of its two locals, and the second one has no value
unfoldable pub store_effect : Reg → ℕ → Effect
store_effect reg.Int k = record (words 1 []) { writes = (k, OfOperand 0) ∷ [] }
store_effect reg.Long k = record (words 2 []) { writes = (k, OfOperand 1) ∷ (k + 1, Plain value.Top) ∷ [] }
store_effect reg.Ref k = record (words 1 []) { writes = (k, OfOperand 0) ∷ [] }

-- a number is added to an int local (JVMS 6.5.iinc)
abbrev pub increment_effect : ℕ → ℤ → Effect
increment_effect k by = record (words 0 []) { writes = (k, LocalPlus k by) ∷ [] }

-- ---- moves

-- the words of a stack move (JVMS 6.5.dup, 6.5.swap)
abbrev pub moved_words : Option Moves → Effect
moved_words None = stuck
moved_words (Some m) = words m.takes (map OfOperand m.gives)

-- what pop, dup, swap and their like do (JVMS 6.5)
unfoldable pub move_effect : Insn → Effect
move_effect i = moved_words (moves_of i)

-- ---- numbers: of two operands the second one is on top

-- what iadd and its like do; idiv and irem may throw (JVMS 6.5)
unfoldable pub int_op_effect : Outline → Op → List Sight → Effect
int_op_effect o op s = on_int s 0 (λ b. on_int s 1 (λ a. or_thrown o (result_of_op op 32 a b) (λ n. words 2 (int_word n))))

-- what ladd and its like do; ldiv and lrem may throw (JVMS 6.5)
unfoldable pub long_op_effect : Outline → Op → List Sight → Effect
long_op_effect o op s = on_long s 1 (λ b. on_long s 3 (λ a. or_thrown o (result_of_op op 64 a b) (λ n. words 4 (long_words n))))

-- what ineg does (JVMS 6.5)
unfoldable pub int_negate_effect : List Sight → Effect
int_negate_effect s = on_int s 0 (λ a. words 1 (int_word (signed 32 (pos 0 -ℤ a))))

-- what lneg does (JVMS 6.5)
unfoldable pub long_negate_effect : List Sight → Effect
long_negate_effect s = on_long s 1 (λ a. words 2 (long_words (signed 64 (pos 0 -ℤ a))))

-- the low five bits of the count, and of a long's the low six
unfoldable pub int_shift_effect : Shift → List Sight → Effect
int_shift_effect shift s = on_int s 0 (λ n. on_int s 1 (λ a. words 2 (int_word (result_of_shift shift 32 a (low_bits 5 n)))))

-- what lshl, lshr and lushr do (JVMS 6.5)
unfoldable pub long_shift_effect : Shift → List Sight → Effect
long_shift_effect shift s = on_int s 0 (λ n. on_long s 2 (λ a. words 3 (long_words (result_of_shift shift 64 a (low_bits 6 n)))))

-- an int on top becomes a number of another kind
abbrev pub int_converted : Conv → List Sight → Effect
int_converted to s = on_int s 0 (λ a. words 1 (int_word (result_of_conversion to a)))

-- the result of a conversion takes the place of the number
abbrev pub converted : Conv → ℤ → Effect
converted to a = words (number_words (takes_long to)) (given_number (gives_long to) (result_of_conversion to a))

-- what i2l, l2i, i2b, i2c and i2s do (JVMS 6.5)
unfoldable pub convert_effect : Conv → List Sight → Effect
convert_effect to s = on_number (takes_long to) s (converted to)

-- what lcmp does (JVMS 6.5)
unfoldable pub compare_effect : List Sight → Effect
compare_effect s = on_long s 1 (λ b. on_long s 3 (λ a. words 4 (int_word (result_of_comparison a b))))
