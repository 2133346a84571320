-- One lemma over the instructions that take numbers, give one and do nothing else: what holds of each way in which their rows go on holds of
-- their effects.
use Rattle.std.proofs.Common.{◌≡◌, ℕ, ℤ, Bool, true, false, List, codes, length, Option, Some, refl, slice_get}
use Rattle.std.proofs.lemmas.Bool.{false≢true}
use Rattle.fm_alu.specs.Conversions.{result_of_comparison, result_of_conversion}
use Rattle.fm_alu.specs.Operations.{result_of_op}
use Rattle.fm_code.specs.StackWords.{gives_long, number_given, number_words, takes_long}
use Rattle.fm_code.specs.declared.instructions.Insn.{Insn}
use Rattle.fm_code.specs.declared.instructions.Insn.TheVariants as insn
use Rattle.fm_types.proofs.EachCheckRow.{is_number, wanted_by}
use Rattle.fm_types.specs.NumberRows.{number_slots}
use Rattle.fm_types.specs.declared.slots.Slot.TheVariants as slot
use Rattle.fm_world.specs.Programs.{Outline}
use Rattle.fm_world.specs.declared.uses.Use.{Use}
use Rattle.fm_frames.specs.Effects.{Effect, given_number, int_word, long_words, words}
use Rattle.fm_frames.specs.NumberRows.{compare_effect, convert_effect, int_negate_effect, int_op_effect, int_shift_effect, long_negate_effect, long_op_effect, long_shift_effect}
use Rattle.fm_frames.specs.Operands.{on_int, on_long, on_number, thrown}
use Rattle.fm_frames.specs.Rows.{effect_of}
use Rattle.fm_frames.specs.Sights.{Sight}
use Rattle.fm_frames.proofs.Cases.{by_thrown}

-- what holds where an operand that is wanted is looked at, where a division by 0 throws, and where a number is given
pub record NumberLeaves (o : Outline) (s : List Sight) (i : Insn) (A : Effect → Type 0) : Type 0 where
  pub int : (n : ℕ) → slice_get (wanted_by i) n ≡ Some slot.Int → (k : ℤ → Effect) → ((a : ℤ) → A (k a)) → A (on_int s n k)
  pub long : (n : ℕ) → slice_get (wanted_by i) n ≡ Some slot.Long → (k : ℤ → Effect) → ((a : ℤ) → A (k a)) → A (on_long s n k)
  pub thrown : A (thrown o (codes "java/lang/ArithmeticException"))
  pub gives : (n : ℤ) → A (words (length (wanted_by i)) (given_number (number_given i) n))

module _ (o : Outline) (s : List Sight) (method : ℕ) (u : Use) (byte : Option ℕ) (A : Effect → Type 0) where
  abbrev L : Insn → Type 0
  L i = NumberLeaves o s i A

  converted : (takes gives : Bool) (result : ℤ → ℤ)
      → ((n : ℕ) → slice_get (number_slots takes) n ≡ Some slot.Int → (k : ℤ → Effect) → ((a : ℤ) → A (k a)) → A (on_int s n k))
      → ((n : ℕ) → slice_get (number_slots takes) n ≡ Some slot.Long → (k : ℤ → Effect) → ((a : ℤ) → A (k a)) → A (on_long s n k))
      → ((n : ℤ) → A (words (length (number_slots takes)) (given_number gives n)))
      → A (on_number takes s (λ a. words (number_words takes) (given_number gives (result a))))
  converted true gives result int long given = long 1 refl (λ a. words 2 (given_number gives (result a))) (λ a. given (result a))
  converted false gives result int long given = int 0 refl (λ a. words 1 (given_number gives (result a))) (λ a. given (result a))

  pub each_number : (i : Insn) → is_number i ≡ true → L i → A (effect_of o method u i byte s)
  unfolding effect_of compare_effect convert_effect int_negate_effect int_op_effect int_shift_effect long_negate_effect long_op_effect long_shift_effect
  each_number (insn.IntOp op) is l =
      l.int 0 refl _ (λ b. l.int 1 refl _ (λ a. by_thrown A o (result_of_op op 32 a b) (λ n. words 2 (int_word n)) l.thrown (λ n. l.gives n)))
  each_number (insn.LongOp op) is l =
      l.long 1 refl _ (λ b. l.long 3 refl _ (λ a. by_thrown A o (result_of_op op 64 a b) (λ n. words 4 (long_words n)) l.thrown (λ n. l.gives n)))
  each_number insn.IntNeg is l = l.int 0 refl _ (λ a. l.gives _)
  each_number insn.LongNeg is l = l.long 1 refl _ (λ a. l.gives _)
  each_number (insn.IntShift shift) is l = l.int 0 refl _ (λ n. l.int 1 refl _ (λ a. l.gives _))
  each_number (insn.LongShift shift) is l = l.int 0 refl _ (λ n. l.long 2 refl _ (λ a. l.gives _))
  each_number (insn.Convert to) is l = converted (takes_long to) (gives_long to) (result_of_conversion to) l.int l.long l.gives
  each_number insn.LongCompare is l = l.long 1 refl _ (λ b. l.long 3 refl _ (λ a. l.gives (result_of_comparison a b)))
  each_number i is l = absurd (false≢true is)
