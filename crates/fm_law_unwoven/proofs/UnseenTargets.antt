-- An effect doesn't look at targets, and the opposite of a branch goes where the branch doesn't.
use Rattle.std.proofs.Common.{◌≡◌, ℕ, ℤ, pos, not, Bool, true, false, Option, Some, None, refl, sym, ap, ◌∙◌, arith, slice_get}
use Rattle.std.specs.Prelude.{int_lt, int_le}
use Rattle.std.specs.Ordering.{int_eq}
use Rattle.std.proofs.Math.Bool.{not-not}
use Rattle.std.proofs.lemmas.Int.{ints}
use Rattle.std.proofs.lemmas.List.{length-map}
use Rattle.fm_code.specs.declared.instructions.Insn.TheVariants as insn
use Rattle.fm_code.specs.declared.operations.Test.{Test}
use Rattle.fm_code.specs.declared.operations.Test.TheVariants as test
use Rattle.fm_layout.specs.Spelling.{opposite_test}
use Rattle.fm_layout.specs.declared.rooms.Condition.TheVariants as condition
use Rattle.fm_frames.specs.Effects.{Effect, going}
use Rattle.fm_frames.specs.JumpRows.{holds, int_jump_effect, jumps_if, lookup_effect, null_jump_effect, pair_jump_effect, table_effect}
use Rattle.fm_frames.specs.Operands.{on_int_of, on_reference_of}
use Rattle.fm_frames.specs.Rows.{effect_of}
use Rattle.fm_frames.specs.Sights.{Gone, Null, Sight, Thing, Word}
use Rattle.fm_frames.specs.declared.values.Value.TheVariants as value
use Rattle.fm_law_unwoven.specs.UnseenCode.{exchanged, OppositesExchange, TargetsAreUnseen, with_exchanged}

-- ---- targets

pub targets_unseen : TargetsAreUnseen
unfolding effect_of
targets_unseen o method u to (insn.IfInt t target) byte s = refl
targets_unseen o method u to (insn.IfPair t target) byte s = refl
targets_unseen o method u to (insn.IfSame same target) byte s = refl
targets_unseen o method u to (insn.IfNull null target) byte s = refl
targets_unseen o method u to (insn.Goto target) byte s = refl
targets_unseen o method u to (insn.Table low others targets) byte s = ap (λ count. table_effect low count s) (length-map targets to)
targets_unseen o method u to (insn.Lookup others keys targets) byte s = ap (λ count. lookup_effect keys count s) (length-map targets to)
targets_unseen o method u to i byte s = refl

-- ---- opposite branches

le_opposite : (a b : ℤ) → int_lt b a ≡ not (int_le a b)
le_opposite a b = grind (arith, ints)

lt_opposite : (a b : ℤ) → int_le b a ≡ not (int_lt a b)
lt_opposite a b = grind (arith, ints)

opposite_holds : (t : Test) (a b : ℤ) → holds (opposite_test t) a b ≡ not (holds t a b)
opposite_holds test.Eq a b = refl
opposite_holds test.Ne a b = sym (not-not (int_eq a b))
opposite_holds test.Lt a b = lt_opposite a b
opposite_holds test.Ge a b = le_opposite b a
opposite_holds test.Gt a b = lt_opposite b a
opposite_holds test.Le a b = le_opposite a b

jumps_exchanged : (taken : Bool) → jumps_if (not taken) ≡ exchanged (jumps_if taken)
jumps_exchanged true = refl
jumps_exchanged false = refl

-- what goes on by a test, and by its opposite
going_exchanged : (takes : ℕ) (other taken : Bool) → other ≡ not taken → going takes (jumps_if other) ≡ with_exchanged (going takes (jumps_if taken))
going_exchanged takes other taken is = ap (λ b. going takes (jumps_if b)) is ∙ ap (λ next. going takes next) (jumps_exchanged taken)

on_int_exchanged : (s : Option Sight) (k l : ℤ → Effect) → ((n : ℤ) → k n ≡ with_exchanged (l n)) → on_int_of s k ≡ with_exchanged (on_int_of s l)
on_int_exchanged (Some (Word (value.Int n))) k l each = each n
on_int_exchanged s k l each = refl

on_reference_exchanged : (s : Option Sight) (k l : Bool → Effect) → ((b : Bool) → k b ≡ with_exchanged (l b))
    → on_reference_of s k ≡ with_exchanged (on_reference_of s l)
on_reference_exchanged None k l each = refl
on_reference_exchanged (Some (Word v)) k l each = refl
on_reference_exchanged (Some Null) k l each = each true
on_reference_exchanged (Some (Thing it)) k l each = each false
on_reference_exchanged (Some Gone) k l each = each false

pub opposites_exchange : OppositesExchange
unfolding effect_of int_jump_effect pair_jump_effect null_jump_effect
opposites_exchange o method u (condition.Int t) target other byte s =
    on_int_exchanged (slice_get s 0) _ _
    (λ a. going_exchanged 1 (holds (opposite_test t) a (pos 0)) (holds t a (pos 0)) (opposite_holds t a (pos 0)))
opposites_exchange o method u (condition.Pair t) target other byte s =
    on_int_exchanged (slice_get s 0) _ _
    (λ b. on_int_exchanged (slice_get s 1) _ _ (λ a. going_exchanged 2 (holds (opposite_test t) a b) (holds t a b) (opposite_holds t a b)))
opposites_exchange o method u (condition.Same true) target other byte s = refl
opposites_exchange o method u (condition.Same false) target other byte s = refl
opposites_exchange o method u (condition.Null true) target other byte s =
    on_reference_exchanged (slice_get s 0) _ _ (λ b. going_exchanged 1 (not b) b refl)
opposites_exchange o method u (condition.Null false) target other byte s =
    on_reference_exchanged (slice_get s 0) _ _ (λ b. going_exchanged 1 b (not b) (sym (not-not b)))
