-- Marked slots of a stack from a depth on, and those in whose place another one is put.
use Rattle.std.proofs.Common.{◌≡◌, refl, ◌∙◌, ap, ℕ, zero, suc, ◌+◌, ◌<◌, ◌≤◌, ◌||◌, Bool, List, [], ◌∷◌, length, drop, set, Option, arith}
use Rattle.std.specs.List.{list_any, slice_get}
use Rattle.std.proofs.lemmas.Option.{slice_get-get_or}
use Rattle.fm_check_rows.specs.Outcomes.{is_some_marked, marks}
use Rattle.fm_check_rows.specs.inner.Replaced.{replaced_to, replacement}
use Rattle.fm_types.specs.States.{local_at, replaced}
use Rattle.fm_types.specs.declared.slots.Slot.{Slot}
use Rattle.fm_types.specs.declared.slots.Slot.TheVariants as slot

pub any_from : (mark : Option ℕ) (stack : List Slot) (depth : ℕ) → depth < length stack
    → list_any (marks mark) (drop depth stack) ≡ (is_some_marked mark (slice_get stack depth) || list_any (marks mark) (drop (depth + 1) stack))
any_from mark [] depth h = absurd (omega (arith, h))
any_from mark (s ∷ stack) zero h = refl
any_from mark (s ∷ stack) (suc depth) h =
    let more : suc (depth + 1) ≡ suc depth + 1 = omega arith in
    any_from mark stack depth (omega (arith, h))
    ∙ ap (λ n. is_some_marked mark (slice_get stack depth) || list_any (marks mark) (drop n (s ∷ stack))) more

-- a slot that is there passes the test that its option passes
pub marked-at : (mark : Option ℕ) (stack : List Slot) (depth : ℕ) → depth < length stack
    → is_some_marked mark (slice_get stack depth) ≡ marks mark (local_at stack depth)
marked-at mark stack depth inside = ap (is_some_marked mark) (slice_get-get_or stack depth slot.Top inside)

-- ---- slots in whose place another one is put

module _ (test : Slot → Bool) (other : Slot) where
  pub length-replaced_to : (n : ℕ) (slots : List Slot) → length (replaced_to test other n slots) ≡ length slots
  length-replaced_to zero slots = refl
  length-replaced_to (suc n) [] = refl
  length-replaced_to (suc n) (s ∷ slots) = ap suc (length-replaced_to n slots)

  next_replaced : (n : ℕ) (slots : List Slot) → n < length slots
      → set (replaced_to test other n slots) n (replacement test other (local_at (replaced_to test other n slots) n)) ≡ replaced_to test other (suc n) slots
  next_replaced n [] inside = absurd (omega (arith, inside))
  next_replaced zero (s ∷ slots) inside = refl
  next_replaced (suc n) (s ∷ slots) inside = ap (λ (rest : List Slot). replacement test other s ∷ rest) (next_replaced n slots (omega (arith, inside)))

  -- one place more
  pub replaced-more : (n : ℕ) (slots before after : List Slot) → n < length slots → before ≡ replaced_to test other n slots
      → after ≡ set before n (replacement test other (local_at before n)) → after ≡ replaced_to test other (n + 1) slots
  replaced-more n slots before after inside was is =
      let more : suc n ≡ n + 1 = omega arith in
      is ∙ ap (λ (xs : List Slot). set xs n (replacement test other (local_at xs n))) was ∙ next_replaced n slots inside
      ∙ ap (λ (k : ℕ). replaced_to test other k slots) more

  -- all places
  pub replaced-all : (n : ℕ) (slots : List Slot) → length slots ≤ n → replaced_to test other n slots ≡ replaced test other slots
  replaced-all zero [] past = refl
  replaced-all zero (s ∷ slots) past = absurd (omega (arith, past))
  replaced-all (suc n) [] past = refl
  replaced-all (suc n) (s ∷ slots) past = ap (λ (rest : List Slot). replacement test other s ∷ rest) (replaced-all n slots (omega (arith, past)))
