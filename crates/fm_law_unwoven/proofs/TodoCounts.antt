-- How many steps inserted things take at most.
use Rattle.std.proofs.Common.{◌≡◌, ℕ, ◌+◌, ◌-◌, ◌*◌, ◌<◌, ◌≤◌, ◌⊎◌, inl, inr, Bool, true, false, List, [], ◌∷◌, ◌++◌, length, map, Some, None, Contains, ⊎_elim, refl, sym, ap, ◌∙◌, arith, if◌then◌else◌}
use Rattle.std.specs.Prelude.{nat_eq}
use Rattle.std.specs.List.{IsDistinct, range_with_len}
use Rattle.std.proofs.lemmas.Bool.{cases_lt, eqb-true}
use Rattle.std.proofs.lemmas.List.{get_or_past}
use Rattle.std.proofs.lemmas.List.FromFn.{length-range_with_len}
use Rattle.std.proofs.lemmas.Map.Steps.{length-le_from_distinct_below}
use Rattle.std.proofs.lemmas.Map.Views.{Contains-from_any}
use Rattle.std.proofs.lemmas.Option.{none-some}
use Rattle.fm_base.proofs.ContainsFacts.{Contains-cons_cases}
use Rattle.fm_chain.specs.Chained.{looped_at}
use Rattle.fm_code.specs.declared.code_array.Code.{Code}
use Rattle.fm_code.proofs.EdgesLemmas.{Contains-map}
use Rattle.fm_conn.proofs.ListLemmas.{Contains-range}
use Rattle.fm_law_same_runs.specs.Beside.{greatest, Marks, most_added_locals, most_inserted_steps}
use Rattle.fm_law_unwoven.specs.Doing.{all_steps_to, steps_to}
use Rattle.fm_law_unwoven.specs.Laid.{frees_at, keeps_at, starts_of, to_free, to_keep, Todo, ToStart}
use Rattle.fm_law_unwoven.specs.WovenFrom.{HasInserted}
use Rattle.fm_place.specs.Insertions.{after_at, before_at, Holder, Insertions, numbers_of}
use Rattle.fm_frames.specs.Steps.{max_locals_of}
use Rattle.fm_world.specs.Programs.{code_at, Program}
use Rattle.fm_law_sound.proofs.CallsStand.{max_locals_in}

-- ---- steps of lists

pub steps_both : (one two : List Todo) → all_steps_to (one ++ two) ≡ all_steps_to one + all_steps_to two
steps_both [] two = omega arith
steps_both (t ∷ one) two = let rest = steps_both one two in omega (arith, rest)

starts_steps : (hs : List ℕ) → all_steps_to (map ToStart hs) ≡ 2 * length hs
starts_steps [] = refl
starts_steps (h ∷ hs) = let rest = starts_steps hs in omega (arith, rest)

keep_steps : (looped joins : Bool) (h : ℕ) → steps_to (to_keep looped joins h) ≤ 4
keep_steps true joins h = omega arith
keep_steps false joins h = omega arith

free_steps : (looped : Bool) (h : ℕ) → steps_to (to_free looped h) ≡ 4
free_steps true h = refl
free_steps false h = refl

frees_steps : (looped : ℕ → Bool) (hs : List ℕ) → all_steps_to (map (λ h. to_free (looped h) h) hs) ≡ 4 * length hs
frees_steps looped [] = refl
frees_steps looped (h ∷ hs) = let one = free_steps (looped h) h in let rest = frees_steps looped hs in omega (arith, one, rest)

-- ---- by the number of holders

numbers_few : (test : Holder → Bool) (number : ℕ) (holders : List Holder) → length (numbers_of test number holders) ≤ length holders
numbers_few test number [] = omega arith
numbers_few test number (h ∷ holders) = by_test (test h) (numbers_few test (number + 1) holders) where
  by_test : (b : Bool) → length (numbers_of test (number + 1) holders) ≤ length holders
      → length (if b then number ∷ numbers_of test (number + 1) holders else numbers_of test (number + 1) holders) ≤ length (h ∷ holders)
  by_test true rest = omega (arith, rest)
  by_test false rest = omega (arith, rest)

module _ (plan : Insertions) where
  pub starts_count : all_steps_to (starts_of plan) ≡ 2 * length plan.holders
  starts_count = let size = length-range_with_len 0 (length plan.holders) in let all = starts_steps (range_with_len 0 (length plan.holders)) in omega (arith, size, all)

  -- one holder at most keeps what an item gave
  pub keeps_count : (joins : Bool) (j : ℕ) → (after_at plan j ≡ []) ⊎ ((only : ℕ) × (after_at plan j ≡ only ∷ []))
      → all_steps_to (keeps_at plan joins j) ≤ 2 * length plan.holders + 2
  keeps_count joins j (inl none) =
      let all : all_steps_to (keeps_at plan joins j) ≡ 0 = ap (λ hs. all_steps_to (map (λ h. to_keep (looped_at plan h) joins h) hs)) none in
      omega (arith, all)
  keeps_count joins j (inr (only, is)) =
      let all : all_steps_to (keeps_at plan joins j) ≡ steps_to (to_keep (looped_at plan only) joins only) + 0 =
      ap (λ hs. all_steps_to (map (λ h. to_keep (looped_at plan h) joins h) hs)) is in
      let one = keep_steps (looped_at plan only) joins only in
      let few = numbers_few (λ h. nat_eq h.site j) 0 plan.holders in
      let size : length (after_at plan j) ≡ 1 = ap length is in
      omega (arith, all, one, few, size)

  -- each holder is freed once at most
  pub frees_count : (j : ℕ) → IsDistinct nat_eq (before_at plan j) → ((h : ℕ) → Contains (before_at plan j) h → h < length plan.holders)
      → all_steps_to (frees_at plan j) ≤ 4 * length plan.holders
  frees_count j once inside =
      let few = length-le_from_distinct_below (before_at plan j) (length plan.holders) once
      (λ h found. inside h (Contains-from_any (λ a b same. eqb-true a b same) h (before_at plan j) found)) in
      let all = frees_steps (looped_at plan) (before_at plan j) in
      omega (arith, few, all)

-- ---- by the locals that are added

greatest_most : (xs : List ℕ) (n : ℕ) → Contains xs n → n ≤ greatest xs
greatest_most [] n (k, inside, is) = absurd (omega (arith, inside))
greatest_most (x ∷ xs) n found = ⊎_elim
    (λ (first : n ≡ x). omega (arith, first))
    (λ later. let rest = greatest_most xs n later in omega (arith, rest))
    (Contains-cons_cases x xs n found)

module _ (p q : Program) (marks : Marks) (method : ℕ) (code : Code) (code_is : code_at p method ≡ Some code) (plan : Insertions)
    (w : HasInserted q marks method code plan) where
  -- a method with code is among the methods
  method_inside : method < length p.codes
  method_inside =
      ⊎_elim (λ (inside : method < length p.codes). inside)
      (λ (past : length p.codes ≤ method). absurd (none-some code (sym (get_or_past p.codes method None past) ∙ code_is)))
      (cases_lt method (length p.codes))

  pub holders_few : length plan.holders ≤ most_added_locals p q
  holders_few =
      let old : max_locals_of p method ≡ code.max_locals = ap max_locals_in code_is in
      let new : max_locals_of q method ≡ w.new.max_locals = ap max_locals_in w.new_is in
      let all = w.laid.locals in
      let added : max_locals_of q method - max_locals_of p method ≤ most_added_locals p q =
      greatest_most (map (λ m. max_locals_of q m - max_locals_of p m) (range_with_len 0 (length p.codes))) (max_locals_of q method - max_locals_of p method)
      (Contains-map (λ m. max_locals_of q m - max_locals_of p m) (range_with_len 0 (length p.codes)) method
      (Contains-range 0 (length p.codes) method (omega arith) (omega (arith, method_inside)))) in
      omega (arith, old, new, all, added)

  pub steps_few : (n : ℕ) → n ≤ 6 * length plan.holders + 2 → n ≤ most_inserted_steps p q
  steps_few n few = let holders = holders_few in omega (arith, few, holders)
