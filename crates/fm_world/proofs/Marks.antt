-- Marks of methods that are found one after the other.
use Rattle.std.proofs.Common.{arith, zero, suc, ◌≤◌, add-one, ◌≡◌, ◌≢◌, refl, sym, ◌∙◌, ap, subst, ℕ, ◌+◌, ◌<◌, ◌||◌, Bool, true, false, List, [], ◌∷◌, ◌++◌, length, filter, get_or, set, nat_eq, Option, Some, None, option_to_list, ◌⊎◌, inl, inr, zero-add, cond, if◌then◌else◌}
use Rattle.std.specs.List.{cons_option, filter_map, range_with_len}
use Rattle.std.proofs.lemmas.Bool.{cases_eq, eq-eqb, ne_eqb}
use Rattle.std.proofs.lemmas.List.{append-nil, get_or-set_same, get_or-set_other, length-set, map-id}
use Rattle.std.proofs.lemmas.List.Elements.{filter-append, filter_map-append}
use Rattle.std.proofs.lemmas.List.Folds.{list_any-append}
use Rattle.std.proofs.lemmas.List.FromFn.{map-range_with_len_more}
use Rattle.fm_world.specs.Chains.{is_among}
use Rattle.fm_world.specs.inner.Marks.{marked, AreMarked}

-- ---- one number more

pub range-more : (n : ℕ) → range_with_len 0 (n + 1) ≡ range_with_len 0 n ++ n ∷ []
range-more n =
    sym (map-id (range_with_len 0 (n + 1))) ∙ map-range_with_len_more (λ (k : ℕ). k) 0 n n (zero-add n)
    ∙ ap (λ xs. xs ++ n ∷ []) (map-id (range_with_len 0 n))

pub filter-range_more : (p : ℕ → Bool) (n : ℕ) → filter p (range_with_len 0 (n + 1)) ≡ filter p (range_with_len 0 n) ++ filter p (n ∷ [])
filter-range_more p n = ap (filter p) (range-more n) ∙ filter-append p (range_with_len 0 n) (n ∷ [])

pub found_more : (find : ℕ → Option ℕ) (p : ℕ → Bool) (n : ℕ)
    → filter_map find (filter p (range_with_len 0 (n + 1))) ≡ filter_map find (filter p (range_with_len 0 n)) ++ filter_map find (filter p (n ∷ []))
found_more find p n = ap (filter_map find) (filter-range_more p n) ∙ filter_map-append find (filter p (range_with_len 0 n)) (filter p (n ∷ []))

-- ---- marks

or_none : (b : Bool) → b ≡ (b || false)
or_none true = refl
or_none false = refl

or_one : (b : Bool) → true ≡ (b || true)
or_one true = refl
or_one false = refl

pub length-marked : (marks : List Bool) (o : Option ℕ) → length (marked marks o) ≡ length marks
length-marked marks None = refl
length-marked marks (Some number) = length-set marks number true

pub AreMarked-more : (marks : List Bool) (found : List ℕ) (o : Option ℕ) → AreMarked marks found
    → AreMarked (marked marks o) (found ++ option_to_list o)
AreMarked-more marks found None are k h = are k h ∙ ap (is_among k) (sym (append-nil found))
AreMarked-more marks found (Some number) are k h = by_number (cases_eq k number) where
  inside : k < length marks
  inside = let P : ℕ → Type 0 = λ n. k < n in subst P (length-set marks number true) h

  joined : is_among k (found ++ number ∷ []) ≡ (is_among k found || (nat_eq k number || false))
  joined = list_any-append (nat_eq k) found (number ∷ [])

  by_number : (k ≡ number) ⊎ (k ≢ number) → get_or (set marks number true) k false ≡ is_among k (found ++ number ∷ [])
  by_number (inl same) =
      ap (λ j. get_or (set marks j true) k false) (sym same) ∙ get_or-set_same marks k true false inside ∙ or_one (is_among k found)
      ∙ ap (λ b. is_among k found || (b || false)) (sym (eq-eqb k number same)) ∙ sym joined
  by_number (inr other) =
      get_or-set_other marks number k true false other ∙ are k inside ∙ or_none (is_among k found)
      ∙ ap (λ b. is_among k found || (b || false)) (sym (ne_eqb k number other)) ∙ sym joined

-- ---- what is selected

pub only_found : (o : Option ℕ) → cons_option o [] ≡ option_to_list o
only_found None = refl
only_found (Some number) = refl

pub found_at : (find : ℕ → Option ℕ) (p : ℕ → Bool) (n : ℕ) → filter_map find (filter p (n ∷ [])) ≡ option_to_list (if p n then find n else None)
found_at find p n = by_test (p n) where
  by_test : (b : Bool) → filter_map find (cond b (n ∷ []) []) ≡ option_to_list (if b then find n else None)
  by_test true = only_found (find n)
  by_test false = refl

-- the marks after one class more
pub AreMarked-step : (find : ℕ → Option ℕ) (p : ℕ → Bool) (marks new : List Bool) (n : ℕ) (o : Option ℕ)
    → new ≡ marked marks o → o ≡ (if p n then find n else None) → AreMarked marks (filter_map find (filter p (range_with_len 0 n)))
    → AreMarked new (filter_map find (filter p (range_with_len 0 (n + 1))))
AreMarked-step find p marks new n o new_is o_is are =
    let found_is : filter_map find (filter p (range_with_len 0 n)) ++ option_to_list o ≡ filter_map find (filter p (range_with_len 0 (n + 1))) =
    ap (λ x. filter_map find (filter p (range_with_len 0 n)) ++ option_to_list x) o_is
    ∙ sym (found_more find p n ∙ ap (λ xs. filter_map find (filter p (range_with_len 0 n)) ++ xs) (found_at find p n)) in
    let P : List Bool → Type 0 = λ ms. AreMarked ms (filter_map find (filter p (range_with_len 0 (n + 1)))) in
    let Q : List ℕ → Type 0 = λ found. AreMarked (marked marks o) found in
    subst P (sym new_is) (subst Q found_is (AreMarked-more marks (filter_map find (filter p (range_with_len 0 n))) o are))

-- two tests that agree below a number keep the same numbers
pub filter-range_same : (p q : ℕ → Bool) (n : ℕ) → ((k : ℕ) → k < n → p k ≡ q k) → filter p (range_with_len 0 n) ≡ filter q (range_with_len 0 n)
filter-range_same p q n same = at_most n (omega arith) where
  at_most : (m : ℕ) → m ≤ n → filter p (range_with_len 0 m) ≡ filter q (range_with_len 0 m)
  at_most zero h = refl
  at_most (suc m) h =
      let more = λ (r : ℕ → Bool). ap (λ j. filter r (range_with_len 0 j)) (sym (add-one m)) ∙ filter-range_more r m in
      more p ∙ ap (λ xs. xs ++ filter p (m ∷ [])) (at_most m (omega (arith, h)))
      ∙ ap (λ b. filter q (range_with_len 0 m) ++ cond b (m ∷ []) []) (same m (omega (arith, h))) ∙ sym (more q)

-- the marked methods are those selected
pub marked_are : (find : ℕ → Option ℕ) (receivers arrays : List ℕ) (marks : List Bool) (number : ℕ) → length marks ≡ number
    → AreMarked marks (filter_map find receivers ++ filter_map find arrays)
    → filter (λ k. get_or marks k false) (range_with_len 0 (length marks))
    ≡ filter (λ k. is_among k (filter_map find (receivers ++ arrays))) (range_with_len 0 number)
marked_are find receivers arrays marks number length_is are =
    filter-range_same (λ k. get_or marks k false) (λ k. is_among k (filter_map find (receivers ++ arrays))) (length marks)
    (λ k h. are k h ∙ ap (is_among k) (sym (filter_map-append find receivers arrays)))
    ∙ ap (λ n. filter (λ k. is_among k (filter_map find (receivers ++ arrays))) (range_with_len 0 n)) length_is
