-- Lists in which some elements are passed over.
use Rattle.std.proofs.Common.{◌≡◌, refl, sym, ◌∙◌, ap, ℕ, zero, suc, ◌+◌, ◌≤◌, Bool, true, false, cond, not, ◌||◌, List, [], ◌∷◌, ◌++◌, Option, Some, None, arith}
use Rattle.std.specs.List.{cons_option, filter, filter_map, list_any, range_with_len}
use Rattle.std.proofs.lemmas.Bool.{false≢true}
use Rattle.std.proofs.lemmas.List.Elements.{filter-append}
use Rattle.fm_world.specs.Chains.{distinct}

-- ---- filters

-- an element that doesn't pass
dropped : {A : Type 0} (p : A → Bool) (b : Bool) (x : A) (ys : List A) → p x ≡ false → filter p (cond b (x ∷ ys) ys) ≡ filter p ys
dropped p true x ys fails = ap (λ c. cond c (x ∷ filter p ys) (filter p ys)) fails
dropped p false x ys fails = refl

one_agrees : {A : Type 0} (p q r : A → Bool) (x : A) (xs : List A) → (p x ≡ true → q x ≡ r x) → filter p (filter q xs) ≡ filter p (filter r xs)
    → filter p (filter q (x ∷ xs)) ≡ filter p (filter r (x ∷ xs))
one_agrees p q r x xs agree later = by_test (p x) refl where
  same_first : (b : Bool) → filter p (cond b (x ∷ filter q xs) (filter q xs)) ≡ filter p (cond b (x ∷ filter r xs) (filter r xs))
  same_first true = ap (λ l. cond (p x) (x ∷ l) l) later
  same_first false = later

  by_test : (b : Bool) → p x ≡ b → filter p (filter q (x ∷ xs)) ≡ filter p (filter r (x ∷ xs))
  by_test true passes = ap (λ b. filter p (cond b (x ∷ filter q xs) (filter q xs))) (agree passes) ∙ same_first (r x)
  by_test false fails = dropped p (q x) x (filter q xs) fails ∙ later ∙ sym (dropped p (r x) x (filter r xs) fails)

-- two tests that agree on what passes a third one
pub filters_agree : {A : Type 0} (p q r : A → Bool) → ((x : A) → p x ≡ true → q x ≡ r x) → (xs : List A) → filter p (filter q xs) ≡ filter p (filter r xs)
filters_agree p q r agree [] = refl
filters_agree p q r agree (x ∷ xs) = one_agrees p q r x xs (agree x) (filters_agree p q r agree xs)

all_pass : {A : Type 0} (xs : List A) → filter (λ x. true) xs ≡ xs
all_pass [] = refl
all_pass (x ∷ xs) = ap (λ l. x ∷ l) (all_pass xs)

-- a test that all pass which pass another one
pub filter_weaker : {A : Type 0} (p q : A → Bool) → ((x : A) → p x ≡ true → q x ≡ true) → (xs : List A) → filter p (filter q xs) ≡ filter p xs
filter_weaker p q weaker xs = filters_agree p q (λ x. true) weaker xs ∙ ap (filter p) (all_pass xs)

one_swapped : {A : Type 0} (p q : A → Bool) (x : A) (xs : List A) → filter p (filter q xs) ≡ filter q (filter p xs)
    → filter p (filter q (x ∷ xs)) ≡ filter q (filter p (x ∷ xs))
one_swapped p q x xs later = by_tests (p x) refl (q x) refl where
  by_tests : (b : Bool) → p x ≡ b → (c : Bool) → q x ≡ c
      → filter p (cond c (x ∷ filter q xs) (filter q xs)) ≡ filter q (cond b (x ∷ filter p xs) (filter p xs))
  by_tests true first true second =
      ap (λ d. cond d (x ∷ filter p (filter q xs)) (filter p (filter q xs))) first ∙ ap (λ l. x ∷ l) later
      ∙ sym (ap (λ d. cond d (x ∷ filter q (filter p xs)) (filter q (filter p xs))) second)
  by_tests true first false second = later ∙ sym (ap (λ d. cond d (x ∷ filter q (filter p xs)) (filter q (filter p xs))) second)
  by_tests false first true second = ap (λ d. cond d (x ∷ filter p (filter q xs)) (filter p (filter q xs))) first ∙ later
  by_tests false first false second = later

filter_swapped : {A : Type 0} (p q : A → Bool) (xs : List A) → filter p (filter q xs) ≡ filter q (filter p xs)
filter_swapped p q [] = refl
filter_swapped p q (x ∷ xs) = one_swapped p q x xs (filter_swapped p q xs)

one_kept : {A B : Type 0} (f : A → Option B) (p : A → Bool) (x : A) (xs : List A) → (p x ≡ false → f x ≡ None) → filter_map f (filter p xs) ≡ filter_map f xs
    → filter_map f (filter p (x ∷ xs)) ≡ filter_map f (x ∷ xs)
one_kept f p x xs none later = by_test (p x) refl where
  by_test : (b : Bool) → p x ≡ b → filter_map f (cond b (x ∷ filter p xs) (filter p xs)) ≡ cons_option (f x) (filter_map f xs)
  by_test true passes = ap (cons_option (f x)) later
  by_test false fails = later ∙ sym (ap (λ o. cons_option o (filter_map f xs)) (none fails))

-- what gives nothing may be passed over
pub filter_map-kept : {A B : Type 0} (f : A → Option B) (p : A → Bool) → ((x : A) → p x ≡ false → f x ≡ None) → (xs : List A)
    → filter_map f (filter p xs) ≡ filter_map f xs
filter_map-kept f p none [] = refl
filter_map-kept f p none (x ∷ xs) = one_kept f p x xs (none x) (filter_map-kept f p none xs)

same_behind : {A : Type 0} (p : A → Bool) (o : Option A) (xs ys : List A) → filter p xs ≡ filter p ys → filter p (cons_option o xs) ≡ filter p (cons_option o ys)
same_behind p None xs ys same = same
same_behind p (Some x) xs ys same = ap (λ l. cond (p x) (x ∷ l) l) same

gone : {A : Type 0} (p : A → Bool) (o : Option A) (xs : List A) → ((x : A) → o ≡ Some x → p x ≡ false) → filter p (cons_option o xs) ≡ filter p xs
gone p None xs fails = refl
gone p (Some x) xs fails = ap (λ b. cond b (x ∷ filter p xs) (filter p xs)) (fails x refl)

one_value : {A B : Type 0} (f : A → Option B) (p : A → Bool) (q : B → Bool) (x : A) (xs : List A)
    → (p x ≡ false → (y : B) → f x ≡ Some y → q y ≡ false) → filter q (filter_map f (filter p xs)) ≡ filter q (filter_map f xs)
    → filter q (filter_map f (filter p (x ∷ xs))) ≡ filter q (filter_map f (x ∷ xs))
one_value f p q x xs fails later = by_test (p x) refl where
  by_test : (b : Bool) → p x ≡ b → filter q (filter_map f (cond b (x ∷ filter p xs) (filter p xs))) ≡ filter q (cons_option (f x) (filter_map f xs))
  by_test true passes = same_behind q (f x) (filter_map f (filter p xs)) (filter_map f xs) later
  by_test false is = later ∙ sym (gone q (f x) (filter_map f xs) (fails is))

-- what gives a value that doesn't pass may be passed over
pub values_kept : {A B : Type 0} (f : A → Option B) (p : A → Bool) (q : B → Bool) → ((x : A) → p x ≡ false → (y : B) → f x ≡ Some y → q y ≡ false)
    → (xs : List A) → filter q (filter_map f (filter p xs)) ≡ filter q (filter_map f xs)
values_kept f p q fails [] = refl
values_kept f p q fails (x ∷ xs) = one_value f p q x xs (fails x) (values_kept f p q fails xs)

-- ---- numbers in a row

first_none : (p q : ℕ → Bool) (a : ℕ) (ks : List ℕ) → (p a ≡ true → q a ≡ false) → filter p (filter q ks) ≡ [] → filter p (filter q (a ∷ ks)) ≡ []
first_none p q a ks none later = by_test (p a) refl where
  by_test : (b : Bool) → p a ≡ b → filter p (cond (q a) (a ∷ filter q ks) (filter q ks)) ≡ []
  by_test true passes = ap (λ b. filter p (cond b (a ∷ filter q ks) (filter q ks))) (none passes) ∙ later
  by_test false fails = dropped p (q a) a (filter q ks) fails ∙ later

-- no number of a row passes both tests
pub none_in_range : (p q : ℕ → Bool) (a n : ℕ) → ((k : ℕ) → a ≤ k → p k ≡ true → q k ≡ false) → filter p (filter q (range_with_len a n)) ≡ []
none_in_range p q a zero none = refl
none_in_range p q a (suc n) none =
    first_none p q a (range_with_len (a + 1) n) (none a (omega arith)) (none_in_range p q (a + 1) n (λ k within. none k (omega (arith, within))))

-- ---- each element once

module _ {A : Type 0} (same : A → A → Bool) (equal : (x y : A) → same x y ≡ true → x ≡ y) where
  abbrev unlike : A → A → Bool
  unlike x y = not (same x y)

  -- what passes a test that an element fails is another one
  passed_on : (p : A → Bool) (x y : A) → p x ≡ false → p y ≡ true → not (same x y) ≡ true
  passed_on p x y fails passes = by_test (same x y) refl where
    by_test : (b : Bool) → same x y ≡ b → not b ≡ true
    by_test true alike = absurd (false≢true (sym fails ∙ ap p (equal x y alike) ∙ passes))
    by_test false other = refl

  one_filtered : (p : A → Bool) (x : A) (xs : List A) → filter p (distinct same xs) ≡ distinct same (filter p xs)
      → filter p (distinct same (x ∷ xs)) ≡ distinct same (filter p (x ∷ xs))
  one_filtered p x xs later = by_test (p x) refl where
    rest : List A
    rest = filter (unlike x) (distinct same xs)

    by_test : (b : Bool) → p x ≡ b → cond (p x) (x ∷ filter p rest) (filter p rest) ≡ distinct same (cond b (x ∷ filter p xs) (filter p xs))
    by_test true passes =
        ap (λ c. cond c (x ∷ filter p rest) (filter p rest)) passes
        ∙ ap (λ l. x ∷ l) (filter_swapped p (unlike x) (distinct same xs) ∙ ap (filter (unlike x)) later)
    by_test false fails =
        ap (λ c. cond c (x ∷ filter p rest) (filter p rest)) fails ∙ filter_weaker p (unlike x) (λ y. passed_on p x y fails) (distinct same xs) ∙ later

  filter-distinct : (p : A → Bool) (xs : List A) → filter p (distinct same xs) ≡ distinct same (filter p xs)
  filter-distinct p [] = refl
  filter-distinct p (x ∷ xs) = one_filtered p x xs (filter-distinct p xs)

  -- a filter over what is there once sees no element twice
  filtered_behind : (p : A → Bool) (xs ys : List A) → filter p (distinct same (xs ++ ys)) ≡ filter p (distinct same (xs ++ filter p ys))
  filtered_behind p xs ys =
      filter-distinct p (xs ++ ys) ∙ ap (distinct same) (filter-append p xs ys)
      ∙ ap (λ l. distinct same (filter p xs ++ l)) (sym (filter_weaker p p (λ y passes. passes) ys))
      ∙ sym (ap (distinct same) (filter-append p xs (filter p ys))) ∙ sym (filter-distinct p (xs ++ filter p ys))

  one_without : (t x : A) (xs ys : List A) → list_any (same t) (x ∷ xs) ≡ true
      → (list_any (same t) xs ≡ true → distinct same (xs ++ ys) ≡ distinct same (xs ++ filter (unlike t) ys))
      → distinct same (x ∷ (xs ++ ys)) ≡ distinct same (x ∷ (xs ++ filter (unlike t) ys))
  one_without t x xs ys there later = by_test (same t x) refl there where
    by_test : (b : Bool) → same t x ≡ b → (b || list_any (same t) xs) ≡ true
        → x ∷ filter (unlike x) (distinct same (xs ++ ys)) ≡ x ∷ filter (unlike x) (distinct same (xs ++ filter (unlike t) ys))
    by_test true alike among =
        ap (λ l. x ∷ l) (filtered_behind (unlike x) xs ys ∙ ap (λ u. filter (unlike x) (distinct same (xs ++ filter (unlike u) ys))) (sym (equal t x alike)))
    by_test false other among = ap (λ l. x ∷ filter (unlike x) l) (later among)

  -- what is in front already may be left out behind
  pub distinct_without : (t : A) (xs ys : List A) → list_any (same t) xs ≡ true → distinct same (xs ++ ys) ≡ distinct same (xs ++ filter (unlike t) ys)
  distinct_without t [] ys there = absurd (false≢true there)
  distinct_without t (x ∷ xs) ys there = one_without t x xs ys there (distinct_without t xs ys)
