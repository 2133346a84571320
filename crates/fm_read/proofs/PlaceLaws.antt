-- Offsets and the numbers of items determine each other.
use Rattle.std.proofs.Common.{◌≡◌, ℕ, zero, suc, ◌+◌, ◌<◌, ◌≤◌, true, cond, eqb, ltb, List, [], ◌∷◌, length, get_or, Option, Some, None, refl, sym, ap, subst, ◌∙◌, arith, inl, inr}
use Rattle.std.specs.Prelude.{Ok, Err}
use Rattle.std.specs.List.Sorted.{IsBinarySearchResult}
use Rattle.std.specs.Ordering.{nat_cmp}
use Rattle.std.proofs.lemmas.List.Sorted.{searched}
use Rattle.std.specs.Option.{option_map}
use Rattle.std.proofs.lemmas.Bool.{cases_Bool, cases_lt, eqb-true, eq-eqb, ne_eqb, ltb-true, lt-ltb}
use Rattle.fm_base.proofs.OptionFacts.{cond-some_then}
use Rattle.fm_code.specs.ClassBytes.{offset_in, offset_of}
use Rattle.fm_code.specs.Fits.{FitsTwo}
use Rattle.fm_code.specs.declared.code_array.TheConstants.{MAX_CODE_BYTES}
use Rattle.fm_code.specs.declared.code_array.Code.{Code}
use Rattle.fm_code.specs.declared.code_array.Item.{Item}
use Rattle.fm_code.proofs.CodeItems.{AreLaid, offset_le_end, offset_rises}
use Rattle.fm_code.proofs.Pieces.{bind_some, some_is}
use Rattle.fm_decode.specs.inner.Targets.{AreRising}
use Rattle.fm_decode.proofs.TargetsLemmas.{rising_le}
use Rattle.fm_read.specs.inner.Places.{find_item, find_place, offsets_of}

-- ---- the place at an offset

pub find_place-some : (offsets : List ℕ) (target n : ℕ) → find_place offsets target ≡ Some n → (n < length offsets) × (get_or offsets n 0 ≡ target)
unfolding find_place
find_place-some [] target n e = absurd cc
find_place-some (offset ∷ offsets) target n e =
    elim (cases_Bool (eqb offset target)) [
      | inl same ↦ first (eqb-true offset target same) (rw same at e)
      | inr other ↦ later (find_place offsets target) (λ m is. find_place-some offsets target m is) refl (rw other at e)
    ] where
      first : offset ≡ target → Some 0 ≡ Some n → (n < length (offset ∷ offsets)) × (get_or (offset ∷ offsets) n 0 ≡ target)
      first same zero_is = let none : 0 ≡ n = cc in subst (λ (k : ℕ). (k < length (offset ∷ offsets)) × (get_or (offset ∷ offsets) k 0 ≡ target)) none (omega arith, same)

      later : (o : Option ℕ) → ((m : ℕ) → find_place offsets target ≡ Some m → (m < length offsets) × (get_or offsets m 0 ≡ target)) → find_place offsets target ≡ o → option_map suc o ≡ Some n
          → (n < length (offset ∷ offsets)) × (get_or (offset ∷ offsets) n 0 ≡ target)
      later None rest is some = absurd cc
      later (Some m) rest is some =
          let behind = rest m is in
          let next : suc m ≡ n = cc in
          subst (λ (k : ℕ). (k < length (offset ∷ offsets)) × (get_or (offset ∷ offsets) k 0 ≡ target)) next (omega (arith, behind.0), behind.1)

pub find_place-none : (offsets : List ℕ) (target : ℕ) → ((k : ℕ) → k < length offsets → get_or offsets k 0 ≡ target → ⊥) → find_place offsets target ≡ None
unfolding find_place
find_place-none [] target none = refl
find_place-none (offset ∷ offsets) target none =
    let later = find_place-none offsets target (λ k lt e. none (suc k) (omega arith) e) in
    rw (ne_eqb offset target (λ same. none 0 (omega arith) same), later) refl

rising_rest : (offset : ℕ) (offsets : List ℕ) → AreRising (offset ∷ offsets) → AreRising offsets
rising_rest offset offsets rising = λ i j before within. rising (suc i) (suc j) (omega arith) (omega arith)

pub find_place-at : (offsets : List ℕ) (n : ℕ) → AreRising offsets → n < length offsets → find_place offsets (get_or offsets n 0) ≡ Some n
unfolding find_place
find_place-at [] n rising within = absurd (omega arith)
find_place-at (offset ∷ offsets) zero rising within = rw (eq-eqb offset offset refl) refl
find_place-at (offset ∷ offsets) (suc n) rising within =
    let above : offset < get_or offsets n 0 = rising 0 (suc n) (omega arith) within in
    rw (ne_eqb offset (get_or offsets n 0) (λ same. omega arith), find_place-at offsets n (rising_rest offset offsets rising) (omega arith)) refl

-- no number is above its offset
-- ---- what a binary search finds

rising_sorted : (offsets : List ℕ) → AreRising offsets → (i j : ℕ) → i ≤ j → j < length offsets → get_or offsets i 0 ≤ get_or offsets j 0
rising_sorted offsets rising i j le within =
    elim (cases_lt i j) [
      | inl lt ↦ let above : get_or offsets i 0 < get_or offsets j 0 = rising i j lt within in omega arith
      | inr ge ↦ let same : i ≡ j = omega arith in let equal : get_or offsets i 0 ≡ get_or offsets j 0 = ap (λ k. get_or offsets k 0) same in omega arith
    ]

pub place_found : (offsets : List ℕ) (target n : ℕ) → AreRising offsets → IsBinarySearchResult (λ y. nat_cmp y target) offsets (Ok n)
    → (n ≤ target) × (find_place offsets target ≡ Some n)
place_found offsets target n rising position =
    let found = searched offsets target (Ok n) position (rising_sorted offsets rising) in
    let below = rising_le offsets n rising found.0 in
    (omega (arith, found.1), ap (find_place offsets) (sym found.1) ∙ find_place-at offsets n rising found.0)

pub place_missed : (offsets : List ℕ) (target n : ℕ) → AreRising offsets → IsBinarySearchResult (λ y. nat_cmp y target) offsets (Err n) → find_place offsets target ≡ None
place_missed offsets target n rising position =
    let missed = searched offsets target (Err n) position (rising_sorted offsets rising) in
    find_place-none offsets target (λ k within e.
    elim (cases_lt k n) [ inl lt ↦ omega (arith, missed.1 k lt) | inr ge ↦ omega (arith, missed.2 k ge within) ])

-- ---- the item at an offset

pub find_item-some : (offsets : List ℕ) (target n : ℕ) → find_item offsets target ≡ Some n → (find_place offsets target ≡ Some n) × (n + 1 < length offsets)
unfolding find_item
find_item-some offsets target n e =
    let place = bind_some (find_place offsets target) (λ place. cond (ltb (place + 1) (length offsets)) (Some place) None) n e in
    let inside = cond-some_then (ltb (place.0 + 1) (length offsets)) (Some place.0) n place.2 in
    let same : place.0 ≡ n = some_is place.0 n inside.1 in
    (place.1 ∙ inside.1, subst (λ (k : ℕ). k + 1 < length offsets) same (ltb-true _ _ inside.0))

pub find_item-at : (offsets : List ℕ) (target n : ℕ) → find_place offsets target ≡ Some n → n + 1 < length offsets → find_item offsets target ≡ Some n
unfolding find_item
find_item-at offsets target n place inside =
    let within : ltb (n + 1) (length offsets) ≡ true = lt-ltb (n + 1) (length offsets) inside in
    rw (place, within) refl

-- ---- the places of a code array

length-offsets_of : (items : List Item) (end : ℕ) → length (offsets_of items end) ≡ suc (length items)
length-offsets_of [] end = refl
length-offsets_of (item ∷ items) end = ap suc (length-offsets_of items end)

get_or-offsets_of : (items : List Item) (end k : ℕ) → k ≤ length items → get_or (offsets_of items end) k 0 ≡ offset_in items end k
get_or-offsets_of [] end zero within = refl
get_or-offsets_of [] end (suc k) within = absurd (omega arith)
get_or-offsets_of (item ∷ items) end zero within = refl
get_or-offsets_of (item ∷ items) end (suc k) within = get_or-offsets_of items end k (omega arith)

-- the offsets of items that lie one after the other rise up to the end
pub AreRising-laid : (items : List Item) (end : ℕ) → AreLaid 0 items end → AreRising (offsets_of items end)
AreRising-laid items end laid = λ i j before within.
    let count = length-offsets_of items end in
    let rises = offset_rises 0 end items i j laid before (omega arith) in
    let first = get_or-offsets_of items end i (omega arith) in
    let second = get_or-offsets_of items end j (omega arith) in
    omega arith

-- the offsets name each place of the code, and nothing else
pub record NamePlaces (offsets : List ℕ) (code : Code) : Type 0 where
  pub count : length offsets ≡ suc (length code.items)
  pub found : (offset k : ℕ) → find_place offsets offset ≡ Some k → (k ≤ length code.items) × (offset_of code k ≡ offset)
  pub finds : (k : ℕ) → k ≤ length code.items → find_place offsets (offset_of code k) ≡ Some k
  pub fit : (k : ℕ) → FitsTwo (offset_of code k)
  pub rise : (k l : ℕ) → k < l → l ≤ length code.items → offset_of code k < offset_of code l

pub NamePlaces-laid : (code : Code) → AreLaid 0 code.items code.length → code.length ≤ MAX_CODE_BYTES → NamePlaces (offsets_of code.items code.length) code
NamePlaces-laid code laid short =
    let items = code.items in
    let end = code.length in
    let offsets = offsets_of items end in
    let count = length-offsets_of items end in
    let rising = AreRising-laid items end laid in
    record {
      count = count;
      found = λ offset k is.
          let there = find_place-some offsets offset k is in
          let within : k ≤ length items = let below = there.0 in omega arith in
          (within, sym (get_or-offsets_of items end k within) ∙ there.1);
      finds = λ k within.
          ap (find_place offsets) (sym (get_or-offsets_of items end k within)) ∙ find_place-at offsets k rising (omega arith);
      fit = λ k. let inside = offset_le_end 0 end items k laid in omega arith;
      rise = λ k l before within. offset_rises 0 end items k l laid before within;
    }
