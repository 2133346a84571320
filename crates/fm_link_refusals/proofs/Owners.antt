-- The classes of the abstract methods of each signature: how the lists are made, and how counts change along one of them.
use Rattle.std.proofs.Common.{◌≡◌, refl, sym, ◌∙◌, ap, ℕ, zero, suc, ◌+◌, ◌-◌, ◌<◌, ◌≤◌, ◌&&◌, not, Bool, true, false, cond, List, [], ◌∷◌, ◌++◌, length, take, get_or, set, replicate, nat_eq, nat_lt, arith, ◌⊎◌, inl, inr, get_or-set_same, get_or-set_other, length-set}
use Rattle.std.proofs.lemmas.Bool.{and_parts, cases_eq, eq-eqb, eqb-true, le-ltb, lt-ltb, ne_eqb}
use Rattle.std.proofs.lemmas.List.Sums.{count_by_more_no, count_by_more_yes, sum_by_push}
use Rattle.std.specs.Global.{Vec}
use Rattle.std.specs.List.{count_by}
use Rattle.fm_base.proofs.TestFacts.{and_false}
use Rattle.fm_link_supers.specs.inner.ListTables.{list_in, lists}
use Rattle.fm_link_members.specs.declared.lookups.Methods.{Methods}
use Rattle.fm_link_members.specs.inner.MemberRows.{AreSections}
use Rattle.fm_link_members.specs.inner.Owners.{pushed}
use Rattle.fm_world.specs.declared.declarations.DeclaredClass.{DeclaredClass}
use Rattle.fm_link_refusals.specs.inner.LeftOver.{can_be_met, changed, counted, counted_of, is_one, with_signature, AreOwners, HasCounts}
use Rattle.fm_link_refusals.proofs.AbstractCounts.{class_of, counted-more, counted-same, counted-zero, end_of, lt_step, start_of}
use Rattle.fm_link_refusals.proofs.CountLoops.{none_at}

-- ---- the lists are made

-- no method has a number below 0
pub owners-none : (classes : List DeclaredClass) (m : Methods) (count : ℕ) (owners : List (Vec ℕ)) → lists owners ≡ replicate count []
    → AreOwners classes m 0 owners
owners-none classes m count owners is signature class inside below =
    ap (count_by (nat_eq class)) (ap (λ t. get_or t signature []) is ∙ none_at count signature)
    ∙ sym (counted-same (is_one classes m signature 0) (λ k. false) (end_of m class - start_of m class) (start_of m class)
    (λ k from high. ap (λ b. (nat_eq (get_or m.signatures.of_members.items k 0) signature && can_be_met classes m k) && b) (le-ltb k 0 (omega arith))
    ∙ and_false (nat_eq (get_or m.signatures.of_members.items k 0) signature && can_be_met classes m k))
    ∙ counted-zero (end_of m class - start_of m class) (start_of m class))

-- one method more
pub owners-more : (classes : List DeclaredClass) (m : Methods) (old new : List (Vec ℕ)) (method : ℕ) (test : Bool) → AreSections classes m.members
    → method < length m.members.rows.items → get_or m.signatures.of_members.items method 0 < length (lists old) → test ≡ can_be_met classes m method
    → lists new ≡ cond test (pushed (lists old) (get_or m.signatures.of_members.items method 0) (class_of m method)) (lists old)
    → AreOwners classes m method old → AreOwners classes m (method + 1) new
owners-more classes m old new method test are within there told is before signature class inside below = by_test test told is where
  here : ℕ
  here = get_or m.signatures.of_members.items method 0

  mine : ℕ
  mine = class_of m method

  was : ℕ → Bool
  was = is_one classes m signature method

  now : ℕ → Bool
  now = is_one classes m signature (method + 1)

  count : ℕ
  count = end_of m class - start_of m class

  start : ℕ
  start = start_of m class

  old_list : List ℕ
  old_list = get_or (lists old) signature []

  other_same : (k : ℕ) → (k ≡ method → ⊥) → was k ≡ now k
  other_same k other =
      ap (λ b. (nat_eq (get_or m.signatures.of_members.items k 0) signature && can_be_met classes m k) && b) (sym (lt_step k method other))

  -- the method is none of them
  not_one : (nat_eq here signature && can_be_met classes m method) ≡ false → (k : ℕ) → was k ≡ now k
  not_one e k = by_place (cases_eq k method) where
    by_place : (k ≡ method) ⊎ (k ≡ method → ⊥) → was k ≡ now k
    by_place (inr other) = other_same k other
    by_place (inl at) =
        let none : (nat_eq (get_or m.signatures.of_members.items k 0) signature && can_be_met classes m k) ≡ false
        = ap (λ n. nat_eq (get_or m.signatures.of_members.items n 0) signature && can_be_met classes m n) at ∙ e in
        ap (λ b. b && nat_lt k method) none ∙ sym (ap (λ b. b && nat_lt k (method + 1)) none)

  same_count : ((k : ℕ) → start ≤ k → k < start + count → was k ≡ now k) → counted_of m was class ≡ counted_of m now class
  same_count same = counted-same was now count start same

  unchanged : get_or (lists new) signature [] ≡ old_list → ((k : ℕ) → start ≤ k → k < start + count → was k ≡ now k)
      → count_by (nat_eq class) (get_or (lists new) signature []) ≡ counted_of m now class
  unchanged same_list same = ap (count_by (nat_eq class)) same_list ∙ before signature class inside below ∙ same_count same

  -- the method is one of them
  more : signature ≡ here → can_be_met classes m method ≡ true → get_or (lists new) signature [] ≡ old_list ++ mine ∷ []
      → (class ≡ mine) ⊎ (class ≡ mine → ⊥) → count_by (nat_eq class) (get_or (lists new) signature []) ≡ counted_of m now class
  more e met list_is (inl same) =
      let place = are.outside class method within (sym same) in
      let low = place.1 in
      let high = place.2 in
      let fails : was method ≡ false = ap (λ b. (nat_eq here signature && can_be_met classes m method) && b) (le-ltb method method (omega arith))
      ∙ and_false (nat_eq here signature && can_be_met classes m method) in
      let holds : now method ≡ true = ap (λ b. (b && can_be_met classes m method) && nat_lt method (method + 1)) (eq-eqb here signature (sym e))
      ∙ ap (λ b. b && nat_lt method (method + 1)) met ∙ lt-ltb method (method + 1) (omega arith) in
      let added : count_by (nat_eq class) (old_list ++ mine ∷ []) ≡ count_by (nat_eq class) old_list + 1
      = sum_by_push (λ k. cond (nat_eq class k) 1 0) old_list mine
      ∙ ap (λ b. count_by (nat_eq class) old_list + cond b 1 0) (eq-eqb class mine same) in
      let one : counted now count start ≡ suc (counted was count start)
      = counted-more was now method count start other_same fails holds low (omega (arith, low, high)) in
      let old_is : count_by (nat_eq class) old_list ≡ counted was count start = before signature class inside below in
      ap (count_by (nat_eq class)) list_is ∙ added ∙ ap (λ n. n + 1) old_is ∙ omega arith ∙ sym one
  more e met list_is (inr other) =
      let added : count_by (nat_eq class) (old_list ++ mine ∷ []) ≡ count_by (nat_eq class) old_list + 0
      = sum_by_push (λ k. cond (nat_eq class k) 1 0) old_list mine
      ∙ ap (λ b. count_by (nat_eq class) old_list + cond b 1 0) (ne_eqb class mine other) in
      let rising = are.rising class below in
      let kept : count_by (nat_eq class) old_list + 0 ≡ count_by (nat_eq class) old_list = omega arith in
      ap (count_by (nat_eq class)) list_is ∙ added ∙ kept ∙ before signature class inside below
      ∙ same_count (λ k from high. other_same k (λ at.
      other (sym (are.inside class k below from (omega (arith, high, rising))) ∙ ap (class_of m) at)))

  by_signature : can_be_met classes m method ≡ true → lists new ≡ pushed (lists old) here mine → (signature ≡ here) ⊎ (signature ≡ here → ⊥)
      → count_by (nat_eq class) (get_or (lists new) signature []) ≡ counted_of m now class
  by_signature met list_is (inr other) =
      unchanged (ap (λ t. get_or t signature []) list_is ∙ get_or-set_other (lists old) here signature (get_or (lists old) here [] ++ mine ∷ []) [] other)
      (λ k from high. not_one (ap (λ b. b && can_be_met classes m method) (ne_eqb here signature (λ e. other (sym e)))) k)
  by_signature met list_is (inl e) =
      more e met
      (ap (λ t. get_or t signature []) list_is
      ∙ ap (λ n. get_or (set (lists old) here (get_or (lists old) here [] ++ mine ∷ [])) n []) e
      ∙ get_or-set_same (lists old) here (get_or (lists old) here [] ++ mine ∷ []) [] there
      ∙ ap (λ n. get_or (lists old) n [] ++ mine ∷ []) (sym e))
      (cases_eq class mine)

  by_test : (b : Bool) → b ≡ can_be_met classes m method → lists new ≡ cond b (pushed (lists old) here mine) (lists old)
      → count_by (nat_eq class) (get_or (lists new) signature []) ≡ counted_of m now class
  by_test true e list_is = by_signature (sym e) list_is (cases_eq signature here)
  by_test false e list_is =
      unchanged (ap (λ t. get_or t signature []) list_is)
      (λ k from high. not_one (ap (λ b. nat_eq here signature && b) (sym e) ∙ and_false (nat_eq here signature)) k)

pub length-pushed : (test : Bool) (table : List (List ℕ)) (place number : ℕ) → length (cond test (pushed table place number) table) ≡ length table
length-pushed true table place number = length-set table place (get_or table place [] ++ number ∷ [])
length-pushed false table place number = refl

-- all methods
pub owners-all : (classes : List DeclaredClass) (m : Methods) (owners : List (Vec ℕ)) (end : ℕ) → AreSections classes m.members
    → length m.members.rows.items ≤ end → AreOwners classes m end owners → AreOwners classes m (length m.members.rows.items) owners
owners-all classes m owners end are past before signature class inside below =
    let rising = are.rising class below in
    let all = are.within class below in
    before signature class inside below
    ∙ counted-same (is_one classes m signature end) (is_one classes m signature (length m.members.rows.items)) (end_of m class - start_of m class)
    (start_of m class)
    (λ k from high. ap (λ b. (nat_eq (get_or m.signatures.of_members.items k 0) signature && can_be_met classes m k) && b)
    (lt-ltb k end (omega (arith, high, rising, all, past)) ∙ sym (lt-ltb k (length m.members.rows.items) (omega (arith, high, rising, all)))))

-- ---- counts change along a list

-- the counts are more, or less, by how often each class is in the list
abbrev pub AreChanged : Bool → List ℕ → List ℕ → List ℕ → Type 0
AreChanged adds old xs new =
    (length new ≡ length old) × ((class : ℕ) → class < length old
    → get_or new class 0 ≡ cond adds (get_or old class 0 + count_by (nat_eq class) xs) (get_or old class 0 - count_by (nat_eq class) xs))

changed-none : (adds : Bool) (old : List ℕ) → AreChanged adds old [] old
changed-none true old = (refl, λ class within. omega arith)
changed-none false old = (refl, λ class within. omega arith)

pub changed-start : (adds : Bool) (old xs : List ℕ) → AreChanged adds old (take 0 xs) old
changed-start adds old [] = changed-none adds old
changed-start adds old (x ∷ xs) = changed-none adds old

pub changed-more : (adds : Bool) (old xs row new : List ℕ) (i : ℕ) → i < length xs
    → new ≡ set row (get_or xs i 0) (changed adds (get_or row (get_or xs i 0) 0)) → AreChanged adds old (take i xs) row
    → AreChanged adds old (take (i + 1) xs) new
changed-more adds old xs row new i within is before = (
  ap length is ∙ length-set row place value ∙ before.0,
  λ class below. ap (λ ys. get_or ys class 0) is ∙ by_place class below adds (before.1 class below) (cases_eq class place) refl,
) where
  place : ℕ
  place = get_or xs i 0

  value : ℕ
  value = changed adds (get_or row place 0)

  by_adds : (b : Bool) (n o c d : ℕ) → n ≡ cond b (o + c) (o - c) → d ≡ c + 1 → changed b n ≡ cond b (o + d) (o - d)
  by_adds true n o c d e f = omega (arith, e, f)
  by_adds false n o c d e f = omega (arith, e, f)

  by_place : (class : ℕ) → class < length old → (b : Bool)
      → get_or row class 0 ≡ cond b (get_or old class 0 + count_by (nat_eq class) (take i xs)) (get_or old class 0 - count_by (nat_eq class) (take i xs))
      → (class ≡ place) ⊎ (class ≡ place → ⊥) → b ≡ adds
      → get_or (set row place value) class 0
      ≡ cond b (get_or old class 0 + count_by (nat_eq class) (take (i + 1) xs)) (get_or old class 0 - count_by (nat_eq class) (take (i + 1) xs))
  by_place class below b e (inr other) same =
      get_or-set_other row place class value 0 other ∙ e
      ∙ ap (λ n. cond b (get_or old class 0 + n) (get_or old class 0 - n))
      (sym (count_by_more_no (nat_eq class) xs i 0 within (ne_eqb class place other)))
  by_place class below b e (inl at) same =
      let long = before.0 in
      let found : get_or (set row place value) class 0 ≡ changed b (get_or row class 0)
      = ap (λ n. get_or (set row place value) n 0) at ∙ get_or-set_same row place value 0 (omega (arith, below, at, long))
      ∙ ap (λ n. changed adds (get_or row n 0)) (sym at) ∙ ap (λ a. changed a (get_or row class 0)) (sym same) in
      found
      ∙ by_adds b (get_or row class 0) (get_or old class 0) (count_by (nat_eq class) (take i xs)) (count_by (nat_eq class) (take (i + 1) xs)) e
      (count_by_more_yes (nat_eq class) xs i 0 within (eq-eqb class place at))

-- ---- the methods of a signature pass from now on, or don't any more

counted-add : (p one r : ℕ → Bool) (count start : ℕ) → ((k : ℕ) → one k ≡ true → (p k ≡ false) × (r k ≡ true))
    → ((k : ℕ) → one k ≡ false → r k ≡ p k) → counted r count start ≡ counted p count start + counted one count start
counted-add p one r zero start inside outside = refl
counted-add p one r (suc count) start inside outside = by_test (one start) refl (counted-add p one r count (suc start) inside outside) where
  P : ℕ
  P = counted p count (suc start)

  O : ℕ
  O = counted one count (suc start)

  R : ℕ
  R = counted r count (suc start)

  by_kept : (b : Bool) → R ≡ P + O → cond b (suc R) R ≡ cond b (suc P) P + O
  by_kept true later = omega (arith, later)
  by_kept false later = later

  by_test : (b : Bool) → one start ≡ b → R ≡ P + O → counted r (suc count) start ≡ counted p (suc count) start + counted one (suc count) start
  by_test true e later =
      let h = inside start e in
      let r_is : counted r (suc count) start ≡ suc R = ap (λ b. cond b (suc R) R) h.1 in
      let p_is : counted p (suc count) start ≡ P = ap (λ b. cond b (suc P) P) h.0 in
      let o_is : counted one (suc count) start ≡ suc O = ap (λ b. cond b (suc O) O) e in
      omega (arith, r_is, p_is, o_is, later)
  by_test false e later =
      let o_is : counted one (suc count) start ≡ O = ap (λ b. cond b (suc O) O) e in
      let r_is : counted r (suc count) start ≡ cond (p start) (suc R) R = ap (λ b. cond b (suc R) R) (outside start e) in
      r_is ∙ by_kept (p start) later ∙ ap (λ n. counted p (suc count) start + n) (sym o_is)

pub changed-counts : (classes : List DeclaredClass) (m : Methods) (signature : ℕ) (adds : Bool) (q : ℕ → Bool) (old row : List ℕ) (owners : List (Vec ℕ))
    → AreOwners classes m (length m.members.rows.items) owners → signature < length m.members.rows.items
    → ((k : ℕ) → can_be_met classes m k ≡ true → get_or m.signatures.of_members.items k 0 ≡ signature → q k ≡ not adds)
    → HasCounts m (length classes) q old → AreChanged adds old (list_in owners signature) row
    → HasCounts m (length classes) (with_signature classes m signature adds (length m.members.rows.items) q) row
changed-counts classes m signature adds q old row owners are inside before counts changes long class below =
    by_adds adds before (changes.1 class (omega (arith, below, as_long))) where
      as_long : length old ≡ length classes
      as_long = sym changes.0 ∙ long

      one : ℕ → Bool
      one = is_one classes m signature (length m.members.rows.items)

      count : ℕ
      count = end_of m class - start_of m class

      start : ℕ
      start = start_of m class

      was : (b : Bool) → ((k : ℕ) → can_be_met classes m k ≡ true → get_or m.signatures.of_members.items k 0 ≡ signature → q k ≡ not b)
          → (k : ℕ) → one k ≡ true → q k ≡ not b
      was b told k e =
          let outer = and_parts (nat_eq (get_or m.signatures.of_members.items k 0) signature && can_be_met classes m k)
          (nat_lt k (length m.members.rows.items)) e in
          let inner = and_parts (nat_eq (get_or m.signatures.of_members.items k 0) signature) (can_be_met classes m k) outer.0 in
          told k inner.1 (eqb-true (get_or m.signatures.of_members.items k 0) signature inner.0)

      of_class : counted q count start ≡ get_or old class 0
      of_class = counts as_long class below

      owned : count_by (nat_eq class) (list_in owners signature) ≡ counted one count start
      owned = are signature class inside below

      by_adds : (b : Bool) → ((k : ℕ) → can_be_met classes m k ≡ true → get_or m.signatures.of_members.items k 0 ≡ signature → q k ≡ not b)
          → get_or row class 0 ≡ cond b (get_or old class 0 + count_by (nat_eq class) (list_in owners signature))
          (get_or old class 0 - count_by (nat_eq class) (list_in owners signature))
          → counted (with_signature classes m signature b (length m.members.rows.items) q) count start ≡ get_or row class 0
      by_adds true told e =
          let sum : counted (with_signature classes m signature true (length m.members.rows.items) q) count start
          ≡ counted q count start + counted one count start
          = counted-add q one (with_signature classes m signature true (length m.members.rows.items) q) count start
          (λ k h. (was true told k h, ap (λ b. cond b true (q k)) h)) (λ k h. ap (λ b. cond b true (q k)) h) in
          omega (arith, sum, e, owned, of_class)
      by_adds false told e =
          let sum : counted q count start
          ≡ counted (with_signature classes m signature false (length m.members.rows.items) q) count start + counted one count start
          = counted-add (with_signature classes m signature false (length m.members.rows.items) q) one q count start
          (λ k h. (ap (λ b. cond b false (q k)) h, was false told k h)) (λ k h. sym (ap (λ b. cond b false (q k)) h)) in
          omega (arith, sum, e, owned, of_class)
