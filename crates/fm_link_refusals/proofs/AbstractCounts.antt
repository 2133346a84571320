-- How many abstract methods are still to be implemented: the counts of one method more, and of all methods of a signature.
use Rattle.std.proofs.Common.{◌≡◌, refl, sym, ◌∙◌, ap, subst, ℕ, zero, suc, ◌+◌, ◌-◌, ◌<◌, ◌≤◌, ◌&&◌, ◌||◌, not, Bool, true, false, cond, List, length, get_or, replicate, set, nat_lt, arith, ◌⊎◌, inl, inr, get_or-set_same, get_or-set_other, length-set}
use Rattle.std.proofs.lemmas.Bool.{cases_eq, cases_lt, false≢true, le-ltb, lt-ltb}
use Rattle.std.proofs.lemmas.List.{length-replicate}
use Rattle.fm_base.proofs.RowsLemmas.{get_or-zeros}
use Rattle.fm_base.proofs.TestFacts.{and_false}
use Rattle.fm_link_members.specs.declared.lookups.Methods.{Methods}
use Rattle.fm_link_members.specs.inner.MemberRows.{no_row, section_of, AreSections}
use Rattle.fm_link_members.specs.inner.MemberTables.{flags_of}
use Rattle.fm_world.specs.Lookups.{is_abstract_method}
use Rattle.fm_world.specs.declared.declarations.DeclaredClass.{DeclaredClass}
use Rattle.fm_link_refusals.specs.inner.LeftOver.{changed, counted, counted_of, is_limited, is_owed, HasCounts}

-- ---- truth values

-- what is owed of an abstract method that isn't private, and of another one
pub owed_met : (a r x : Bool) → (a && not r) ≡ true → (a && (r || x)) ≡ x
owed_met true true x e = absurd (false≢true e)
owed_met true false x e = refl
owed_met false r x e = absurd (false≢true e)

pub owed_unmet : (a r x y : Bool) → (a && not r) ≡ false → (a && (r || x)) ≡ (a && (r || y))
owed_unmet true true x y e = refl
owed_unmet true false x y e = absurd (false≢true (sym e))
owed_unmet false r x y e = refl

pub lt_step : (k n : ℕ) → (k ≡ n → ⊥) → nat_lt k (n + 1) ≡ nat_lt k n
lt_step k n other = by_order (cases_lt k n) where
  by_order : (k < n) ⊎ (n ≤ k) → nat_lt k (n + 1) ≡ nat_lt k n
  by_order (inl h) = lt-ltb k (n + 1) (omega (arith, h)) ∙ sym (lt-ltb k n h)
  by_order (inr h) = le-ltb k (n + 1) (omega (arith, h, other)) ∙ sym (le-ltb k n h)

-- ---- counts

pub counted-same : (p q : ℕ → Bool) (count start : ℕ) → ((k : ℕ) → start ≤ k → k < start + count → p k ≡ q k)
    → counted p count start ≡ counted q count start
counted-same p q zero start same = refl
counted-same p q (suc count) start same =
    ap (λ b. cond b (suc (counted p count (suc start))) (counted p count (suc start))) (same start (omega arith) (omega arith))
    ∙ ap (λ n. cond (q start) (suc n) n)
    (counted-same p q count (suc start) (λ k from below. same k (omega (arith, from)) (omega (arith, below))))

one_later : (b : Bool) (n : ℕ) → cond b (suc (suc n)) (suc n) ≡ suc (cond b (suc n) n)
one_later true n = refl
one_later false n = refl

-- one method more passes
pub counted-more : (p q : ℕ → Bool) (method count start : ℕ) → ((k : ℕ) → (k ≡ method → ⊥) → p k ≡ q k) → p method ≡ false → q method ≡ true
    → start ≤ method → method < start + count → counted q count start ≡ suc (counted p count start)
counted-more p q method zero start same fails holds from below = absurd (omega (arith, from, below))
counted-more p q method (suc count) start same fails holds from below =
    by_place (cases_eq start method) (λ h. counted-more p q method count (suc start) same fails holds h (omega (arith, below))) where
      by_place : (start ≡ method) ⊎ (start ≡ method → ⊥)
          → (suc start ≤ method → counted q count (suc start) ≡ suc (counted p count (suc start)))
          → counted q (suc count) start ≡ suc (counted p (suc count) start)
      by_place (inl e) later =
          ap (λ b. cond b (suc (counted q count (suc start))) (counted q count (suc start))) (ap q e ∙ holds)
          ∙ ap (λ n. suc n) (sym (counted-same p q count (suc start) (λ k low high. same k (λ is. omega (arith, low, is, e)))))
          ∙ ap (λ b. suc (cond b (suc (counted p count (suc start))) (counted p count (suc start)))) (sym (ap p e ∙ fails))
      by_place (inr other) later =
          ap (λ b. cond b (suc (counted q count (suc start))) (counted q count (suc start))) (sym (same start other))
          ∙ ap (λ n. cond (p start) (suc n) n) (later (omega (arith, from, other)))
          ∙ one_later (p start) (counted p count (suc start))

pub counted-none : (p : ℕ → Bool) (count start k : ℕ) → counted p count start ≡ 0 → start ≤ k → k < start + count → p k ≡ false
counted-none p zero start k none from below = absurd (omega (arith, from, below))
counted-none p (suc count) start k none from below =
    by_test (p start) refl none (λ h g. counted-none p count (suc start) k h g (omega (arith, below))) where
      by_place : p start ≡ false → (start < k) ⊎ (k ≤ start) → (suc start ≤ k → p k ≡ false) → p k ≡ false
      by_place e (inl h) later = later (omega (arith, h))
      by_place e (inr h) later = let same : k ≡ start = omega (arith, h, from) in ap p same ∙ e

      by_test : (b : Bool) → p start ≡ b → cond b (suc (counted p count (suc start))) (counted p count (suc start)) ≡ 0
          → (counted p count (suc start) ≡ 0 → suc start ≤ k → p k ≡ false) → p k ≡ false
      by_test true e h later = absurd (omega (arith, h))
      by_test false e h later = by_place e (cases_lt start k) (later h)

-- ---- rows of counts

abbrev pub class_of : Methods → ℕ → ℕ
class_of m method = (get_or m.members.rows.items method no_row).class

abbrev pub start_of : Methods → ℕ → ℕ
start_of m class = (section_of m.members.first.items class).0

abbrev pub end_of : Methods → ℕ → ℕ
end_of m class = (section_of m.members.first.items class).1

pub counts_same : (classes : List DeclaredClass) (m : Methods) (p q : ℕ → Bool) (row : List ℕ) → AreSections classes m.members
    → ((k : ℕ) → k < length m.members.rows.items → p k ≡ q k) → HasCounts m (length classes) p row → HasCounts m (length classes) q row
counts_same classes m p q row are same counts long class below =
    let rising = are.rising class below in
    let inside = are.within class below in
    subst (λ n. n ≡ get_or row class 0)
    (counted-same p q (end_of m class - start_of m class) (start_of m class) (λ k from high. same k (omega (arith, high, rising, inside))))
    (counts long class below)

-- one method passes from now on, or doesn't any more
pub counts_changed : (classes : List DeclaredClass) (m : Methods) (p q : ℕ → Bool) (row new : List ℕ) (method : ℕ) (adds : Bool)
    → AreSections classes m.members → method < length m.members.rows.items → ((k : ℕ) → (k ≡ method → ⊥) → p k ≡ q k)
    → p method ≡ not adds → q method ≡ adds → new ≡ set row (class_of m method) (changed adds (get_or row (class_of m method) 0))
    → HasCounts m (length classes) p row → HasCounts m (length classes) q new
counts_changed classes m p q row new method adds are within same before after is counts long class below =
    subst (λ xs. counted_of m q class ≡ get_or xs class 0) (sym is) (by_class (cases_eq class mine)) where
      mine : ℕ
      mine = class_of m method

      value : ℕ
      value = changed adds (get_or row mine 0)

      as_long : length row ≡ length classes
      as_long = sym (length-set row mine value) ∙ ap length (sym is) ∙ long

      others : (class ≡ mine → ⊥) → (k : ℕ) → start_of m class ≤ k → k < start_of m class + (end_of m class - start_of m class) → p k ≡ q k
      others other k from high =
          let rising = are.rising class below in
          same k (λ e. other (sym (are.inside class k below from (omega (arith, high, rising))) ∙ ap (class_of m) e))

      by_adds : (b : Bool) → p method ≡ not b → q method ≡ b → (mine < length classes) × (start_of m mine ≤ method) × (method < end_of m mine)
          → counted_of m q mine ≡ changed b (get_or row mine 0)
      by_adds true h g here =
          let old = counts as_long mine here.0 in
          let low = here.1 in
          let high = here.2 in
          let e = counted-more p q method (end_of m mine - start_of m mine) (start_of m mine) same h g low (omega (arith, low, high)) in
          omega (arith, e, old)
      by_adds false h g here =
          let old = counts as_long mine here.0 in
          let low = here.1 in
          let high = here.2 in
          let e = counted-more q p method (end_of m mine - start_of m mine) (start_of m mine) (λ k other. sym (same k other)) g h low
          (omega (arith, low, high)) in
          omega (arith, e, old)

      by_class : (class ≡ mine) ⊎ (class ≡ mine → ⊥) → counted_of m q class ≡ get_or (set row mine value) class 0
      by_class (inl e) =
          let here = are.outside mine method within refl in
          let first = here.0 in
          subst (λ c. counted_of m q c ≡ get_or (set row mine value) c 0) (sym e)
          (subst (λ n. counted_of m q mine ≡ n) (sym (get_or-set_same row mine value 0 (omega (arith, first, as_long))))
          (by_adds adds before after here))
      by_class (inr other) =
          let old = counts as_long class below in
          let e = counted-same p q (end_of m class - start_of m class) (start_of m class) (others other) in
          let f = get_or-set_other row mine class value 0 other in
          subst (λ n. counted_of m q class ≡ n) (sym f) (subst (λ n. n ≡ get_or row class 0) e old)

-- a row that is too short says nothing
pub counts_short : (m : Methods) (count : ℕ) (q : ℕ → Bool) (row : List ℕ) → length row ≡ 0 → HasCounts m count q row
counts_short m count q row short long class below = absurd (omega (arith, short, long, below))

-- ---- how long rows are

pub length_zeros : (row : List ℕ) (count : ℕ) → row ≡ replicate count zero → length row ≡ count
length_zeros row count zeros = ap length zeros ∙ length-replicate count zero

pub length_changed : (test : Bool) (row : List ℕ) (place value : ℕ) → length (cond test (set row place value) row) ≡ length row
length_changed true row place value = length-set row place value
length_changed false row place value = refl

-- ---- all abstract methods

pub counted-zero : (count start : ℕ) → counted (λ k. false) count start ≡ 0
counted-zero zero start = refl
counted-zero (suc count) start = counted-zero count (suc start)

-- the abstract methods below a number
abbrev pub abstract_below : List DeclaredClass → ℕ → ℕ → Bool
abstract_below classes end k = nat_lt k end && is_abstract_method classes k

pub abstract-none : (classes : List DeclaredClass) (m : Methods) (row : List ℕ) (count : ℕ) → row ≡ replicate count 0
    → HasCounts m (length classes) (abstract_below classes 0) row
abstract-none classes m row count zeros long class below =
    let e = counted-same (abstract_below classes 0) (λ k. false) (end_of m class - start_of m class) (start_of m class)
    (λ k from high. ap (λ b. b && is_abstract_method classes k) (le-ltb k 0 (omega arith))) in
    let z = counted-zero (end_of m class - start_of m class) (start_of m class) in
    e ∙ z ∙ sym (ap (λ xs. get_or xs class 0) zeros ∙ get_or-zeros count class)

pub abstract-more : (classes : List DeclaredClass) (m : Methods) (row new : List ℕ) (method : ℕ) (test : Bool) → AreSections classes m.members
    → method < length m.members.rows.items → test ≡ is_abstract_method classes method
    → new ≡ cond test (set row (class_of m method) (changed true (get_or row (class_of m method) 0))) row
    → HasCounts m (length classes) (abstract_below classes method) row → HasCounts m (length classes) (abstract_below classes (method + 1)) new
abstract-more classes m row new method test are within told is counts = by_test test told is where
  same : (k : ℕ) → (k ≡ method → ⊥) → abstract_below classes method k ≡ abstract_below classes (method + 1) k
  same k other = ap (λ b. b && is_abstract_method classes k) (sym (lt_step k method other))

  by_test : (b : Bool) → b ≡ is_abstract_method classes method
      → new ≡ cond b (set row (class_of m method) (changed true (get_or row (class_of m method) 0))) row
      → HasCounts m (length classes) (abstract_below classes (method + 1)) new
  by_test true e h =
      counts_changed classes m (abstract_below classes method) (abstract_below classes (method + 1)) row new method true are within same
      (ap (λ b. b && is_abstract_method classes method) (le-ltb method method (omega arith)))
      (ap (λ b. b && is_abstract_method classes method) (lt-ltb method (method + 1) (omega arith)) ∙ sym e) h counts
  by_test false e h =
      subst (HasCounts m (length classes) (abstract_below classes (method + 1))) (sym h)
      (counts_same classes m (abstract_below classes method) (abstract_below classes (method + 1)) row are (λ k below. each k (cases_eq k method)) counts)
    where
      each : (k : ℕ) → (k ≡ method) ⊎ (k ≡ method → ⊥) → abstract_below classes method k ≡ abstract_below classes (method + 1) k
      each k (inr other) = same k other
      each k (inl at) =
          let none : is_abstract_method classes k ≡ false = ap (is_abstract_method classes) at ∙ sym e in
          ap (λ b. nat_lt k method && b) none ∙ and_false (nat_lt k method) ∙ sym (and_false (nat_lt k (method + 1)))
          ∙ ap (λ b. nat_lt k (method + 1) && b) (sym none)

or_last : (a r : Bool) → a ≡ (a && (r || true))
or_last true true = refl
or_last true false = refl
or_last false r = refl

pub abstract-all : (classes : List DeclaredClass) (m : Methods) (row : List ℕ) (end : ℕ) → AreSections classes m.members
    → length m.members.rows.items ≤ end → HasCounts m (length classes) (abstract_below classes end) row
    → HasCounts m (length classes) (is_owed classes m (λ signature. true)) row
abstract-all classes m row end are past counts =
    counts_same classes m (abstract_below classes end) (is_owed classes m (λ signature. true)) row are
    (λ k below. ap (λ b. b && is_abstract_method classes k) (lt-ltb k end (omega (arith, below, past)))
    ∙ or_last (is_abstract_method classes k) (is_limited (flags_of m.members.rows.items k))) counts
