-- Groups of classes, one holder more, and rows of bits in which the items of a class are set.
use Rattle.std.proofs.Common.{◌≡◌, ◌≢◌, ◌⊎◌, ℕ, zero, suc, ◌+◌, ◌<◌, ◌≤◌, ◌||◌, ◌&&◌, Bool, true, false, cond, List, [], ◌∷◌, ◌++◌, length, map, replicate, get_or, set, Option, Some, None, unwrap_or, refl, inl, inr, ⊎_elim, ap, sym, ◌∙◌, subst, eq-eqb, arith, le-ltb, length-append, length-set, lt-ltb}
use Rattle.std.specs.Prelude.{nat_eq, nat_lt, slice_get}
use Rattle.std.proofs.lemmas.Bool.{cases_eq, cases_lt, eqb-true}
use Rattle.std.proofs.lemmas.List.{get_or-replicate, get_or-set_other, get_or-set_same, get_or_push, length-map, length-replicate}
use Rattle.std.proofs.lemmas.Option.{none-some, same_Some, slice_get_within}
use Rattle.std.proofs.Math.Bool.{or-false, or-true}
use Rattle.std.proofs.Math.ListN.{get_or-append}
use Rattle.fm_base.proofs.ListFacts.{slice_get_push}
use Rattle.fm_base.proofs.TestFacts.{apart-nat_eq, same_test}
use Rattle.fm_base.specs.Rows.{has}
use Rattle.fm_base.proofs.RowFacts.{has-replicate}
use Rattle.fm_flow.specs.inner.LiveWalks.{row_of}
use Rattle.fm_place.specs.declared.groups.Groups.{Groups}
use Rattle.fm_place.specs.inner.PlanRows.{AreGroups, AreRowsIn, classes_of, is_class, IsGroupsOf, IsRowOf, number_in, SetsBit}

-- ---- elements

slice_get-longer : {X : Type 0} (xs : List X) (y : X) (k : ℕ) (x : X) → slice_get xs k ≡ Some x → slice_get (xs ++ y ∷ []) k ≡ Some x
slice_get-longer [] y k x there = absurd (none-some x there)
slice_get-longer (z ∷ xs) y zero x there = there
slice_get-longer (z ∷ xs) y (suc k) x there = slice_get-longer xs y k x there

slice_get-cases : {X : Type 0} (xs : List X) (y : X) (k : ℕ) (x : X) → slice_get (xs ++ y ∷ []) k ≡ Some x
    → (slice_get xs k ≡ Some x) ⊎ ((k ≡ length xs) × (y ≡ x))
slice_get-cases [] y zero x there = inr (refl, same_Some _ _ there)
slice_get-cases [] y (suc k) x there = absurd (none-some x there)
slice_get-cases (z ∷ xs) y zero x there = inl there
slice_get-cases (z ∷ xs) y (suc k) x there =
    ⊎_elim (λ was. inl was) (λ last. inr (ap suc last.0, last.1)) (slice_get-cases xs y k x there)

-- ---- one holder more

module _ (held of_holders : List ℕ) (numbers after : ℕ → Option ℕ) (class group : ℕ) (was : IsGroupsOf held numbers of_holders)
    (is : group ≡ unwrap_or (numbers class) (length held)) (updates : (c : ℕ) → after c ≡ cond (nat_eq class c) (Some group) (numbers c)) where
  here : after class ≡ Some group
  here = updates class ∙ ap (λ b. cond b (Some group) (numbers class)) (eq-eqb class class refl)

  apart : (c : ℕ) → class ≢ c → after c ≡ numbers c
  apart c other = updates c ∙ ap (λ b. cond b (Some group) (numbers c)) (apart-nat_eq class c other)

  -- the group is the place of a holder of the class
  placed : (o : Option ℕ) → numbers class ≡ o → slice_get (held ++ class ∷ []) group ≡ Some class
  placed None none =
      subst (λ g. slice_get (held ++ class ∷ []) g ≡ Some class) (sym (is ∙ ap (λ o. unwrap_or o (length held)) none)) (slice_get_push held class)
  placed (Some g) some =
      subst (λ n. slice_get (held ++ class ∷ []) n ≡ Some class) (sym (is ∙ ap (λ o. unwrap_or o (length held)) some))
      (slice_get-longer held class g class (was.known class g some))

  known-more : (c g : ℕ) → after c ≡ Some g → slice_get (held ++ class ∷ []) g ≡ Some c
  known-more c g there =
      ⊎_elim
      (λ (same : class ≡ c).
      let number : group ≡ g = same_Some _ _ (sym here ∙ ap after same ∙ there) in
      subst (λ n. slice_get (held ++ class ∷ []) n ≡ Some c) number (placed (numbers class) refl ∙ ap (λ n. Some n) same))
      (λ (other : class ≢ c). slice_get-longer held class g c (was.known c g (sym (apart c other) ∙ there)))
      (cases_eq class c)

  -- an older holder keeps its group
  kept : (h c : ℕ) → slice_get held h ≡ Some c → numbers c ≡ Some (get_or of_holders h 0) → after c ≡ Some (get_or (of_holders ++ group ∷ []) h 0)
  kept h c there number =
      ⊎_elim
      (λ (same : class ≡ c).
      let old : group ≡ get_or of_holders h 0 = is ∙ ap (λ o. unwrap_or o (length held)) (ap numbers same ∙ number) in
      sym (ap after same) ∙ here ∙ ap (λ n. Some n) (old ∙ sym longer))
      (λ (other : class ≢ c). apart c other ∙ number ∙ ap (λ n. Some n) (sym longer))
      (cases_eq class c) where
        longer : get_or (of_holders ++ group ∷ []) h 0 ≡ get_or of_holders h 0
        longer =
            let inside = slice_get_within held h c there in
            get_or-append of_holders (group ∷ []) 0 h (omega (arith, inside, was.one_each))

  each-more : (h c : ℕ) → slice_get (held ++ class ∷ []) h ≡ Some c → after c ≡ Some (get_or (of_holders ++ group ∷ []) h 0)
  each-more h c there =
      ⊎_elim (λ old. kept h c old (was.each h c old))
      (λ (last : (h ≡ length held) × (class ≡ c)).
      sym (ap after last.1) ∙ here ∙ ap (λ n. Some n) (sym (get_or_push of_holders group 0 h (was.one_each ∙ sym last.0))))
      (slice_get-cases held class h c there)

  pub groups_more : IsGroupsOf (held ++ class ∷ []) after (of_holders ++ group ∷ [])
  groups_more = record {
    one_each = let a = length-append held (class ∷ []) in let b = length-append of_holders (group ∷ []) in omega (arith, a, b, was.one_each);
    known = known-more;
    each = each-more;
  }

-- ---- elements of pairs

pub slice_get-mapped : {X Y : Type 0} (f : X → Y) (xs : List X) (k : ℕ) (x : X) → slice_get xs k ≡ Some x → slice_get (map f xs) k ≡ Some (f x)
slice_get-mapped f [] k x there = absurd (none-some x there)
slice_get-mapped f (y ∷ ys) zero x there = ap (λ z. Some (f z)) (same_Some _ _ there)
slice_get-mapped f (y ∷ ys) (suc k) x there = slice_get-mapped f ys k x there

pub class-there : (held : List (ℕ × ℕ)) (h : ℕ) (pair : ℕ × ℕ) → slice_get held h ≡ Some pair → slice_get (classes_of held) h ≡ Some pair.1
class-there held h pair there = slice_get-mapped (λ (p : ℕ × ℕ). p.1) held h pair there

pub classes_push : (held : List (ℕ × ℕ)) (pair : ℕ × ℕ) → classes_of (held ++ pair ∷ []) ≡ classes_of held ++ pair.1 ∷ []
classes_push [] pair = refl
classes_push (p ∷ held) pair = ap (λ rest. p.1 ∷ rest) (classes_push held pair)

-- ---- bits that are set one by one

same_bits : (here : Bool) → ((false && here) || (here && true)) ≡ here
same_bits true = refl
same_bits false = refl

other_bits : (below there now : Bool) → ((below && there) || (now && false)) ≡ (below && there)
other_bits true true now = refl
other_bits true false true = refl
other_bits true false false = refl
other_bits false there true = refl
other_bits false there false = refl

not-below : (i : ℕ) → nat_lt i i ≡ false
not-below i = le-ltb i i (omega arith)

-- with one bit more, that of number i, in a row
pub bits_more : (h i : ℕ) (here now : Bool) → (h ≡ i → now ≡ here) → ((nat_lt h i && here) || (now && nat_eq i h)) ≡ (nat_lt h (i + 1) && here)
bits_more h i here now same_row =
    ⊎_elim
    (λ (same : h ≡ i).
    let below : nat_lt h i ≡ false = ap (λ n. nat_lt n i) same ∙ not-below i in
    let next : nat_lt h (i + 1) ≡ true = lt-ltb h (i + 1) (omega arith) in
    (λ k. (below k && here) || (same_row same k && eq-eqb i h (sym same) k)) ∙ same_bits here ∙ sym (λ k. next k && here))
    (λ (other : h ≢ i).
    let apart : i ≢ h = λ same. other (sym same) in
    (λ k. (nat_lt h i && here) || (now && apart-nat_eq i h apart k)) ∙ other_bits (nat_lt h i) here now ∙ (λ k. below_same other k && here))
    (cases_eq h i) where
      below_same : h ≢ i → nat_lt h i ≡ nat_lt h (i + 1)
      below_same other =
          ⊎_elim (λ (less : h < i). lt-ltb h i less ∙ sym (lt-ltb h (i + 1) (omega arith)))
          (λ (past : i ≤ h).
          let above : i + 1 ≤ h = ⊎_elim (λ (same : h ≡ i). absurd (other same)) (λ (apart : h ≢ i). omega arith) (cases_eq h i) in
          le-ltb h i past ∙ sym (le-ltb h (i + 1) above))
          (cases_lt h i)

-- the bit of one row is set
pub sets_bit : (item bit : ℕ) (rows : List (List Bool)) → item < length rows → bit < length (row_of rows item)
    → SetsBit item bit rows (set rows item (set (row_of rows item) bit true))
sets_bit item bit rows inside within = record { same_count = length-set rows item row; same_width = width; members = λ j k below. members j k } where
  row : List Bool
  row = set (row_of rows item) bit true

  at_item : (j : ℕ) → j ≡ item → row_of (set rows item row) j ≡ row
  at_item j same = ap (row_of (set rows item row)) same ∙ get_or-set_same rows item row [] inside

  width : (j : ℕ) → length (row_of (set rows item row) j) ≡ length (row_of rows j)
  width j =
      ⊎_elim (λ (same : j ≡ item). ap length (at_item j same) ∙ length-set (row_of rows item) bit true ∙ ap (λ n. length (row_of rows n)) (sym same))
      (λ (other : j ≢ item). ap length (get_or-set_other rows item j row [] other)) (cases_eq j item)

  here : (k : ℕ) → has row k ≡ (has (row_of rows item) k || nat_eq bit k)
  here k =
      ⊎_elim
      (λ (same : k ≡ bit).
      ap (has row) same ∙ get_or-set_same (row_of rows item) bit true false within ∙ sym (or-true (has (row_of rows item) k))
      ∙ ap (λ b. has (row_of rows item) k || b) (sym (eq-eqb bit k (sym same))))
      (λ (other : k ≢ bit).
      get_or-set_other (row_of rows item) bit k true false other ∙ sym (or-false (has (row_of rows item) k))
      ∙ ap (λ b. has (row_of rows item) k || b) (sym (apart-nat_eq bit k (λ same. other (sym same)))))
      (cases_eq k bit)

  members : (j k : ℕ) → has (row_of (set rows item row) j) k ≡ (has (row_of rows j) k || (nat_eq item j && nat_eq bit k))
  members j k =
      ⊎_elim
      (λ (same : j ≡ item).
      ap (λ r. has r k) (at_item j same) ∙ here k
      ∙ (λ i. has (row_of rows (sym same i)) k || (sym (eq-eqb item j (sym same)) i && nat_eq bit k)))
      (λ (other : j ≢ item).
      ap (λ r. has r k) (get_or-set_other rows item j row [] other) ∙ sym (or-false (has (row_of rows j) k))
      ∙ ap (λ b. has (row_of rows j) k || (b && nat_eq bit k)) (sym (apart-nat_eq item j (λ same. other (sym same)))))
      (cases_eq j item)

-- there is no such row
pub sets_none : (item bit : ℕ) (rows : List (List Bool)) → length rows ≤ item → SetsBit item bit rows rows
sets_none item bit rows past = record {
  same_count = refl;
  same_width = λ j. refl;
  members = λ j k below.
      let apart : item ≢ j = λ same. omega (arith, same, below, past) in
      sym (or-false (has (row_of rows j) k)) ∙ ap (λ b. has (row_of rows j) k || (b && nat_eq bit k)) (sym (apart-nat_eq item j apart));
}

-- ---- rows by class

-- a number of a class is below the number of holders
group_within : {g : Groups} → AreGroups g → (class n : ℕ) → number_in g.numbers class ≡ Some n → n < length g.held.now
group_within {g} groups class n there =
    let inside = slice_get_within (classes_of g.held.now) n class (groups.numbered.known class n there) in
    omega (arith, inside, length-map g.held.now (λ (p : ℕ × ℕ). p.1))

module _ (g : Groups) (count : ℕ) (test : ℕ → ℕ → Bool) (rows : List (List Bool)) where
  -- at first no item is set
  pub rows_unset : AreGroups g → rows ≡ replicate (length g.held.now) (replicate count false) → ((class j : ℕ) → test j class ≡ false) → AreRowsIn g count test rows
  rows_unset groups is none = subst (AreRowsIn g count test) (sym is) (record {
    one_each = size;
    wide = λ n inside. ap (λ (row : List Bool). length row) (row n (omega (arith, inside, size))) ∙ length-replicate count false;
    each = λ class n there j inside.
        ap (λ (r : List Bool). has r j) (row n (group_within groups class n there)) ∙ has-replicate count j ∙ sym (none class j);
  }) where
    size : length (replicate (length g.held.now) (replicate count false)) ≡ length g.held.now
    size = length-replicate (length g.held.now) (replicate count false)

    row : (n : ℕ) → n < length g.held.now → row_of (replicate (length g.held.now) (replicate count false)) n ≡ replicate count false
    row n inside = get_or-replicate (length g.held.now) n (replicate count false) [] inside

  -- another test agrees with this one
  pub rows_retested : (other : ℕ → ℕ → Bool) → ((class j : ℕ) → j < count → test j class ≡ other j class) → AreRowsIn g count test rows → AreRowsIn g count other rows
  rows_retested other same are = record {
    one_each = are.one_each;
    wide = are.wide;
    each = λ class n there j inside. are.each class n there j inside ∙ same class j inside;
  }

  -- the same, where it agrees on the classes that holders have
  pub rows_kept : (other : ℕ → ℕ → Bool)
      → ((class n : ℕ) → number_in g.numbers class ≡ Some n → (j : ℕ) → j < count → test j class ≡ other j class) → AreRowsIn g count test rows
      → AreRowsIn g count other rows
  rows_kept other same are = record {
    one_each = are.one_each;
    wide = are.wide;
    each = λ class n there j inside. are.each class n there j inside ∙ same class n there j inside;
  }

  -- a class that no holder has sets no item
  pub rows_unmarked : (class : Option ℕ) (item : ℕ) → ((c n : ℕ) → number_in g.numbers c ≡ Some n → is_class class c ≡ false) → AreRowsIn g count test rows
      → AreRowsIn g count (λ j c. test j c || (is_class class c && nat_eq item j)) rows
  rows_unmarked class item none are = record {
    one_each = are.one_each;
    wide = are.wide;
    each = λ c n there j inside.
        are.each c n there j inside ∙ sym (or-false (test j c)) ∙ ap (λ b. test j c || (b && nat_eq item j)) (sym (none c n there));
  }

  -- the item is set in the row of a class
  pub rows_marked : (class number item : ℕ) (after : List (List Bool)) → AreGroups g → number_in g.numbers class ≡ Some number
      → SetsBit number item rows after → AreRowsIn g count test rows
      → AreRowsIn g count (λ j c. test j c || (is_class (Some class) c && nat_eq item j)) after
  rows_marked class number item after groups there sets are = record {
    one_each = sets.same_count ∙ are.one_each;
    wide = λ n inside. sets.same_width n ∙ are.wide n (omega (arith, inside, sets.same_count));
    each = λ c n is j inside.
        sets.members n j (omega (arith, group_within groups c n is, are.one_each))
        ∙ (λ k. are.each c n is j inside k || (same c n is k && nat_eq item j));
  } where
    same : (c n : ℕ) → number_in g.numbers c ≡ Some n → nat_eq number n ≡ nat_eq class c
    same c n is = same_test (nat_eq number n) (nat_eq class c) forth back where
      forth : nat_eq number n ≡ true → nat_eq class c ≡ true
      forth one =
          let is_one : number ≡ n = eqb-true number n one in
          eq-eqb class c
          (same_Some _ _ (sym (groups.numbered.known class number there) ∙ ap (slice_get (classes_of g.held.now)) is_one ∙ groups.numbered.known c n is))

      back : nat_eq class c ≡ true → nat_eq number n ≡ true
      back one = eq-eqb number n (same_Some _ _ (sym there ∙ ap (number_in g.numbers) (eqb-true class c one) ∙ is))

  -- the row of a holder's class
  pub holder_row : AreGroups g → AreRowsIn g count test rows → (h : ℕ) (pair : ℕ × ℕ) → slice_get g.held.now h ≡ Some pair
      → (get_or g.of_holders.items h 0 < length rows) × IsRowOf count (λ j. test j pair.1) (row_of rows (get_or g.of_holders.items h 0))
  holder_row groups are h pair there = (inside, record { wide = are.wide n inside; each = λ j below. are.each pair.1 n number j below }) where
    n : ℕ
    n = get_or g.of_holders.items h 0

    number : number_in g.numbers pair.1 ≡ Some n
    number = groups.numbered.each h pair.1 (class-there g.held.now h pair there)

    inside : n < length rows
    inside = omega (arith, group_within groups pair.1 n number, are.one_each)

-- a class that has no number is none of those that have one
pub unnumbered : (g : Groups) (class : ℕ) → number_in g.numbers class ≡ None → (c n : ℕ) → number_in g.numbers c ≡ Some n → is_class (Some class) c ≡ false
unnumbered g class none c n is = apart-nat_eq class c (λ same. none-some n (sym none ∙ ap (number_in g.numbers) same ∙ is))
