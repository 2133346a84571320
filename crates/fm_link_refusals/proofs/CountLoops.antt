-- The loops over counts of abstract methods: those of one class, and the table of all classes.
use Rattle.std.proofs.Common.{◌≡◌, Result, refl, sym, ◌∙◌, ap, subst, suc, slice_get, ℕ, ◌+◌, ◌-◌, ◌<◌, ◌≤◌, ◌||◌, not, Bool, true, false, cond, List, [], ◌∷◌, ◌++◌, length, take, get_or, replicate, set, nat_eq, Option, Some, arith, ◌⊎◌, inl, inr, get_or-set_same, get_or-set_other, length-set}
use Rattle.std.proofs.lemmas.Bool.{cases_eq, cases_lt, eqb-true, false≢true}
use Rattle.std.proofs.lemmas.List.{get_or-replicate, get_or_past, length-replicate, take_more}
use Rattle.std.proofs.lemmas.List.FromFn.{length-map-range_with_len}
use Rattle.std.proofs.lemmas.Option.{same_Some, slice_get-get_or, slice_get_past}
use Rattle.fm_link_members.specs.declared.lookups.Methods.{Methods}
use Rattle.fm_link_members.specs.inner.MemberRows.{AreSections}
use Rattle.fm_link_members.specs.inner.MemberTables.{AreMethods}
use Rattle.fm_code.specs.AccessFlags.{is_interface}
use Rattle.fm_link_supers.proofs.Distinct.{among_distinct}
use Rattle.fm_link_supers.proofs.Downwards.{walk_within}
use Rattle.fm_world.specs.Chains.{chain_of, interfaces_of, is_among, superinterfaces_of}
use Rattle.fm_world.specs.Declarations.{no_class}
use Rattle.fm_world.specs.inner.Tables.{AreInterfaces}
use Rattle.std.specs.List.{flat_map}
use Rattle.fm_world.specs.Members.{first_method}
use Rattle.fm_world.specs.declared.declarations.DeclaredClass.{DeclaredClass}
use Rattle.fm_link_refusals.proofs.Sections.{section_none}
use Rattle.fm_link_names.specs.inner.Numbering.{texts_in}
use Rattle.fm_link_refusals.proofs.Among.{among_either, among_flat, IsInOne}
use Rattle.std.specs.Prelude.{Ok, Err, IfOk}
use Rattle.fm_link_refusals.specs.declared.left_over.Counting.{Counting}
use Rattle.fm_link_refusals.specs.inner.LeftOver.{counted, counted_of, is_open, is_owed, is_part_owed, selected_at, with_signature, HasCounts, IsCounting}
use Rattle.fm_link_refusals.proofs.AbstractCounts.{counts_short}
use Rattle.fm_link_refusals.proofs.LeftOverCounts.{sections_of}

-- ---- loops

-- it holds of one class more
pub holds_more : (P : ℕ → Type 0) (xs : List ℕ) (i class : ℕ) → i < length xs → ((k : ℕ) → is_among k (take i xs) ≡ true → P k) → P (get_or xs i 0)
    → is_among class (take (i + 1) xs) ≡ true → P class
holds_more P xs i class within before here among =
    by_part (among_either class (take i xs) (get_or xs i 0 ∷ []) (ap (is_among class) (sym (take_more xs i 0 within)) ∙ among)) where
      last : (b : Bool) → nat_eq class (get_or xs i 0) ≡ b → (b || false) ≡ true → P class
      last true e h = subst P (sym (eqb-true class (get_or xs i 0) e)) here
      last false e h = absurd (false≢true h)

      by_part : (is_among class (take i xs) ≡ true) ⊎ (is_among class (get_or xs i 0 ∷ []) ≡ true) → P class
      by_part (inl h) = before class h
      by_part (inr h) = last (nat_eq class (get_or xs i 0)) refl h

pub sections_at : (classes : List DeclaredClass) (c : Counting) → IsCounting classes c → AreSections classes c.linking.methods.now.members
sections_at classes c counting =
    sections_of (texts_in c.linking.texts.now) classes c.linking.methods.now counting.linking.methods

-- what a test of two truth values means
pub same_truth : (a b : Bool) → cond a b (not b) ≡ true → a ≡ b
same_truth true true e = refl
same_truth true false e = absurd (false≢true e)
same_truth false true e = absurd (false≢true e)
same_truth false false e = refl

pub other_truth : (a b : Bool) → cond a b (not b) ≡ false → a ≡ not b
other_truth true true e = absurd (false≢true (sym e))
other_truth true false e = refl
other_truth false true e = refl
other_truth false false e = absurd (false≢true (sym e))

-- the signature of the method, by its number
pub changed_at : (classes : List DeclaredClass) (m : Methods) (adds : Bool) (parent : Option ℕ) (class start method : ℕ) (row : List ℕ) {s : ℕ}
    → s ≡ get_or m.signatures.of_members.items method 0
    → HasCounts m (length classes) (with_signature classes m s adds (length m.members.rows.items) (is_part_owed classes m parent class start method)) row
    → HasCounts m (length classes) (with_signature classes m (get_or m.signatures.of_members.items method 0) adds (length m.members.rows.items)
    (is_part_owed classes m parent class start method)) row
changed_at classes m adds parent class start method row {s} e counts =
    subst (λ n. HasCounts m (length classes) (with_signature classes m n adds (length m.members.rows.items)
    (is_part_owed classes m parent class start method)) row) e counts

-- ---- the table of all classes

-- the row of one class more
pub row_put : (classes : List DeclaredClass) (m : Methods) (old new : List (List ℕ)) (class : ℕ) (row : List ℕ) → new ≡ set old class row
    → HasCounts m (length classes) (is_owed classes m (λ s. is_open classes (selected_at m (Some class) s))) row
    → ((k : ℕ) → k < length classes
    → HasCounts m (length classes) (is_owed classes m (λ s. is_open classes (selected_at m (Some k) s))) (get_or old k []))
    → (k : ℕ) → k < length classes
    → HasCounts m (length classes) (is_owed classes m (λ s. is_open classes (selected_at m (Some k) s))) (get_or new k [])
row_put classes m old new class row is mine before k below =
    subst (λ t. Fits k (get_or t k [])) (sym is) (by_class (cases_eq k class) (cases_lt class (length old))) where
      Fits : ℕ → List ℕ → Type 0
      Fits j xs = HasCounts m (length classes) (is_owed classes m (λ s. is_open classes (selected_at m (Some j) s))) xs

      by_class : (k ≡ class) ⊎ (k ≡ class → ⊥) → (class < length old) ⊎ (length old ≤ class) → Fits k (get_or (set old class row) k [])
      by_class (inr other) either = subst (Fits k) (sym (get_or-set_other old class k row [] other)) (before k below)
      by_class (inl e) (inl within) =
          subst (λ j. Fits j (get_or (set old class row) j [])) (sym e)
          (subst (Fits class) (sym (get_or-set_same old class row [] within)) mine)
      by_class (inl e) (inr past) =
          let gone : get_or (set old class row) k [] ≡ [] = get_or_past (set old class row) k [] (omega (arith, past, e, length-set old class row)) in
          counts_short m (length classes) (is_owed classes m (λ s. is_open classes (selected_at m (Some k) s))) (get_or (set old class row) k [])
          (ap length gone)

pub none_at : (count k : ℕ) → (let none : List ℕ = [] in get_or (replicate count none) k none ≡ none)
none_at count k = by_place (cases_lt k count) where
  none : List ℕ
  none = []

  by_place : (k < count) ⊎ (count ≤ k) → get_or (replicate count none) k none ≡ none
  by_place (inl within) = get_or-replicate count k none none within
  by_place (inr past) = get_or_past (replicate count none) k none (let e = length-replicate count none in omega (arith, past, e))

pub rows_short : (classes : List DeclaredClass) (m : Methods) (count : ℕ) (table : List (List ℕ)) → table ≡ replicate count [] → (k : ℕ)
    → k < length classes
    → HasCounts m (length classes) (is_owed classes m (λ s. is_open classes (selected_at m (Some k) s))) (get_or table k [])
rows_short classes m count table is k below =
    counts_short m (length classes) (is_owed classes m (λ s. is_open classes (selected_at m (Some k) s))) (get_or table k [])
    (ap length (ap (λ t. get_or t k []) is ∙ none_at count k))

-- where all counts are 0
pub none_counted : (classes : List DeclaredClass) (m : Methods) (q : ℕ → Bool) (row : List ℕ) (class : ℕ) → length row ≡ length classes
    → class < length classes → HasCounts m (length classes) q row → get_or row class 0 ≡ 0 → counted_of m q class ≡ 0
none_counted classes m q row class long below counts zeros = let h = counts long class below in omega (arith, h, zeros)

-- where none of its methods pass its count is 0
pub zero_counted : (classes : List DeclaredClass) (m : Methods) (q : ℕ → Bool) (row : List ℕ) (class : ℕ) → length row ≡ length classes
    → class < length classes → HasCounts m (length classes) q row → counted_of m q class ≡ 0 → slice_get row class ≡ Some 0
zero_counted classes m q row class long below counts none =
    slice_get-get_or row class 0 (omega (arith, long, below)) ∙ ap Some (sym (counts long class below) ∙ none)

-- each class of a chain is there
pub chain_inside : (classes : List DeclaredClass) (class : ℕ) → class < length classes → (x : ℕ) → is_among x (chain_of classes class) ≡ true
    → x < length classes
unfolding chain_of
chain_inside classes class within =
    walk_within classes (suc (length classes)) (Some class) (λ k same. subst (λ n. n < length classes) (same_Some class k same) within)

-- each superinterface is there
pub interfaces_inside : (classes : List DeclaredClass) → ((k : ℕ) → AreInterfaces classes (superinterfaces_of classes k)) → (class x : ℕ)
    → is_among x (interfaces_of classes class) ≡ true → x < length classes
unfolding interfaces_of
interfaces_inside classes only class x among = by_range (cases_lt x (length classes)) where
  one : IsInOne (superinterfaces_of classes) (chain_of classes class) x
  one =
      among_flat (superinterfaces_of classes) (chain_of classes class) x
      (sym (among_distinct x (flat_map (superinterfaces_of classes) (chain_of classes class))) ∙ among)

  by_range : (x < length classes) ⊎ (length classes ≤ x) → x < length classes
  by_range (inl inside) = inside
  by_range (inr past) =
      absurd (false≢true (sym (ap (λ (c : DeclaredClass). is_interface c.flags) (get_or_past classes x no_class past)) ∙ only one.0 x one.2))

-- a number past all classes has no methods
none_past : (texts : List (List ℕ)) (classes : List DeclaredClass) (m : Methods) (q : ℕ → Bool) (class : ℕ) → AreMethods texts classes m
    → length classes ≤ class → counted_of m q class ≡ 0
none_past texts classes m q class are past =
    let long = length-map-range_with_len (first_method classes) 0 (length classes + 1) in
    let same = ap length are.rows.first in
    let gone = section_none m.members.first.items class (slice_get_past m.members.first.items (class + 1) (omega (arith, long, same, past))) in
    ap (λ (s : ℕ × ℕ). counted q (s.1 - s.0) s.0) gone

-- all counts of two lists of classes are 0
pub none_of_both : (texts : List (List ℕ)) (classes : List DeclaredClass) (m : Methods) (q : ℕ → Bool) (row xs ys : List ℕ) → AreMethods texts classes m
    → length row ≡ length classes → HasCounts m (length classes) q row
    → ((k : ℕ) → is_among k xs ≡ true → get_or row k 0 ≡ 0) → ((k : ℕ) → is_among k ys ≡ true → get_or row k 0 ≡ 0)
    → (above : ℕ) → is_among above (xs ++ ys) ≡ true → counted_of m q above ≡ 0
none_of_both texts classes m q row xs ys are long counts first second above among =
    by_place (cases_lt above (length classes)) (zero_at (among_either above xs ys among)) where
      zero_at : (is_among above xs ≡ true) ⊎ (is_among above ys ≡ true) → get_or row above 0 ≡ 0
      zero_at (inl h) = first above h
      zero_at (inr h) = second above h

      by_place : (above < length classes) ⊎ (length classes ≤ above) → get_or row above 0 ≡ 0 → counted_of m q above ≡ 0
      by_place (inl below) zeros = none_counted classes m q row above long below counts zeros
      by_place (inr past) zeros = none_past texts classes m q above are past

-- ---- what calls hand on

pub if_ok_then : {X E : Type 0} (P Q : X → Type 0) → ((x : X) → P x → Q x) → (r : Result X E) → IfOk r P → IfOk r Q
if_ok_then P Q f (Ok x) p = f x p
if_ok_then P Q f (Err e) p = tt
