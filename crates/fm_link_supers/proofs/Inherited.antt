-- Superinterfaces with those of the superclass after them, from the uppermost class down.
use Rattle.std.proofs.Common.{◌≡◌, refl, sym, ◌∙◌, ap, subst, ℕ, ◌<◌, ◌⊎◌, inl, inr, ◌||◌, Bool, true, false, List, [], ◌∷◌, ◌++◌, length, map, nat_eq, get_or, replicate, set, take, reverse, slice_get, Option, Some, None, arith, append_assoc, length-set, get_or-set_same, get_or-set_other}
use Rattle.std.specs.List.{flat_map}
use Rattle.std.proofs.lemmas.Bool.{cases_eq, eqb-true, false≢true, or_right}
use Rattle.std.proofs.lemmas.List.{append-nil, length-replicate, reverse-reverse}
use Rattle.std.proofs.lemmas.List.Folds.{list_any-append}
use Rattle.std.proofs.lemmas.List.FromFn.{fill_by_all}
use Rattle.fm_base.proofs.ListFacts.{map_same}
use Rattle.fm_link_supers.proofs.Distinct.{among_distinct, distinct_added, distinct_kept}
use Rattle.fm_link_supers.proofs.Downwards.{among_head, among_right}
use Rattle.fm_link_supers.specs.inner.Hierarchy.{IsDownwards}
use Rattle.fm_link_supers.proofs.ParentTables.{row_within}
use Rattle.fm_link_supers.specs.inner.InterfaceRounds.{inherited_along, of_parent, with_classes, with_inherited}
use Rattle.fm_link_supers.specs.inner.ParentTable.{parent_at}
use Rattle.fm_world.proofs.Displays.{reverse-cons}
use Rattle.fm_world.proofs.TableLemmas.{length-row}
use Rattle.fm_world.specs.Chains.{chain_of, distinct, interfaces_of, is_among, parent_of, superinterfaces_of}
use Rattle.fm_world.specs.declared.declarations.DeclaredClass.{DeclaredClass}
use Rattle.fm_world.specs.inner.Tables.{chain_from, IsLinear, numbers_below}

-- ---- numbers once each, joined

same_among : (y : ℕ) (xs zs ws : List ℕ) → is_among y zs ≡ is_among y ws → is_among y (xs ++ zs) ≡ is_among y (xs ++ ws)
same_among y xs zs ws e = list_any-append (nat_eq y) xs zs ∙ ap (λ b. is_among y xs || b) e ∙ sym (list_any-append (nat_eq y) xs ws)

-- both lists get the number, or neither
both_kept : (zs ws : List ℕ) (y : ℕ) → distinct nat_eq zs ≡ distinct nat_eq ws → is_among y zs ≡ is_among y ws → (b : Bool) → is_among y ws ≡ b
    → distinct nat_eq (zs ++ y ∷ []) ≡ distinct nat_eq (ws ++ y ∷ [])
both_kept zs ws y same among true e = distinct_kept zs y (among ∙ e) ∙ same ∙ sym (distinct_kept ws y e)
both_kept zs ws y same among false e =
    distinct_added zs y (among ∙ e) ∙ ap (λ ds. ds ++ y ∷ []) same ∙ sym (distinct_added ws y e)

joined_last : (xs ys : List ℕ) (y : ℕ) → distinct nat_eq (xs ++ distinct nat_eq ys) ≡ distinct nat_eq (xs ++ ys) → (b : Bool) → is_among y ys ≡ b
    → distinct nat_eq (xs ++ distinct nat_eq (ys ++ y ∷ [])) ≡ distinct nat_eq (xs ++ (ys ++ y ∷ []))
joined_last xs ys y same true e =
    ap (λ ds. distinct nat_eq (xs ++ ds)) (distinct_kept ys y e) ∙ same
    ∙ sym (ap (distinct nat_eq) (sym (append_assoc xs ys (y ∷ [])))
    ∙ distinct_kept (xs ++ ys) y (list_any-append (nat_eq y) xs ys ∙ or_right (is_among y xs) (is_among y ys) e))
joined_last xs ys y same false e =
    ap (λ ds. distinct nat_eq (xs ++ ds)) (distinct_added ys y e)
    ∙ ap (distinct nat_eq) (sym (append_assoc xs (distinct nat_eq ys) (y ∷ [])))
    ∙ both_kept (xs ++ distinct nat_eq ys) (xs ++ ys) y same (same_among y xs (distinct nat_eq ys) ys (among_distinct y ys)) (is_among y (xs ++ ys)) refl
    ∙ ap (distinct nat_eq) (append_assoc xs ys (y ∷ []))

joined_reversed : (xs ys : List ℕ) → distinct nat_eq (xs ++ distinct nat_eq (reverse ys)) ≡ distinct nat_eq (xs ++ reverse ys)
joined_reversed xs [] = refl
joined_reversed xs (y ∷ ys) =
    ap (λ zs. distinct nat_eq (xs ++ distinct nat_eq zs)) (reverse-cons y ys)
    ∙ joined_last xs (reverse ys) y (joined_reversed xs ys) (is_among y (reverse ys)) refl
    ∙ sym (ap (λ zs. distinct nat_eq (xs ++ zs)) (reverse-cons y ys))

pub distinct_joined : (xs ys : List ℕ) → distinct nat_eq (xs ++ distinct nat_eq ys) ≡ distinct nat_eq (xs ++ ys)
distinct_joined xs ys =
    ap (λ zs. distinct nat_eq (xs ++ distinct nat_eq zs)) (sym (reverse-reverse ys)) ∙ joined_reversed xs (reverse ys)
    ∙ ap (λ zs. distinct nat_eq (xs ++ zs)) (reverse-reverse ys)

-- ---- one class

-- what a class and its superclasses have of their own, each once
abbrev pub joined_by : List DeclaredClass → (ℕ → List ℕ) → ℕ → List ℕ
joined_by classes own class = distinct nat_eq (flat_map own (chain_of classes class))

along_chain : (classes : List DeclaredClass) (own : ℕ → List ℕ) → IsLinear classes → (class : ℕ) → class < length classes → (inherited : List ℕ)
    → (o : Option ℕ) → parent_of classes class ≡ o → ((p : ℕ) → o ≡ Some p → inherited ≡ joined_by classes own p) → (o ≡ None → inherited ≡ [])
    → distinct nat_eq (own class ++ inherited) ≡ joined_by classes own class
along_chain classes own linear class within inherited None e some none =
    ap (λ xs. distinct nat_eq (own class ++ xs)) (none refl)
    ∙ sym (ap (λ chain. distinct nat_eq (flat_map own chain)) (linear class within ∙ ap (λ p. class ∷ chain_from classes p) e))
along_chain classes own linear class within inherited (Some p) e some none =
    ap (λ xs. distinct nat_eq (own class ++ xs)) (some p refl)
    ∙ distinct_joined (own class) (flat_map own (chain_of classes p))
    ∙ sym (ap (λ chain. distinct nat_eq (flat_map own chain)) (linear class within ∙ ap (λ q. class ∷ chain_from classes q) e))

-- ---- the table, class by class

-- the first classes of the order have what is theirs and what they inherit
pub record AreInherited (classes : List DeclaredClass) (own : ℕ → List ℕ) (done : List ℕ) (all : List (List ℕ)) : Type 0 where
  pub one_each : length all ≡ length classes
  pub found : (class : ℕ) → is_among class done ≡ true → get_or all class [] ≡ joined_by classes own class

inherited_is : (classes : List DeclaredClass) (own : ℕ → List ℕ) (all : List (List ℕ)) (at o : Option ℕ) → at ≡ o
    → ((p : ℕ) → o ≡ Some p → get_or all p [] ≡ joined_by classes own p)
    → ((p : ℕ) → o ≡ Some p → of_parent all at ≡ joined_by classes own p) × (o ≡ None → of_parent all at ≡ [])
inherited_is classes own all at o e found = ((λ p is. ap (of_parent all) (e ∙ is) ∙ found p is), (λ is. ap (of_parent all) (e ∙ is)))

-- one class more, whose superclass is among those before it
one_inherited : (classes : List DeclaredClass) (own : ℕ → List ℕ) (parents : List (Option ℕ)) (table all : List (List ℕ)) (done : List ℕ) (class : ℕ)
    → IsLinear classes → parent_at parents class ≡ parent_of classes class → get_or table class [] ≡ own class → class < length classes
    → ((p : ℕ) → parent_of classes class ≡ Some p → is_among p done ≡ true) → AreInherited classes own done all
    → AreInherited classes own (done ++ class ∷ []) (with_inherited parents table all class)
one_inherited classes own parents table all done class linear parent of_class within earlier are = record {
  one_each = length-set all class value ∙ are.one_each;
  found = λ k among. by_case k (sym (list_any-append (nat_eq k) done (class ∷ [])) ∙ among) (cases_eq k class);
} where
  value : List ℕ
  value = distinct nat_eq (get_or table class [] ++ of_parent all (parent_at parents class))

  here : get_or (set all class value) class [] ≡ joined_by classes own class
  here =
      let inherited =
      inherited_is classes own all (parent_at parents class) (parent_of classes class) parent (λ p is. are.found p (earlier p is)) in
      get_or-set_same all class value [] (let l = are.one_each in omega (arith, within, l))
      ∙ ap (λ xs. distinct nat_eq (xs ++ of_parent all (parent_at parents class))) of_class
      ∙ along_chain classes own linear class within (of_parent all (parent_at parents class)) (parent_of classes class) refl inherited.0 inherited.1

  among_done : (k : ℕ) (a b : Bool) → nat_eq k class ≡ b → (k ≡ class → ⊥) → (a || (b || false)) ≡ true → a ≡ true
  among_done k true b e other h = refl
  among_done k false true e other h = absurd (other (eqb-true k class e))
  among_done k false false e other h = absurd (false≢true h)

  by_case : (k : ℕ) → (is_among k done || (nat_eq k class || false)) ≡ true → (k ≡ class) ⊎ (k ≡ class → ⊥)
      → get_or (set all class value) k [] ≡ joined_by classes own k
  by_case k among (inl same) = ap (λ j. get_or (set all class value) j []) same ∙ here ∙ ap (joined_by classes own) (sym same)
  by_case k among (inr other) =
      get_or-set_other all class k value [] other ∙ are.found k (among_done k (is_among k done) (nat_eq k class) refl other among)

-- where a class is in an order, and what is before it
slice_get-seam : (done rest : List ℕ) (class : ℕ) → slice_get (done ++ class ∷ rest) (length done) ≡ Some class
slice_get-seam [] rest class = refl
slice_get-seam (x ∷ done) rest class = slice_get-seam done rest class

take-seam : (done rest : List ℕ) → take (length done) (done ++ rest) ≡ done
take-seam [] rest = refl
take-seam (x ∷ done) rest = ap (λ xs. x ∷ xs) (take-seam done rest)

all_inherited : (classes : List DeclaredClass) (own : ℕ → List ℕ) (parents : List (Option ℕ)) (table : List (List ℕ)) (order : List ℕ)
    → IsLinear classes → ((k : ℕ) → parent_at parents k ≡ parent_of classes k) → ((k : ℕ) → k < length classes → get_or table k [] ≡ own k)
    → IsDownwards classes order → (done rest : List ℕ) → done ++ rest ≡ order → (all : List (List ℕ)) → AreInherited classes own done all
    → AreInherited classes own order (inherited_along parents table rest all)
all_inherited classes own parents table order linear parent of_class downwards done [] whole all are =
    subst (λ xs. AreInherited classes own xs all) (sym (append-nil done) ∙ whole) are
all_inherited classes own parents table order linear parent of_class downwards done (class ∷ rest) whole all are =
    let there : is_among class order ≡ true =
    ap (is_among class) (sym whole) ∙ among_right class done (class ∷ rest) (among_head class rest) in
    let within = downwards.only class there in
    all_inherited classes own parents table order linear parent of_class downwards (done ++ class ∷ []) rest
    (append_assoc done (class ∷ []) rest ∙ whole) (with_inherited parents table all class)
    (one_inherited classes own parents table all done class linear (parent class) (of_class class within) within
    (λ p is.
    ap (is_among p) (sym (ap (take (length done)) (sym whole) ∙ take-seam done (class ∷ rest)))
    ∙ downwards.after (length done) class p (ap (λ xs. slice_get xs (length done)) (sym whole) ∙ slice_get-seam done rest class) is) are)

pub inherited_are : (classes : List DeclaredClass) (own : ℕ → List ℕ) (parents : List (Option ℕ)) (table all : List (List ℕ)) (order : List ℕ) (n : ℕ)
    → IsLinear classes → ((k : ℕ) → parent_at parents k ≡ parent_of classes k) → ((k : ℕ) → k < length classes → get_or table k [] ≡ own k)
    → IsDownwards classes order → n ≡ length classes → all ≡ inherited_along parents table order (replicate n [])
    → all ≡ map (joined_by classes own) (numbers_below (length classes))
inherited_are classes own parents table all order n linear parent of_class downwards count made =
    let start : AreInherited classes own [] (replicate n []) =
    record { one_each = length-replicate n [] ∙ count; found = λ class among. absurd (false≢true among) } in
    let are = all_inherited classes own parents table order linear parent of_class downwards [] order refl (replicate n []) start in
    made
    ∙ fill_by_all (joined_by classes own) (inherited_along parents table order (replicate n [])) (length classes) [] are.one_each
    (λ k within. are.found k (downwards.all k within))

-- ---- the two tables

pub interfaces_are : (classes : List DeclaredClass) (rows : List (List ℕ))
    → rows ≡ map (joined_by classes (superinterfaces_of classes)) (numbers_below (length classes))
    → rows ≡ map (interfaces_of classes) (numbers_below (length classes))
unfolding interfaces_of
interfaces_are classes rows e =
    e ∙ map_same (joined_by classes (superinterfaces_of classes)) (interfaces_of classes) (λ class. refl) (numbers_below (length classes))

-- a class and then its superinterfaces, by a table of these
pub with_classes-is : (classes : List DeclaredClass) (above : List (List ℕ)) → above ≡ map (superinterfaces_of classes) (numbers_below (length classes))
    → (k : ℕ) → k < length classes → get_or (with_classes above) k [] ≡ k ∷ superinterfaces_of classes k
with_classes-is classes above e k within =
    row_within (λ class. class ∷ get_or above class []) (length above) [] (with_classes above) refl k
    (let l = length-row (superinterfaces_of classes) (length classes) above e in omega (arith, within, l))
    ∙ ap (λ xs. k ∷ xs) (row_within (superinterfaces_of classes) (length classes) [] above e k within)
