-- From which place on members are looked for: no class before it declares one.
use Rattle.std.proofs.Common.{◌≡◌, refl, sym, ◌∙◌, ap, subst, ℕ, zero, suc, ◌+◌, ◌<◌, ◌≤◌, ◌&&◌, Bool, true, false, cond, List, [], ◌∷◌, length, drop, get_or, set, nat_eq, Option, None, Some, unwrap_or, arith, ◌⊎◌, inl, inr, get_or-set_other}
use Rattle.std.proofs.lemmas.Bool.{cases_eq, eqb-true}
use Rattle.std.specs.BTreeMap.{is_at}
use Rattle.std.specs.Map.{lookup}
use Rattle.std.specs.Ordering.{nat_cmp, ordering_then}
use Rattle.fm_base.proofs.TestFacts.{and_left, and_right}
use Rattle.fm_world.specs.Chains.{first_found, interfaces_of, superinterfaces_of}
use Rattle.fm_world.specs.Lookups.{any_flags, is_interface_at}
use Rattle.fm_world.specs.declared.declarations.DeclaredClass.{DeclaredClass}
use Rattle.fm_link_supers.proofs.ParentTables.{list_in-row}
use Rattle.fm_link_members.proofs.FoundLemmas.{row_of_own}
use Rattle.fm_world.proofs.OverridingLemmas.{first_found-same}
use Rattle.fm_link_members.proofs.NearestLemmas.{first_found-cons}
use Rattle.fm_link_supers.specs.declared.hierarchy.Hierarchy.{Hierarchy}
use Rattle.fm_link_members.specs.declared.members.MemberRow.{MemberRow}
use Rattle.fm_link_members.specs.declared.members.Nearest.{Nearest}
use Rattle.fm_link_members.specs.declared.search_starts.Along.TheVariants as along
use Rattle.fm_link_members.specs.declared.search_starts.SearchStarts.{SearchStarts}
use Rattle.fm_link_members.specs.inner.FoundMembers.{first_along}
use Rattle.fm_link_supers.specs.inner.Hierarchy.{distinct_path, IsHierarchy}
use Rattle.fm_link_supers.specs.inner.ListTables.{list_in}
use Rattle.fm_link_members.specs.inner.MemberTables.{number_of_key, own_by, own_in, searched_interfaces, start_in, AreStarts, AreStartsOf, IsStart}
use Rattle.fm_link_members.specs.inner.NearestSteps.{or_else}
use Rattle.fm_link_members.specs.inner.SearchStarts.{list_along, place_in, ArePlaces}

-- ---- what is found from a place on

pub dropped : (f : ℕ → Option ℕ) (xs : List ℕ) (start : ℕ) → ((i : ℕ) → i < start → i < length xs → f (get_or xs i 0) ≡ None)
    → first_found f (drop start xs) ≡ first_found f xs
dropped f xs zero none = refl
dropped f [] (suc start) none = refl
dropped f (x ∷ xs) (suc start) none =
    dropped f xs start (λ i low within. none (suc i) (omega (arith, low)) (omega (arith, within)))
    ∙ sym (first_found-cons f x xs ∙ ap (λ o. or_else o (first_found f xs)) (none 0 (omega arith) (omega arith)))

none_before : (rows : List MemberRow) (signatures list : List ℕ) (signature start : ℕ) → IsStart list rows signatures signature start → (i : ℕ)
    → i < start → i < length list → (o : Option ℕ) → own_by rows signatures any_flags signature (get_or list i 0) ≡ o → o ≡ None
none_before rows signatures list signature start is i low within None e = refl
none_before rows signatures list signature start is i low within (Some k) e =
    let row = row_of_own rows signatures any_flags signature (get_or list i 0) k e in
    absurd (is i k low within row.within row.signed row.class_is)

pub first_along-is : (n : Nearest) (rows : List MemberRow) (s : SearchStarts) (signatures : List ℕ) (class : ℕ) (list : List ℕ) (signature : ℕ)
    → ((x : ℕ) → own_in n rows signature x ≡ own_by rows signatures any_flags signature x)
    → IsStart list rows signatures signature (start_in s class signature)
    → first_along n rows s class list signature ≡ first_found (own_by rows signatures any_flags signature) list
first_along-is n rows s signatures class list signature same is =
    first_found-same (own_in n rows signature) find (drop (start_in s class signature) list) same
    ∙ dropped find list (start_in s class signature)
    (λ i low within. none_before rows signatures list signature (start_in s class signature) is i low within (find (get_or list i 0)) refl) where
      find : ℕ → Option ℕ
      find = own_by rows signatures any_flags signature

-- ---- places are noted

-- none is noted yet
pub none_noted : (list_of : ℕ → List ℕ) (rows : List MemberRow) (signatures : List ℕ) (s : SearchStarts) → s.places.entries ≡ []
    → AreStarts list_of rows signatures s
none_noted list_of rows signatures s empty class signature i k before within =
    absurd (omega (arith, before, zero_place)) where
      zero_place : start_in s class signature ≡ 0
      zero_place = ap (λ es. unwrap_or (lookup (is_at (λ (k : ℕ × ℕ). ordering_then (nat_cmp class k.0) (nat_cmp signature k.1))) es) 0) empty

pub place_fits : (rows : List MemberRow) (signatures list places : List ℕ) (signature first : ℕ) → ArePlaces list places
    → ((k : ℕ) → k < length rows → get_or signatures k 0 ≡ signature → first ≤ place_in rows places k)
    → IsStart list rows signatures signature first
place_fits rows signatures list places signature first are low i k before within k_within signed class_is =
    omega (arith, before, low k k_within signed, are i within, ap (λ c. get_or places c 0) class_is)

pub start_added : (list_of : ℕ → List ℕ) (rows : List MemberRow) (signatures : List ℕ) (old new : SearchStarts) (class signature fresh x : ℕ)
    → ((n d : ℕ) → number_of_key new.places n d ≡ cond (nat_eq class n && nat_eq signature d) (Some x) (number_of_key old.places n d))
    → x ≡ unwrap_or (number_of_key old.places class signature) fresh → IsStart (list_of class) rows signatures signature fresh
    → AreStarts list_of rows signatures old → AreStarts list_of rows signatures new
start_added list_of rows signatures old new class signature fresh x updates is fits are n d =
    by_key (nat_eq class n && nat_eq signature d) refl where
      P : ℕ → Type 0
      P start = IsStart (list_of class) rows signatures signature start

      by_old : (o : Option ℕ) → number_of_key old.places class signature ≡ o → P (unwrap_or o fresh)
      by_old None e = fits
      by_old (Some y) e = subst P (ap (λ o. unwrap_or o 0) e) (are class signature)

      here : P x
      here = subst P (sym is) (by_old (number_of_key old.places class signature) refl)

      noted : (b : Bool) → (nat_eq class n && nat_eq signature d) ≡ b
          → start_in new n d ≡ unwrap_or (cond b (Some x) (number_of_key old.places n d)) 0
      noted b e = ap (λ o. unwrap_or o 0) (updates n d ∙ ap (λ t. cond t (Some x) (number_of_key old.places n d)) e)

      by_key : (b : Bool) → (nat_eq class n && nat_eq signature d) ≡ b → IsStart (list_of n) rows signatures d (start_in new n d)
      by_key false e = subst (IsStart (list_of n) rows signatures d) (sym (noted false e)) (are n d)
      by_key true e =
          subst (λ p. IsStart (list_of p) rows signatures d (start_in new n d)) (eqb-true class n (and_left (nat_eq class n) (nat_eq signature d) e))
          (subst (λ q. IsStart (list_of class) rows signatures q (start_in new n d))
          (eqb-true signature d (and_right (nat_eq class n) (nat_eq signature d) e))
          (subst P (sym (noted true e)) here))

-- ---- the places of a list

set_low : (xs : List ℕ) (place x : ℕ) → get_or (set xs place x) place 0 ≤ x
set_low [] place x = omega arith
set_low (y ∷ ys) zero x = omega arith
set_low (y ∷ ys) (suc place) x = set_low ys place x

pub placed_one : (list places new : List ℕ) (left : ℕ) → new ≡ set places (get_or list left 0) left
    → ((i : ℕ) → left + 1 ≤ i → i < length list → get_or places (get_or list i 0) 0 ≤ i)
    → (i : ℕ) → left ≤ i → i < length list → get_or new (get_or list i 0) 0 ≤ i
placed_one list places new left is so_far i from within = by_class (cases_eq (get_or list i 0) (get_or list left 0)) where
  by_class : (get_or list i 0 ≡ get_or list left 0) ⊎ (get_or list i 0 ≡ get_or list left 0 → ⊥) → get_or new (get_or list i 0) 0 ≤ i
  by_class (inl same) =
      omega (
        arith,
        from,
        set_low places (get_or list left 0) left,
        ap (λ c. get_or new c 0) same ∙ ap (λ xs. get_or xs (get_or list left 0) 0) is,
      )
  by_class (inr other) =
      omega (
        arith,
        so_far i (by_place (cases_eq left i)) within,
        ap (λ xs. get_or xs (get_or list i 0) 0) is ∙ get_or-set_other places (get_or list left 0) (get_or list i 0) left 0 other,
      ) where
        by_place : (left ≡ i) ⊎ (left ≡ i → ⊥) → left + 1 ≤ i
        by_place (inl same) = absurd (other (ap (λ j. get_or list j 0) (sym same)))
        by_place (inr differs) = omega (arith, from, differs)

-- ---- the lists are those of the classes

pub starts_along_paths : (classes : List DeclaredClass) (h : Hierarchy) → IsHierarchy classes h → (rows : List MemberRow) (signatures : List ℕ)
    (s : SearchStarts) → AreStarts (list_along h along.Paths) rows signatures s → AreStartsOf classes (distinct_path classes) rows signatures s
starts_along_paths classes h is rows signatures s are class signature within =
    subst (λ list. IsStart list rows signatures signature (start_in s class signature))
    (list_in-row (distinct_path classes) (length classes) class h.paths.items is.paths within) (are class signature)

pub starts_along_interfaces : (classes : List DeclaredClass) (h : Hierarchy) → IsHierarchy classes h → (rows : List MemberRow) (signatures : List ℕ)
    (s : SearchStarts) → AreStarts (list_along h along.Interfaces) rows signatures s
    → AreStartsOf classes (searched_interfaces classes) rows signatures s
starts_along_interfaces classes h is rows signatures s are class signature within =
    subst (λ list. IsStart list rows signatures signature (start_in s class signature))
    (ap (λ cs. cond (is_interface_at cs class) (list_in h.above.items class) (list_in h.interfaces.items class)) is.classes_are
    ∙ ap (λ list. cond (is_interface_at classes class) list (list_in h.interfaces.items class))
    (list_in-row (superinterfaces_of classes) (length classes) class h.above.items is.above within)
    ∙ ap (λ list. cond (is_interface_at classes class) (superinterfaces_of classes class) list)
    (list_in-row (interfaces_of classes) (length classes) class h.interfaces.items is.interfaces within)) (are class signature)
