-- What overrides a method is overridden for it too: what is selected for a method is selected for itself (JVMS 5.4.5).
use Rattle.std.proofs.Common.{◌≡◌, refl, sym, ◌∙◌, ap, ℕ, zero, suc, ◌<◌, ◌≤◌, ◌⊎◌, inl, inr, ◌&&◌, ◌||◌, not, cond, Bool, true, false, List, [], ◌∷◌, length, nat_eq, Option, Some, None, arith, ⊎_elim}
use Rattle.std.specs.List.{list_any}
use Rattle.std.specs.Option.{option_or}
use Rattle.std.proofs.lemmas.Bool.{and_parts, cases_lt, eqb-true, false≢true, or_cases, or_left, or_right}
use Rattle.std.proofs.lemmas.Option.{none-some}
use Rattle.std.proofs.lemmas.Slice.Eq.{bytes_eq-Decides}
use Rattle.fm_link_supers.proofs.Downwards.{among_head, among_later}
use Rattle.fm_law_linked.proofs.FieldOwners.{found_among}
use Rattle.fm_types.proofs.ClassTree.{among_one, among_own, among-trans, chain_past_end, object-within}
use Rattle.fm_types.specs.Fits.{AreTree}
use Rattle.fm_world.proofs.Displays.{parent_of-within}
use Rattle.fm_world.proofs.OwnedMethods.{IsFound, own_method_found, own_within}
use Rattle.fm_world.proofs.OverridingLemmas.{below_overrides, first_found-first, free_overrides, overriding_own}
use Rattle.fm_world.specs.Chains.{chain_of, class_at, first_found, is_among, parent_of}
use Rattle.fm_world.specs.Lookups.{can_override, is_unrestricted, is_restricted, is_selectable, opens, overriding, own_selectable, package_of, same_package}
use Rattle.fm_world.specs.Members.{method_at, own_method, OwnedMethod}
use Rattle.fm_world.specs.declared.declarations.DeclaredClass.{DeclaredClass}
use Rattle.fm_world.specs.inner.Tables.{chain_from}

-- ---- tests of lists

any_found : (p : ℕ → Bool) (xs : List ℕ) → list_any p xs ≡ true → (x : ℕ) × ((is_among x xs ≡ true) × (p x ≡ true))
any_found p [] any = absurd (false≢true any)
any_found p (x ∷ xs) any = by_first (any_found p xs) (or_cases (p x) (list_any p xs) any) where
  by_first : (list_any p xs ≡ true → (y : ℕ) × ((is_among y xs ≡ true) × (p y ≡ true))) → (p x ≡ true) ⊎ (list_any p xs ≡ true)
      → (y : ℕ) × ((is_among y (x ∷ xs) ≡ true) × (p y ≡ true))
  by_first later (inl here) = (x, (among_head x xs, here))
  by_first later (inr rest) = let found = later rest in (found.0, (among_later found.0 x xs found.1.0, found.1.1))

any_there : (p : ℕ → Bool) (xs : List ℕ) (x : ℕ) → is_among x xs ≡ true → p x ≡ true → list_any p xs ≡ true
any_there p [] x among passes = absurd (false≢true among)
any_there p (y ∷ ys) x among passes = by_first (any_there p ys x) (or_cases (nat_eq x y) (is_among x ys) among) where
  by_first : (is_among x ys ≡ true → p x ≡ true → list_any p ys ≡ true) → (nat_eq x y ≡ true) ⊎ (is_among x ys ≡ true) → list_any p (y ∷ ys) ≡ true
  by_first later (inl same) = or_left (p y) (list_any p ys) (ap p (sym (eqb-true x y same)) ∙ passes)
  by_first later (inr rest) = or_right (p y) (list_any p ys) (later rest passes)

-- ---- packages

package_alike : (classes : List DeclaredClass) (c d : ℕ) → same_package classes c d ≡ true
    → package_of (class_at classes c).name ≡ package_of (class_at classes d).name
package_alike classes c d same = (bytes_eq-Decides (package_of (class_at classes c).name) (package_of (class_at classes d).name)).0 same

pub package_same : (classes : List DeclaredClass) (c d : ℕ) → (class_at classes c).name ≡ (class_at classes d).name → same_package classes c d ≡ true
package_same classes c d same = (bytes_eq-Decides (package_of (class_at classes c).name) (package_of (class_at classes d).name)).1 (ap package_of same)

package-trans : (classes : List DeclaredClass) (c d e : ℕ) → same_package classes c d ≡ true → same_package classes d e ≡ true → same_package classes c e ≡ true
package-trans classes c d e first second =
    (bytes_eq-Decides (package_of (class_at classes c).name) (package_of (class_at classes e).name)).1 (package_alike classes c d first ∙ package_alike classes d e second)

-- ---- what overrides

-- the parts of the test of a restricted method
below_parts : (r b x : Bool) → r ≡ true → (not r || (b && x)) ≡ true → (b ≡ true) × (x ≡ true)
below_parts true b x restricted is = and_parts b x is
below_parts false b x restricted is = absurd (false≢true restricted)

module _ (classes : List DeclaredClass) (tree : AreTree classes) where
  some : 0 < length classes
  some = omega (arith, object-within classes tree)

  -- a class is as it is for what is above it
  any_up : (p : ℕ → Bool) (c d : ℕ) → is_among d (chain_of classes c) ≡ true → list_any p (chain_of classes d) ≡ true → list_any p (chain_of classes c) ≡ true
  any_up p c d up any =
      let found = any_found p (chain_of classes d) any in
      any_there p (chain_of classes c) found.0 (among-trans classes tree c d found.0 up found.1.0) found.1.1

  -- a method is overridden by what its own class declares of its name and descriptor
  pub own_overrides : (m : OwnedMethod) (class : ℕ) → m.class ≡ class → can_override classes m class ≡ true
  own_overrides m class is = by_restricted (is_restricted classes m) refl where
    by_restricted : (b : Bool) → is_restricted classes m ≡ b → can_override classes m class ≡ true
    by_restricted false e = free_overrides _ e
    by_restricted true e =
        below_overrides (list_any (opens classes m) (chain_of classes class)) e
        (ap (λ k. is_among k (chain_of classes class)) is ∙ among_own classes class some)
        (package_same classes class m.class (ap (λ k. (class_at classes k).name) (sym is)))

  -- a class of the package of one above it overrides what that one overrides
  pub down_overrides : (m : OwnedMethod) (c d : ℕ) → is_among d (chain_of classes c) ≡ true → same_package classes c d ≡ true
      → can_override classes m d ≡ true → can_override classes m c ≡ true
  down_overrides m c d up near can = by_restricted (is_restricted classes m) refl where
    opened : ℕ → Bool
    opened x = list_any (opens classes m) (chain_of classes x)

    by_restricted : (b : Bool) → is_restricted classes m ≡ b → can_override classes m c ≡ true
    by_restricted false e = free_overrides _ e
    by_restricted true e =
        let parts = below_parts (is_restricted classes m) (is_among m.class (chain_of classes d)) (same_package classes d m.class || opened d) e can in
        let below = among-trans classes tree c d m.class up parts.0 in
        let either : (same_package classes c m.class || opened c) ≡ true =
        ⊎_elim (λ same. or_left (same_package classes c m.class) (opened c) (package-trans classes c d m.class near same))
        (λ any. or_right (same_package classes c m.class) (opened c) (any_up (opens classes m) c d up any))
        (or_cases (same_package classes d m.class) (opened d) parts.1) in
        joined e below either where
          joined : {x : Bool} → is_restricted classes m ≡ true → is_among m.class (chain_of classes c) ≡ true → x ≡ true
              → (not (is_restricted classes m) || (is_among m.class (chain_of classes c) && x)) ≡ true
          joined {x} r b i =
              ap (λ s. not s || (is_among m.class (chain_of classes c) && x)) r ∙ ap (λ s. s && x) b ∙ i

  -- what overrides a method that overrides another one overrides that one
  overrides-trans : (m : OwnedMethod) (c d k : ℕ) → is_among d (chain_of classes c) ≡ true → own_selectable classes m d ≡ Some k
      → can_override classes m d ≡ true → can_override classes (method_at classes k) c ≡ true → can_override classes m c ≡ true
  overrides-trans m c d k up own can its = by_restricted (is_restricted classes m) refl where
    n : OwnedMethod
    n = method_at classes k

    found : IsFound classes is_selectable m.method.name m.method.descriptor d k
    found = own_method_found classes is_selectable m.method.name m.method.descriptor d k own

    opened : OwnedMethod → ℕ → Bool
    opened o x = list_any (opens classes o) (chain_of classes x)

    -- a class that opens the nearer method opens the farther one
    opens_both : (x : ℕ) → is_among m.class (chain_of classes d) ≡ true → same_package classes d m.class ≡ true → opens classes n x ≡ true → opens classes m x ≡ true
    opens_both x below near is =
        let outer = and_parts (is_among n.class (chain_of classes x)) (same_package classes x n.class && is_unrestricted classes (own_selectable classes n x)) is in
        let inner = and_parts (same_package classes x n.class) (is_unrestricted classes (own_selectable classes n x)) outer.1 in
        let above : is_among d (chain_of classes x) ≡ true = ap (λ y. is_among y (chain_of classes x)) (sym found.owner) ∙ outer.0 in
        let alike : same_package classes x d ≡ true = ap (same_package classes x) (sym found.owner) ∙ inner.0 in
        let same : own_selectable classes m x ≡ own_selectable classes n x =
        ap (λ a. own_method classes is_selectable a m.method.descriptor x) (sym found.name_is)
        ∙ ap (λ a. own_method classes is_selectable n.method.name a x) (sym found.descriptor_is) in
        ap (λ b. b && (same_package classes x m.class && is_unrestricted classes (own_selectable classes m x))) (among-trans classes tree x d m.class above below)
        ∙ ap (λ b. b && is_unrestricted classes (own_selectable classes m x)) (package-trans classes x d m.class alike near)
        ∙ ap (is_unrestricted classes) same ∙ inner.1

    joined : {x : Bool} → is_restricted classes m ≡ true → is_among m.class (chain_of classes c) ≡ true → x ≡ true
        → (not (is_restricted classes m) || (is_among m.class (chain_of classes c) && x)) ≡ true
    joined {x} r b i = ap (λ s. not s || (is_among m.class (chain_of classes c) && x)) r ∙ ap (λ s. s && x) b ∙ i

    by_nearer : is_among m.class (chain_of classes d) ≡ true → same_package classes d m.class ≡ true → (b : Bool) → is_restricted classes n ≡ b
        → (same_package classes c m.class || opened m c) ≡ true
    by_nearer below near false e =
        let opens_here : opens classes m d ≡ true =
        ap (λ b. b && (same_package classes d m.class && is_unrestricted classes (own_selectable classes m d))) below
        ∙ ap (λ b. b && is_unrestricted classes (own_selectable classes m d)) near ∙ ap (is_unrestricted classes) own ∙ ap not e in
        or_right (same_package classes c m.class) (opened m c) (any_there (opens classes m) (chain_of classes c) d up opens_here)
    by_nearer below near true e =
        let parts = below_parts (is_restricted classes n) (is_among n.class (chain_of classes c)) (same_package classes c n.class || opened n c) e its in
        ⊎_elim
        (λ same. or_left (same_package classes c m.class) (opened m c)
        (package-trans classes c d m.class (ap (same_package classes c) (sym found.owner) ∙ same) near))
        (λ any. let at = any_found (opens classes n) (chain_of classes c) any in
        or_right (same_package classes c m.class) (opened m c)
        (any_there (opens classes m) (chain_of classes c) at.0 at.1.0 (opens_both at.0 below near at.1.1)))
        (or_cases (same_package classes c n.class) (opened n c) parts.1)

    by_restricted : (b : Bool) → is_restricted classes m ≡ b → can_override classes m c ≡ true
    by_restricted false e = free_overrides _ e
    by_restricted true e =
        let parts = below_parts (is_restricted classes m) (is_among m.class (chain_of classes d)) (same_package classes d m.class || opened m d) e can in
        joined e (among-trans classes tree c d m.class up parts.0)
        (⊎_elim (λ near. by_nearer parts.0 near (is_restricted classes n) refl)
        (λ any. or_right (same_package classes c m.class) (opened m c) (any_up (opens classes m) c d up any))
        (or_cases (same_package classes d m.class) (opened m d) parts.1))

  -- ---- what is selected for a method is selected for itself

  module _ (m : OwnedMethod) (d k : ℕ) (own : own_selectable classes m d ≡ Some k) (can : can_override classes m d ≡ true) where
    abbrev n : OwnedMethod
    n = method_at classes k

    named : (x : ℕ) → own_selectable classes n x ≡ own_selectable classes m x
    named x =
        let found = own_method_found classes is_selectable m.method.name m.method.descriptor d k own in
        ap (λ a. own_method classes is_selectable a n.method.descriptor x) found.name_is
        ∙ ap (λ a. own_method classes is_selectable m.method.name a x) found.descriptor_is

    -- at a class where it is found itself
    at_own : (c : ℕ) → own_selectable classes m c ≡ Some k → overriding classes n c ≡ Some k
    at_own c here =
        let owner = (own_method_found classes is_selectable m.method.name m.method.descriptor c k here).owner in
        ap (λ b. cond b (own_selectable classes n c) None) (own_overrides n c owner) ∙ named c ∙ here

    -- at a class below, where nothing is found
    at_none : (c : ℕ) → is_among d (chain_of classes c) ≡ true → overriding classes m c ≡ None → overriding classes n c ≡ None
    at_none c up none = by_test (can_override classes n c) refl where
      by_test : (b : Bool) → can_override classes n c ≡ b → overriding classes n c ≡ None
      by_test false e = ap (λ b. cond b (own_selectable classes n c) None) e
      by_test true e =
          ap (λ b. cond b (own_selectable classes n c) None) e ∙ named c
          ∙ sym (ap (λ b. cond b (own_selectable classes m c) None) (overrides-trans m c d k up own can e)) ∙ none

    along : (bound c : ℕ) → length (chain_of classes c) ≤ bound → c < length classes → is_among d (chain_of classes c) ≡ true
        → first_found (overriding classes m) (chain_of classes c) ≡ Some k → first_found (overriding classes n) (chain_of classes c) ≡ Some k
    along zero c short within up is = absurd (omega (arith, short, ap length (tree.linear c within)))
    along (suc bound) c short within up is =
        ap (first_found (overriding classes n)) (tree.linear c within) ∙ first_found-first (overriding classes n) c rest
        ∙ by_here (overriding classes m c) refl
        (sym (first_found-first (overriding classes m) c rest) ∙ sym (ap (first_found (overriding classes m)) (tree.linear c within)) ∙ is)
        (λ p e. along bound p (shorter p e) (parent_of-within classes c p e)) where
          rest : List ℕ
          rest = chain_from classes (parent_of classes c)

          shorter : (p : ℕ) → parent_of classes c ≡ Some p → length (chain_of classes p) ≤ bound
          shorter p e = omega (arith, short, ap length (tree.linear c within ∙ ap (λ o. c ∷ chain_from classes o) e))

          Above : ℕ → Type 0
          Above p = is_among d (chain_of classes p) ≡ true → first_found (overriding classes m) (chain_of classes p) ≡ Some k
              → first_found (overriding classes n) (chain_of classes p) ≡ Some k

          -- what is found above is found there for the method itself: it is above the class where it was found first
          by_parent : (o : Option ℕ) → parent_of classes c ≡ o → ((p : ℕ) → parent_of classes c ≡ Some p → Above p)
              → first_found (overriding classes m) (chain_from classes o) ≡ Some k → first_found (overriding classes n) (chain_from classes o) ≡ Some k
          by_parent None e above found = absurd (none-some k found)
          by_parent (Some p) e above found =
              let at = found_among (overriding classes m) (chain_of classes p) k found in
              let its = (own_method_found classes is_selectable m.method.name m.method.descriptor at.0 k (overriding_own classes m at.0 k at.1.1).1).owner in
              let here = (own_method_found classes is_selectable m.method.name m.method.descriptor d k own).owner in
              above p e (ap (λ x. is_among x (chain_of classes p)) (sym here ∙ its) ∙ at.1.0) found

          by_here : (o : Option ℕ) → overriding classes m c ≡ o → option_or (overriding classes m c) (first_found (overriding classes m) rest) ≡ Some k
              → ((p : ℕ) → parent_of classes c ≡ Some p → Above p)
              → option_or (overriding classes n c) (first_found (overriding classes n) rest) ≡ Some k
          by_here None e found above =
              ap (λ o. option_or o (first_found (overriding classes n) rest)) (at_none c up e)
              ∙ by_parent (parent_of classes c) refl above (sym (ap (λ o. option_or o (first_found (overriding classes m) rest)) e) ∙ found)
          by_here (Some j) e found above =
              let here = e ∙ (sym (ap (λ o. option_or o (first_found (overriding classes m) rest)) e) ∙ found) in
              ap (λ o. option_or o (first_found (overriding classes n) rest)) (at_own c (overriding_own classes m c k here).1)

  -- of a class that is there, or of none
  pub selected_again : (m : OwnedMethod) (class k : ℕ) → first_found (overriding classes m) (chain_of classes class) ≡ Some k
      → first_found (overriding classes (method_at classes k)) (chain_of classes class) ≡ Some k
  selected_again m class k is =
      let at = found_among (overriding classes m) (chain_of classes class) k is in
      let parts = overriding_own classes m at.0 k at.1.1 in
      let inside = own_within classes is_selectable m.method.name m.method.descriptor at.0 k parts.1 in
      let within : class < length classes = by_place at.0 at.1.0 inside (cases_lt class (length classes)) in
      along m at.0 k parts.1 parts.0 (length (chain_of classes class)) class (omega arith) within at.1.0 is where
        by_place : (x : ℕ) → is_among x (chain_of classes class) ≡ true → x < length classes → (class < length classes) ⊎ (length classes ≤ class) → class < length classes
        by_place x among inside (inl within) = within
        by_place x among inside (inr past) =
            let same = among_one x class (sym (ap (is_among x) (chain_past_end classes class past)) ∙ among) in omega (arith, same, inside)
