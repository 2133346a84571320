-- Which methods override one, and the nearest of them: by the names of packages, and by the nearest method of a name and a descriptor.
use Rattle.std.proofs.Common.{◌≡◌, refl, sym, ◌∙◌, ap, ℕ, ◌<◌, ◌≤◌, ◌&&◌, ◌||◌, not, cond, Bool, true, false, List, [], ◌∷◌, ◌++◌, length, take, nat_eq, Option, Some, None, option_map, arith}
use Rattle.std.specs.Prelude.{IfSome}
use Rattle.std.specs.Option.{option_or}
use Rattle.std.proofs.Math.Bool.{or-true}
use Rattle.std.proofs.lemmas.Bool.{eq-eqb, eqb-true}
use Rattle.std.proofs.lemmas.List.{nil_from_length}
use Rattle.std.proofs.lemmas.Option.{none-some}
use Rattle.fm_base.proofs.TestFacts.{and_false}
use Rattle.fm_base.specs.declared.characters.TheConstants.{SLASH}
use Rattle.fm_base.specs.declared.ids.MethodId.{MethodId}
use Rattle.fm_code.specs.AccessFlags.{is_private}
use Rattle.fm_world.proofs.OwnedMethods.{own_method_found, own_within}
use Rattle.fm_world.specs.Chains.{chain_of, first_found, is_among, parent_of, upwards}
use Rattle.fm_world.specs.Lookups.{can_override, is_unrestricted, is_restricted, is_selectable, opens, overriding, own_selectable, package_of, same_package, select}
use Rattle.fm_world.specs.Members.{method_among, method_at, methods_of, OwnedMethod}
use Rattle.fm_world.specs.declared.declarations.DeclaredClass.{DeclaredClass}

-- ---- packages

among_last : (y : ℕ) (xs : List ℕ) → is_among y (xs ++ y ∷ []) ≡ true
among_last y [] = ap (λ b. b || false) (eq-eqb y y refl)
among_last y (x ∷ xs) = ap (λ b. nat_eq y x || b) (among_last y xs) ∙ or-true (nat_eq y x)

among_other : (z y : ℕ) (xs : List ℕ) → nat_eq z y ≡ false → is_among z (xs ++ y ∷ []) ≡ is_among z xs
among_other z y [] other = ap (λ b. b || false) other
among_other z y (x ∷ xs) other = ap (λ b. nat_eq z x || b) (among_other z y xs other)

slash_last : (xs : List ℕ) → package_of (xs ++ SLASH ∷ []) ≡ xs ++ SLASH ∷ []
unfolding package_of
slash_last [] = refl
slash_last (x ∷ xs) =
    ap (λ b. cond (nat_eq SLASH x || b) (x ∷ package_of (xs ++ SLASH ∷ [])) []) (among_last SLASH xs)
    ∙ ap (λ b. cond b (x ∷ package_of (xs ++ SLASH ∷ [])) []) (or-true (nat_eq SLASH x)) ∙ ap (λ ys. x ∷ ys) (slash_last xs)

other_last : (xs : List ℕ) (y : ℕ) → nat_eq SLASH y ≡ false → package_of (xs ++ y ∷ []) ≡ package_of xs
unfolding package_of
other_last [] y other = ap (λ b. cond (b || false) (y ∷ []) []) other
other_last (x ∷ xs) y other =
    ap (λ b. cond (nat_eq SLASH x || b) (x ∷ package_of (xs ++ y ∷ [])) []) (among_other SLASH y xs other)
    ∙ ap (λ ys. cond (nat_eq SLASH x || is_among SLASH xs) (x ∷ ys) []) (other_last xs y other)

-- a name that ends with a slash is that of a package; another last byte is none of its package's
pub package_here : (rest before : List ℕ) (last : ℕ) → rest ≡ before ++ last ∷ [] → nat_eq SLASH last ≡ true → package_of rest ≡ rest
package_here rest before last is slash =
    let same : SLASH ≡ last = eqb-true SLASH last slash in
    ap package_of is ∙ ap (λ y. package_of (before ++ y ∷ [])) (sym same) ∙ slash_last before ∙ ap (λ y. before ++ y ∷ []) same ∙ sym is

pub package_before : (rest before : List ℕ) (last : ℕ) → rest ≡ before ++ last ∷ [] → nat_eq SLASH last ≡ false → package_of rest ≡ package_of before
package_before rest before last is other = ap package_of is ∙ other_last before last other

pub package_none : (rest : List ℕ) → length rest ≡ 0 → package_of rest ≡ rest
unfolding package_of
package_none rest none = ap package_of (nil_from_length rest none) ∙ sym (nil_from_length rest none)

-- the name of a package is the first bytes of a class's name
package_kept : (b : Bool) (x : ℕ) (xs ys : List ℕ) → take (length ys) xs ≡ ys → take (length (cond b (x ∷ ys) [])) (x ∷ xs) ≡ cond b (x ∷ ys) []
package_kept true x xs ys is = ap (λ zs. x ∷ zs) is
package_kept false x xs ys is = refl

pub take-package : (name : List ℕ) → take (length (package_of name)) name ≡ package_of name
unfolding package_of
take-package [] = refl
take-package (x ∷ xs) = package_kept (nat_eq SLASH x || is_among SLASH xs) x xs (package_of xs) (take-package xs)

package_fits : (b : Bool) (x : ℕ) (xs ys : List ℕ) → length ys ≤ length xs → length (cond b (x ∷ ys) []) ≤ length (x ∷ xs)
package_fits true x xs ys few = omega (arith, few)
package_fits false x xs ys few = omega arith

pub package_within : (name : List ℕ) → length (package_of name) ≤ length name
unfolding package_of
package_within [] = omega arith
package_within (x ∷ xs) = package_fits (nat_eq SLASH x || is_among SLASH xs) x xs (package_of xs) (package_within xs)

-- ---- the tests of a method that overrides

pub free_overrides : {r : Bool} (x : Bool) → r ≡ false → (not r || x) ≡ true
free_overrides x free = ap (λ r. not r || x) free

pub none_below : {r b : Bool} (x : Bool) → r ≡ true → b ≡ false → (not r || (b && x)) ≡ false
none_below {r} {b} x restricted apart = ap (λ s. not s || (b && x)) restricted ∙ ap (λ s. s && x) apart

pub below_overrides : {r b p : Bool} (x : Bool) → r ≡ true → b ≡ true → p ≡ true → (not r || (b && (p || x))) ≡ true
below_overrides {r} {b} {p} x restricted below near =
    ap (λ s. not s || (b && (p || x))) restricted ∙ ap (λ s. s && (p || x)) below ∙ ap (λ s. s || x) near

pub opened_overrides : {r b p : Bool} (x : Bool) → r ≡ true → b ≡ true → p ≡ false → (not r || (b && (p || x))) ≡ x
opened_overrides {r} {b} {p} x restricted below far =
    ap (λ s. not s || (b && (p || x))) restricted ∙ ap (λ s. s && (p || x)) below ∙ ap (λ s. s || x) far

-- ---- the first one that is found

-- none of a class
abbrev pub nothing : Option ℕ
nothing = None

pub either_none : (b : Bool) → cond b nothing nothing ≡ nothing
either_none true = refl
either_none false = refl

pub first_found-first : (find : ℕ → Option ℕ) (x : ℕ) (xs : List ℕ) → first_found find (x ∷ xs) ≡ option_or (find x) (first_found find xs)
first_found-first find x xs = by_option (find x) refl where
  by_option : (o : Option ℕ) → find x ≡ o → first_found find (x ∷ xs) ≡ option_or o (first_found find xs)
  by_option None e = rw e refl
  by_option (Some y) e = rw e refl

module _ (own : ℕ → Option ℕ) (can : ℕ → Bool) where
  abbrev tested : ℕ → Option ℕ
  tested x = cond (can x) (own x) None

  -- with a test as well, where all that give this one pass
  pub found_tested : (xs : List ℕ) (k : ℕ) → ((x : ℕ) → own x ≡ Some k → can x ≡ true) → first_found own xs ≡ Some k → first_found tested xs ≡ Some k
  found_tested [] k each is = absurd (none-some k is)
  found_tested (x ∷ xs) k each is =
      by_own (own x) refl (sym (first_found-first own x xs) ∙ is) (found_tested xs k each) where
        by_own : (o : Option ℕ) → own x ≡ o → option_or (own x) (first_found own xs) ≡ Some k → (first_found own xs ≡ Some k → first_found tested xs ≡ Some k)
            → first_found tested (x ∷ xs) ≡ Some k
        by_own None e h later =
            first_found-first tested x xs ∙ ap (λ o. option_or (cond (can x) o None) (first_found tested xs)) e
            ∙ ap (λ o. option_or o (first_found tested xs)) (either_none (can x))
            ∙ later (sym (ap (λ o. option_or o (first_found own xs)) e) ∙ h)
        by_own (Some j) e h later =
            let here : own x ≡ Some k = e ∙ (sym (ap (λ o. option_or o (first_found own xs)) e) ∙ h) in
            first_found-first tested x xs ∙ ap (λ b. option_or (cond b (own x) None) (first_found tested xs)) (each x here)
            ∙ ap (λ o. option_or o (first_found tested xs)) here

  pub none_tested : (xs : List ℕ) → first_found own xs ≡ None → first_found tested xs ≡ None
  none_tested [] is = refl
  none_tested (x ∷ xs) is = by_own (own x) refl (sym (first_found-first own x xs) ∙ is) (none_tested xs) where
    by_own : (o : Option ℕ) → own x ≡ o → option_or (own x) (first_found own xs) ≡ None → (first_found own xs ≡ None → first_found tested xs ≡ None)
        → first_found tested (x ∷ xs) ≡ None
    by_own None e h later =
        first_found-first tested x xs ∙ ap (λ o. option_or (cond (can x) o None) (first_found tested xs)) e
        ∙ ap (λ o. option_or o (first_found tested xs)) (either_none (can x))
        ∙ later (sym (ap (λ o. option_or o (first_found own xs)) e) ∙ h)
    by_own (Some j) e h later = absurd (none-some j (sym h ∙ ap (λ o. option_or o (first_found own xs)) e))

pub first_found-same : (f g : ℕ → Option ℕ) (xs : List ℕ) → ((x : ℕ) → f x ≡ g x) → first_found f xs ≡ first_found g xs
first_found-same f g [] same = refl
first_found-same f g (x ∷ xs) same =
    first_found-first f x xs ∙ ap (λ o. option_or o (first_found f xs)) (same x) ∙ ap (option_or (g x)) (first_found-same f g xs same)
    ∙ sym (first_found-first g x xs)

-- where it is found
pub found_among : (find : ℕ → Option ℕ) (xs : List ℕ) (k : ℕ) → first_found find xs ≡ Some k → (x : ℕ) × (find x ≡ Some k)
found_among find [] k is = absurd (none-some k is)
found_among find (x ∷ xs) k is = by_find (find x) refl (sym (first_found-first find x xs) ∙ is) (found_among find xs k) where
  by_find : (o : Option ℕ) → find x ≡ o → option_or (find x) (first_found find xs) ≡ Some k
      → (first_found find xs ≡ Some k → (y : ℕ) × (find y ≡ Some k)) → (y : ℕ) × (find y ≡ Some k)
  by_find None e h later = later (sym (ap (λ o. option_or o (first_found find xs)) e) ∙ h)
  by_find (Some j) e h later = (x, e ∙ (sym (ap (λ o. option_or o (first_found find xs)) e) ∙ h))

-- ---- the nearest method that overrides

-- the nearest of its name and descriptor, where that overrides
pub nearest_overrides : (classes : List DeclaredClass) (m : OwnedMethod) (class k : ℕ)
    → first_found (own_selectable classes m) (chain_of classes class) ≡ Some k → can_override classes m (method_at classes k).class ≡ true
    → first_found (overriding classes m) (chain_of classes class) ≡ Some k
nearest_overrides classes m class k is can =
    found_tested (own_selectable classes m) (can_override classes m) (chain_of classes class) k
    (λ x own. ap (can_override classes m) (sym (own_method_found classes is_selectable m.method.name m.method.descriptor x k own).owner) ∙ can) is

pub none_overrides : (classes : List DeclaredClass) (m : OwnedMethod) (class : ℕ) → first_found (own_selectable classes m) (chain_of classes class) ≡ None
    → first_found (overriding classes m) (chain_of classes class) ≡ None
none_overrides classes m class is = none_tested (own_selectable classes m) (can_override classes m) (chain_of classes class) is

-- it is one of the methods
pub nearest_inside : (classes : List DeclaredClass) (m : OwnedMethod) (xs : List ℕ) (found : Option MethodId)
    → option_map (λ (n : MethodId). n.0) found ≡ first_found (own_selectable classes m) xs → IfSome found (λ n. n.0 < length (methods_of classes))
nearest_inside classes m xs None is = tt
nearest_inside classes m xs (Some n) is =
    let at = found_among (own_selectable classes m) xs n.0 (sym is) in
    (own_method_found classes is_selectable m.method.name m.method.descriptor at.0 n.0 at.1).inside

-- the class's own one is the nearest, where that is of the class
chain_first : (classes : List DeclaredClass) (class : ℕ) → chain_of classes class ≡ class ∷ upwards (length classes) classes (parent_of classes class)
unfolding chain_of
chain_first classes class = refl

pub own_nearest : (classes : List DeclaredClass) (m : OwnedMethod) (class k : ℕ)
    → first_found (own_selectable classes m) (chain_of classes class) ≡ Some k → (method_at classes k).class ≡ class
    → own_selectable classes m class ≡ Some k
own_nearest classes m class k is owner =
    let at = found_among (own_selectable classes m) (chain_of classes class) k is in
    let here = (own_method_found classes is_selectable m.method.name m.method.descriptor at.0 k at.1).owner in
    ap (own_selectable classes m) (sym owner ∙ here) ∙ at.1

pub no_own : (classes : List DeclaredClass) (m : OwnedMethod) (class : ℕ) (found : Option ℕ)
    → first_found (own_selectable classes m) (chain_of classes class) ≡ found
    → ((k : ℕ) → found ≡ Some k → nat_eq (method_at classes k).class class ≡ false) → own_selectable classes m class ≡ None
no_own classes m class found is other = by_own (own_selectable classes m class) refl where
  rest : List ℕ
  rest = upwards (length classes) classes (parent_of classes class)

  by_own : (o : Option ℕ) → own_selectable classes m class ≡ o → o ≡ None
  by_own None e = refl
  by_own (Some k) e =
      let first : first_found (own_selectable classes m) (chain_of classes class) ≡ Some k =
      ap (first_found (own_selectable classes m)) (chain_first classes class) ∙ first_found-first (own_selectable classes m) class rest
      ∙ ap (λ o. option_or o (first_found (own_selectable classes m) rest)) e in
      let owner = (own_method_found classes is_selectable m.method.name m.method.descriptor class k e).owner in
      let no : true ≡ false = sym (eq-eqb (method_at classes k).class class owner) ∙ other k (sym is ∙ first) in
      absurd (cc)

-- what overrides is the class's own one
pub overriding_own : (classes : List DeclaredClass) (m : OwnedMethod) (class k : ℕ) → overriding classes m class ≡ Some k
    → (can_override classes m class ≡ true) × (own_selectable classes m class ≡ Some k)
overriding_own classes m class k is = by_test (can_override classes m class) is where
  by_test : (b : Bool) → cond b (own_selectable classes m class) None ≡ Some k → (b ≡ true) × (own_selectable classes m class ≡ Some k)
  by_test true e = (refl, e)
  by_test false e = absurd (none-some k e)

-- ---- classes that aren't there

pub no_own_past : (classes : List DeclaredClass) (m : OwnedMethod) (class : ℕ) → length classes ≤ class → own_selectable classes m class ≡ None
no_own_past classes m class past = by_own (own_selectable classes m class) refl where
  by_own : (o : Option ℕ) → own_selectable classes m class ≡ o → o ≡ None
  by_own None e = refl
  by_own (Some k) e =
      let within = own_within classes is_selectable m.method.name m.method.descriptor class k e in absurd (omega (arith, within, past))

-- the last of three tests fails
pub last_fails : (b p : Bool) {f : Bool} → f ≡ false → (b && (p && f)) ≡ false
last_fails b p e = ap (λ f. b && (p && f)) e ∙ ap (λ f. b && f) (and_false p) ∙ and_false b

pub opens_past : (classes : List DeclaredClass) (m : OwnedMethod) (class : ℕ) → own_selectable classes m class ≡ None → opens classes m class ≡ false
opens_past classes m class none =
    last_fails (is_among m.class (chain_of classes class)) (same_package classes class m.class) (ap (is_unrestricted classes) none)

pub overriding_past : (classes : List DeclaredClass) (m : OwnedMethod) (class : ℕ) → own_selectable classes m class ≡ None → overriding classes m class ≡ None
overriding_past classes m class none = ap (λ o. cond (can_override classes m class) o None) none ∙ either_none (can_override classes m class)

-- ---- methods that are not restricted

pub select-free : (classes : List DeclaredClass) (class method : ℕ) → is_private (method_at classes method).method.flags ≡ false
    → is_restricted classes (method_at classes method) ≡ false
    → select classes class method ≡ (let m = (method_at classes method).method in method_among classes is_selectable m.name m.descriptor (chain_of classes class))
unfolding select
select-free classes class method other free =
    let m = method_at classes method in
    ap (λ b. cond b (Some method) (first_found (overriding classes m) (chain_of classes class))) other
    ∙ first_found-same (overriding classes m) (own_selectable classes m) (chain_of classes class)
    (λ x. ap (λ b. cond b (own_selectable classes m x) None) (free_overrides _ free))
