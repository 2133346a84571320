-- The tables of superinterfaces where no chain leads into a cycle.
use Rattle.std.proofs.Common.{◌≡◌, refl, sym, ◌∙◌, ap, ℕ, zero, suc, ◌<◌, ◌⊎◌, inl, inr, ◌||◌, Bool, true, false, List, [], ◌∷◌, length, map, nat_eq, get_or}
use Rattle.std.specs.List.{flat_map}
use Rattle.std.proofs.lemmas.Bool.{eqb-true, eq-eqb, false≢true, or_cases}
use Rattle.std.proofs.lemmas.List.Folds.{list_any-append}
use Rattle.std.proofs.lemmas.List.FromFn.{fill_by_all}
use Rattle.fm_link_supers.proofs.Distinct.{among_distinct}
use Rattle.fm_link_supers.proofs.RoundCounts.{ends_within}
use Rattle.fm_link_supers.specs.inner.Hierarchy.{AreSound}
use Rattle.fm_world.specs.Causes.{goes_deep}
use Rattle.fm_world.specs.Chains.{chain_of, interfaces_of, interfaces_within, is_among, listed_interfaces, superinterfaces_of}
use Rattle.fm_world.specs.Lookups.{is_interface_at}
use Rattle.fm_world.specs.declared.declarations.DeclaredClass.{DeclaredClass}
use Rattle.fm_world.specs.inner.Tables.{AreInterfaces, numbers_below}

-- ---- tables

pub above_are : (classes : List DeclaredClass) (above : List (List ℕ)) → AreSound classes → length above ≡ length classes
    → ((class : ℕ) → class < length classes → goes_deep (length classes) classes class ≡ false → get_or above class [] ≡ superinterfaces_of classes class)
    → above ≡ map (superinterfaces_of classes) (numbers_below (length classes))
above_are classes above sound count found =
    fill_by_all (superinterfaces_of classes) above (length classes) [] count
    (λ class within. found class within (ends_within classes class within (sound.acyclic.interfaces class within)))

-- ---- superinterfaces are interfaces

-- what is in one of the lists
abbrev pub AllIn : (ℕ → List ℕ) → List ℕ → (ℕ → Type 0) → Type 0
AllIn f xs P = (i : ℕ) → is_among i xs ≡ true → (x : ℕ) → is_among x (f i) ≡ true → P x

in_flat_map : (f : ℕ → List ℕ) (P : ℕ → Type 0) (xs : List ℕ) → AllIn f xs P → (x : ℕ) → is_among x (flat_map f xs) ≡ true → P x
in_flat_map f P [] all x e = absurd (false≢true e)
in_flat_map f P (y ∷ ys) all x e =
    by_case (in_flat_map f P ys (λ i h. all i (or_true (nat_eq i y) (is_among i ys) h)) x)
    (or_cases (is_among x (f y)) (is_among x (flat_map f ys)) (sym (list_any-append (nat_eq x) (f y) (flat_map f ys)) ∙ e)) where
      or_true : (b c : Bool) → c ≡ true → (b || c) ≡ true
      or_true true c h = refl
      or_true false c h = h

      by_case : (is_among x (flat_map f ys) ≡ true → P x) → (is_among x (f y) ≡ true) ⊎ (is_among x (flat_map f ys) ≡ true) → P x
      by_case later (inl here) = all y (ap (λ b. b || is_among y ys) (eq-eqb y y refl)) x here
      by_case later (inr there) = later there

within_only : (classes : List DeclaredClass) → ((class : ℕ) → AreInterfaces classes (listed_interfaces classes class)) → (bound class : ℕ)
    → AreInterfaces classes (interfaces_within bound classes class)
within_only classes listed zero class number e = absurd (false≢true e)
within_only classes listed (suc bound) class number e =
    in_flat_map (λ i. i ∷ interfaces_within bound classes i) (λ x. is_interface_at classes x ≡ true) (listed_interfaces classes class)
    (λ i there x among. by_case i there x (within_only classes listed bound i x) (or_cases (nat_eq x i) (is_among x (interfaces_within bound classes i)) among)) number
    (sym (among_distinct number (flat_map (λ i. i ∷ interfaces_within bound classes i) (listed_interfaces classes class))) ∙ e) where
      by_case : (i : ℕ) → is_among i (listed_interfaces classes class) ≡ true → (x : ℕ)
          → (is_among x (interfaces_within bound classes i) ≡ true → is_interface_at classes x ≡ true)
          → (nat_eq x i ≡ true) ⊎ (is_among x (interfaces_within bound classes i) ≡ true) → is_interface_at classes x ≡ true
      by_case i there x above (inl same) = ap (is_interface_at classes) (eqb-true x i same) ∙ listed class i there
      by_case i there x above (inr among) = above among

pub superinterfaces_only : (classes : List DeclaredClass) → AreSound classes → (class : ℕ) → AreInterfaces classes (superinterfaces_of classes class)
unfolding superinterfaces_of
superinterfaces_only classes sound class = within_only classes sound.only_interfaces (suc (length classes)) class

pub interfaces_only : (classes : List DeclaredClass) → AreSound classes → (class : ℕ) → AreInterfaces classes (interfaces_of classes class)
unfolding interfaces_of
interfaces_only classes sound class number e =
    in_flat_map (superinterfaces_of classes) (λ x. is_interface_at classes x ≡ true) (chain_of classes class)
    (λ i there. superinterfaces_only classes sound i) number
    (sym (among_distinct number (flat_map (superinterfaces_of classes) (chain_of classes class))) ∙ e)
