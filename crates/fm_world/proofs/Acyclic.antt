-- Where no chain leads into a cycle, superclasses and superinterfaces are computed step by step. For the code that fills tables from the uppermost
-- class down.
use Rattle.std.proofs.Common.{◌≡◌, refl, sym, ◌∙◌, ap, ℕ, zero, suc, ◌<◌, ◌||◌, Bool, true, false, List, [], ◌∷◌, ◌++◌, length, Option, Some, None, nat_eq}
use Rattle.std.specs.List.{flat_map, list_any}
use Rattle.std.proofs.lemmas.Bool.{false≢true}
use Rattle.fm_world.specs.Causes.{goes_deep, goes_up}
use Rattle.fm_world.specs.Chains.{chain_of, distinct, interfaces_within, listed_interfaces, parent_of, superinterfaces_of, upwards}
use Rattle.fm_world.specs.declared.declarations.DeclaredClass.{DeclaredClass}
use Rattle.fm_world.specs.inner.Tables.{IsLinear, chain_from}

-- ---- superclasses

-- a chain that ends isn't longer with a greater bound
pub upwards-ended : (classes : List DeclaredClass) (bound : ℕ) (class : Option ℕ) → goes_up bound classes class ≡ false
    → upwards bound classes class ≡ upwards (suc bound) classes class
upwards-ended classes zero None h = refl
upwards-ended classes zero (Some class) h = absurd (false≢true (sym h))
upwards-ended classes (suc bound) None h = refl
upwards-ended classes (suc bound) (Some class) h = ap (λ xs. class ∷ xs) (upwards-ended classes bound (parent_of classes class) h)

pub IsLinear-acyclic : (classes : List DeclaredClass)
    → ((class : ℕ) → class < length classes → goes_up (length classes) classes (parent_of classes class) ≡ false)
    → IsLinear classes
unfolding chain_of
IsLinear-acyclic classes acyclic class within = ap (λ xs. class ∷ xs)
    (upwards-ended classes (length classes) (parent_of classes class) (acyclic class within) ∙ is_chain (parent_of classes class)) where
      is_chain : (p : Option ℕ) → upwards (suc (length classes)) classes p ≡ chain_from classes p
      is_chain None = refl
      is_chain (Some parent) = refl

-- ---- superinterfaces

-- some test of a list fails at each element
pub none_passes : {A : Type 0} (p : A → Bool) (x : A) (xs : List A) → list_any p (x ∷ xs) ≡ false → p x ≡ false
none_passes p x xs h = first (p x) (list_any p xs) h where
  first : (a b : Bool) → (a || b) ≡ false → a ≡ false
  first false b e = refl
  first true b e = absurd (false≢true (sym e))

pub none_passes_after : {A : Type 0} (p : A → Bool) (x : A) (xs : List A) → list_any p (x ∷ xs) ≡ false → list_any p xs ≡ false
none_passes_after p x xs h = second (p x) (list_any p xs) h where
  second : (a b : Bool) → (a || b) ≡ false → b ≡ false
  second false b e = e
  second true b e = absurd (false≢true (sym e))

-- two functions that agree at the elements at which a test fails
pub flat_map-same : (p : ℕ → Bool) (f g : ℕ → List ℕ) → ((x : ℕ) → p x ≡ false → f x ≡ g x) → (xs : List ℕ) → list_any p xs ≡ false
    → flat_map f xs ≡ flat_map g xs
flat_map-same p f g same [] h = refl
flat_map-same p f g same (x ∷ xs) h =
    ap (λ ys. ys ++ flat_map f xs) (same x (none_passes p x xs h)) ∙ ap (λ ys. g x ++ ys) (flat_map-same p f g same xs (none_passes_after p x xs h))

-- where no chain of interfaces goes so deep, a greater bound finds no more
pub interfaces_within-ended : (classes : List DeclaredClass) (bound class : ℕ) → goes_deep bound classes class ≡ false
    → interfaces_within bound classes class ≡ interfaces_within (suc bound) classes class
interfaces_within-ended classes zero class h = absurd (false≢true (sym h))
interfaces_within-ended classes (suc bound) class h =
    ap (distinct nat_eq)
    (flat_map-same (goes_deep bound classes) (λ i. i ∷ interfaces_within bound classes i) (λ i. i ∷ interfaces_within (suc bound) classes i)
    (λ i e. ap (λ xs. i ∷ xs) (interfaces_within-ended classes bound i e)) (listed_interfaces classes class) h)

-- a class's superinterfaces by those of the interfaces that it lists
pub superinterfaces_of-listed : (classes : List DeclaredClass) (class : ℕ)
    → list_any (goes_deep (length classes) classes) (listed_interfaces classes class) ≡ false
    → superinterfaces_of classes class ≡ distinct nat_eq (flat_map (λ i. i ∷ superinterfaces_of classes i) (listed_interfaces classes class))
unfolding superinterfaces_of
superinterfaces_of-listed classes class h =
    ap (distinct nat_eq)
    (flat_map-same (goes_deep (length classes) classes) (λ i. i ∷ interfaces_within (length classes) classes i)
    (λ i. i ∷ interfaces_within (suc (length classes)) classes i)
    (λ i e. ap (λ xs. i ∷ xs) (interfaces_within-ended classes (length classes) i e)) (listed_interfaces classes class) h)
