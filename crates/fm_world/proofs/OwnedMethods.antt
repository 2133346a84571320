-- The methods of classes among those of all classes: the class that declares one is there, and what is found by a name and a descriptor has them.
use Rattle.std.proofs.Common.{◌≡◌, ℕ, zero, suc, ◌+◌, ◌-◌, ◌<◌, ◌≤◌, ◌⊎◌, inl, inr, ◌&&◌, Bool, true, List, [], ◌∷◌, length, map, take, Option, Some, None, refl, sym, ◌∙◌, ap, subst, slice_index_or, position, arith}
use Rattle.std.specs.List.{AllByRecursion}
use Rattle.std.specs.Prelude.{option_map}
use Rattle.std.specs.Str.{bytes_eq}
use Rattle.std.proofs.lemmas.Bool.{and_parts, cases_lt}
use Rattle.std.proofs.lemmas.List.{get_or-append_right, get_or-map, get_or_append_left, get_or_past, length-append, length-map}
use Rattle.std.proofs.lemmas.List.Quantifiers.{position-Some}
use Rattle.std.proofs.lemmas.List.Sums.{sum_by-cons}
use Rattle.std.proofs.lemmas.Option.{none-some, same_Some}
use Rattle.std.proofs.lemmas.Slice.Eq.{bytes_eq-Decides}
use Rattle.fm_base.proofs.ListFacts.{AllByRecursion-append, AllByRecursion-get_or}
use Rattle.fm_world.specs.Chains.{class_at}
use Rattle.fm_world.specs.Declarations.{no_class, no_method}
use Rattle.fm_world.specs.Members.{first_method, method_at, methods_from, methods_of, own_method, owned_methods, OwnedMethod}
use Rattle.fm_world.specs.declared.declarations.DeclaredClass.{DeclaredClass}
use Rattle.fm_world.specs.declared.declarations.DeclaredMethod.{DeclaredMethod}

-- ---- the class of a method

abbrev IsOf : ℕ → OwnedMethod → Type 0
IsOf n o = o.class < n

own : (n class : ℕ) → class < n → (methods : List DeclaredMethod)
    → AllByRecursion (IsOf n) (map (λ (m : DeclaredMethod). record { class = class; method = m }) methods)
own n class inside [] = tt
own n class inside (m ∷ methods) = (inside, own n class inside methods)

all_from : (n class : ℕ) (classes : List DeclaredClass) → class + length classes ≤ n → AllByRecursion (IsOf n) (methods_from class classes)
all_from n class [] fit = tt
all_from n class (c ∷ classes) fit =
    AllByRecursion-append (IsOf n) (owned_methods class c) (methods_from (class + 1) classes)
    (own n class (omega (arith, fit)) c.methods)
    (all_from n (class + 1) classes (omega (arith, fit)))

pub owner_within : (classes : List DeclaredClass) (method : ℕ) → method < length (methods_of classes)
    → (method_at classes method).class < length classes
unfolding methods_of
owner_within [] method inside = absurd (omega (arith, inside))
owner_within (c ∷ classes) method inside =
    AllByRecursion-get_or (IsOf (length (c ∷ classes))) (methods_from 0 (c ∷ classes)) (record { class = 0; method = no_method })
    (all_from (length (c ∷ classes)) 0 (c ∷ classes) (omega arith)) (omega arith) method

-- ---- the methods of a class among those of all classes

abbrev pub no_owned : OwnedMethod
no_owned = record { class = 0; method = no_method }

method_of_class : (first : ℕ) (classes : List DeclaredClass) (class k : ℕ) → k < length (class_at classes class).methods
    → slice_index_or (methods_from first classes) (first_method classes class + k) no_owned
    ≡ record { class = first + class; method = slice_index_or (class_at classes class).methods k no_method }
method_of_class first [] class k inside = absurd (omega (arith, inside))
method_of_class first (c ∷ classes) zero k inside =
    let at : 0 + k ≡ k = omega arith in
    let size = length-map {B = OwnedMethod} c.methods (λ (m : DeclaredMethod). record { class = first; method = m }) in
    let own : k < length (owned_methods first c) = omega (arith, inside, size) in
    let same : first ≡ first + 0 = omega arith in
    ap (λ n. slice_index_or (methods_from first (c ∷ classes)) n no_owned) at
    ∙ get_or_append_left (owned_methods first c) (methods_from (first + 1) classes) no_owned k own
    ∙ get_or-map (λ (m : DeclaredMethod). record { class = first; method = m }) c.methods k no_method no_owned inside
    ∙ ap (λ n. record { class = n; method = slice_index_or c.methods k no_method }) same
method_of_class first (c ∷ classes) (suc class) k inside =
    let size = length-map {B = OwnedMethod} c.methods (λ (m : DeclaredMethod). record { class = first; method = m }) in
    let sum = sum_by-cons (λ (d : DeclaredClass). length d.methods) c (take class classes) in
    let at : first_method (c ∷ classes) (suc class) + k ≡ length (owned_methods first c) + (first_method classes class + k) =
    omega (arith, size, sum) in
    let same : first + 1 + class ≡ first + suc class = omega arith in
    let rest : (length (owned_methods first c) + (first_method classes class + k)) - length (owned_methods first c) ≡ first_method classes class + k =
    omega arith in
    ap (λ n. slice_index_or (methods_from first (c ∷ classes)) n no_owned) at
    ∙ get_or-append_right (owned_methods first c) (methods_from (first + 1) classes) (length (owned_methods first c))
    (length (owned_methods first c) + (first_method classes class + k)) no_owned refl (omega arith)
    ∙ ap (λ n. slice_index_or (methods_from (first + 1) classes) n no_owned) rest
    ∙ method_of_class (first + 1) classes class k inside
    ∙ ap (λ n. record { class = n; method = slice_index_or (class_at classes class).methods k no_method }) same

within_methods : (first : ℕ) (classes : List DeclaredClass) (class k : ℕ) → k < length (class_at classes class).methods
    → first_method classes class + k < length (methods_from first classes)
within_methods first [] class k inside = absurd (omega (arith, inside))
within_methods first (c ∷ classes) zero k inside =
    let size = length-map {B = OwnedMethod} c.methods (λ (m : DeclaredMethod). record { class = first; method = m }) in
    let all = length-append (owned_methods first c) (methods_from (first + 1) classes) in
    omega (arith, inside, size, all)
within_methods first (c ∷ classes) (suc class) k inside =
    let size = length-map {B = OwnedMethod} c.methods (λ (m : DeclaredMethod). record { class = first; method = m }) in
    let all = length-append (owned_methods first c) (methods_from (first + 1) classes) in
    let sum = sum_by-cons (λ (d : DeclaredClass). length d.methods) c (take class classes) in
    let rest = within_methods (first + 1) classes class k inside in
    omega (arith, size, all, sum, rest)

-- what is found by name
pub record IsFound (classes : List DeclaredClass) (passes : ℕ → Bool) (name descriptor : List ℕ) (class target : ℕ) : Type 0 where
  pub owner : (method_at classes target).class ≡ class
  pub name_is : (method_at classes target).method.name ≡ name
  pub descriptor_is : (method_at classes target).method.descriptor ≡ descriptor
  pub flags : passes (method_at classes target).method.flags ≡ true
  pub inside : target < length (methods_of classes)

pub own_method_found : (classes : List DeclaredClass) (passes : ℕ → Bool) (name descriptor : List ℕ) (class target : ℕ)
    → own_method classes passes name descriptor class ≡ Some target → IsFound classes passes name descriptor class target
unfolding methods_of
own_method_found classes passes name descriptor class target h = by_place (position test methods) refl h where
  methods : List DeclaredMethod
  methods = (class_at classes class).methods

  test : DeclaredMethod → Bool
  test m = bytes_eq m.name name && bytes_eq m.descriptor descriptor && passes m.flags

  by_place : (o : Option ℕ) → position test methods ≡ o → option_map (λ k. first_method classes class + k) o ≡ Some target
      → IsFound classes passes name descriptor class target
  by_place None at found = absurd (none-some target found)
  by_place (Some k) at found =
      let there = position-Some test methods k no_method at in
      let is : method_at classes target ≡ record { class = class; method = slice_index_or methods k no_method } =
      ap (λ n. slice_index_or (methods_of classes) n no_owned) (sym (same_Some (first_method classes class + k) target found))
      ∙ method_of_class 0 classes class k there.0
      ∙ ap (λ n. record { class = n; method = slice_index_or methods k no_method }) (omega arith) in
      let outer = and_parts (bytes_eq (slice_index_or methods k no_method).name name && bytes_eq (slice_index_or methods k no_method).descriptor descriptor)
      (passes (slice_index_or methods k no_method).flags) there.1 in
      let inner = and_parts (bytes_eq (slice_index_or methods k no_method).name name) (bytes_eq (slice_index_or methods k no_method).descriptor descriptor)
      outer.0 in
      record {
        owner = ap (λ (m : OwnedMethod). m.class) is;
        name_is = ap (λ (m : OwnedMethod). m.method.name) is ∙ (bytes_eq-Decides (slice_index_or methods k no_method).name name).0 inner.0;
        descriptor_is = ap (λ (m : OwnedMethod). m.method.descriptor) is
            ∙ (bytes_eq-Decides (slice_index_or methods k no_method).descriptor descriptor).0 inner.1;
        flags = ap (λ (m : OwnedMethod). passes m.method.flags) is ∙ outer.1;
        inside = subst (λ n. n < length (methods_of classes)) (same_Some (first_method classes class + k) target found)
            (within_methods 0 classes class k there.0);
      }

-- a class that has a method is there
pub own_within : (classes : List DeclaredClass) (passes : ℕ → Bool) (name descriptor : List ℕ) (class target : ℕ)
    → own_method classes passes name descriptor class ≡ Some target → class < length classes
own_within classes passes name descriptor class target is = by_place (cases_lt class (length classes)) where
  found_in : DeclaredClass → Option ℕ
  found_in c =
      option_map (λ k. first_method classes class + k)
      (position (λ m. bytes_eq m.name name && bytes_eq m.descriptor descriptor && passes m.flags) c.methods)

  by_place : (class < length classes) ⊎ (length classes ≤ class) → class < length classes
  by_place (inl within) = within
  by_place (inr past) = absurd (none-some target (sym (ap found_in (get_or_past classes class no_class past)) ∙ is))
