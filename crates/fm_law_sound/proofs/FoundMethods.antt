-- What is found by a method's name and descriptor has them, and is a method of the class in which it was found.
use Rattle.std.proofs.Common.{◌≡◌, ℕ, ◌-◌, ◌<◌, ◌⊎◌, not, cond, Bool, true, false, List, length, Option, Some, None, refl, sym, ap, subst, inl, inr}
use Rattle.std.specs.Prelude.{unwrap_or}
use Rattle.std.proofs.lemmas.Bool.{and_parts, not-true}
use Rattle.std.proofs.lemmas.Option.{same_Some}
use Rattle.fm_code.specs.AccessFlags.{is_private, is_static}
use Rattle.fm_world.specs.Chains.{chain_of, first_found, superclasses_of}
use Rattle.fm_world.proofs.OwnedMethods.{own_method_found}
use Rattle.fm_world.proofs.OverridingLemmas.{found_among, overriding_own}
use Rattle.fm_world.specs.Lookups.{is_selectable, overriding, own_instance, searches_above, select, special_target}
use Rattle.fm_world.specs.Members.{is_instance, method_at, methods_of}
use Rattle.fm_world.specs.declared.declarations.DeclaredClass.{DeclaredClass}

-- ---- alike

-- of the same name and descriptor, and either the method itself or one with a receiver
pub record IsAlike (classes : List DeclaredClass) (method target : ℕ) : Type 0 where
  pub name : (method_at classes target).method.name ≡ (method_at classes method).method.name
  pub descriptor : (method_at classes target).method.descriptor ≡ (method_at classes method).method.descriptor
  pub flags : (target ≡ method) ⊎ (is_static (method_at classes target).method.flags ≡ false)

pub alike_itself : (classes : List DeclaredClass) (method target : ℕ) → target ≡ method → IsAlike classes method target
alike_itself classes method target is = record {
  name = ap (λ m. (method_at classes m).method.name) is;
  descriptor = ap (λ m. (method_at classes m).method.descriptor) is;
  flags = inl is;
}

pub select_alike : (classes : List DeclaredClass) (class method target : ℕ) → select classes class method ≡ Some target → IsAlike classes method target
unfolding select
select_alike classes class method target h = by_private (is_private (method_at classes method).method.flags) h where
  by_private : (b : Bool)
      → cond b (Some method) (first_found (overriding classes (method_at classes method)) (chain_of classes class)) ≡ Some target
      → IsAlike classes method target
  by_private true e = alike_itself classes method target (sym (same_Some method target e))
  by_private false e =
      let among = found_among (overriding classes (method_at classes method)) (chain_of classes class) target e in
      let found = own_method_found classes is_selectable (method_at classes method).method.name (method_at classes method).method.descriptor among.0 target
      (overriding_own classes (method_at classes method) among.0 target among.1).1 in
      let parts = and_parts (not (is_static (method_at classes target).method.flags)) (not (is_private (method_at classes target).method.flags)) found.flags in
      record {
        name = found.name_is;
        descriptor = found.descriptor_is;
        flags = inr (not-true (is_static (method_at classes target).method.flags) parts.0);
      }

-- it is one of the methods, where the named one is
pub select_inside : (classes : List DeclaredClass) (class method target : ℕ) → method < length (methods_of classes)
    → select classes class method ≡ Some target → target < length (methods_of classes)
unfolding select
select_inside classes class method target there h = by_private (is_private (method_at classes method).method.flags) h where
  by_private : (b : Bool)
      → cond b (Some method) (first_found (overriding classes (method_at classes method)) (chain_of classes class)) ≡ Some target
      → target < length (methods_of classes)
  by_private true e = subst (λ n. n < length (methods_of classes)) (same_Some method target e) there
  by_private false e =
      let among = found_among (overriding classes (method_at classes method)) (chain_of classes class) target e in
      (own_method_found classes is_selectable (method_at classes method).method.name (method_at classes method).method.descriptor among.0 target
      (overriding_own classes (method_at classes method) among.0 target among.1).1).inside

pub special_alike : (classes : List DeclaredClass) (caller : ℕ) (named : Option ℕ) (method : ℕ)
    → IsAlike classes method (special_target classes caller named method)
unfolding special_target
special_alike classes caller named method = by_search (searches_above classes caller named (method_at classes method).method.name) where
  by_found : (o : Option ℕ) → first_found (own_instance classes method) (superclasses_of classes caller) ≡ o → IsAlike classes method (unwrap_or o method)
  by_found None e = alike_itself classes method method refl
  by_found (Some target) e =
      let among = found_among (own_instance classes method) (superclasses_of classes caller) target e in
      let found = own_method_found classes is_instance (method_at classes method).method.name (method_at classes method).method.descriptor among.0 target
      among.1 in
      record {
        name = found.name_is;
        descriptor = found.descriptor_is;
        flags = inr (not-true (is_static (method_at classes target).method.flags) found.flags);
      }

  by_search : (b : Bool)
      → IsAlike classes method (cond b (unwrap_or (first_found (own_instance classes method) (superclasses_of classes caller)) method) method)
  by_search true = by_found (first_found (own_instance classes method) (superclasses_of classes caller)) refl
  by_search false = alike_itself classes method method refl

pub special_inside : (classes : List DeclaredClass) (caller : ℕ) (named : Option ℕ) (method : ℕ) → method < length (methods_of classes)
    → special_target classes caller named method < length (methods_of classes)
unfolding special_target
special_inside classes caller named method there = by_search (searches_above classes caller named (method_at classes method).method.name) where
  by_found : (o : Option ℕ) → first_found (own_instance classes method) (superclasses_of classes caller) ≡ o
      → unwrap_or o method < length (methods_of classes)
  by_found None e = there
  by_found (Some target) e =
      let among = found_among (own_instance classes method) (superclasses_of classes caller) target e in
      (own_method_found classes is_instance (method_at classes method).method.name (method_at classes method).method.descriptor among.0 target among.1).inside

  by_search : (b : Bool)
      → cond b (unwrap_or (first_found (own_instance classes method) (superclasses_of classes caller)) method) method < length (methods_of classes)
  by_search true = by_found (first_found (own_instance classes method) (superclasses_of classes caller)) refl
  by_search false = there
