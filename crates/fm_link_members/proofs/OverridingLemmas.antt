-- What the tables say of methods that override one is what the definitions say, and so is which method is selected.
use Rattle.std.proofs.Common.{◌≡◌, refl, sym, ◌∙◌, ap, ℕ, ◌<◌, ◌≤◌, ◌⊎◌, inl, inr, ◌&&◌, ◌||◌, not, cond, Bool, true, false, List, [], ◌∷◌, length, get_or, slice_get, Option, Some, None, option_and_then}
use Rattle.std.specs.List.{list_any}
use Rattle.std.proofs.lemmas.Bool.{cases_lt}
use Rattle.fm_code.specs.AccessFlags.{is_package_private, is_private}
use Rattle.fm_world.proofs.OwnedMethods.{own_method_found}
use Rattle.fm_world.proofs.OverridingLemmas.{either_none, first_found-same, last_fails, no_own_past, opens_past, overriding_past, select-free}
use Rattle.fm_world.specs.Chains.{chain_of, first_found, is_among}
use Rattle.fm_world.specs.Lookups.{can_override, is_unrestricted, is_interface_at, is_restricted, is_selectable, opens, overriding, own_selectable, same_package, select}
use Rattle.fm_world.specs.Members.{method_at, methods_of}
use Rattle.fm_world.specs.declared.declarations.DeclaredClass.{DeclaredClass}
use Rattle.fm_link_supers.proofs.ParentTables.{list_in-row}
use Rattle.fm_link_supers.specs.declared.hierarchy.Hierarchy.{Hierarchy}
use Rattle.fm_link_supers.specs.inner.Hierarchy.{IsHierarchy}
use Rattle.fm_link_supers.specs.inner.ListTables.{list_in}
use Rattle.fm_link_members.proofs.LookupLemmas.{method_row, nearest_by_method, own_in_by_method, signature_there}
use Rattle.fm_link_members.specs.declared.lookups.Methods.{Methods}
use Rattle.fm_link_members.specs.inner.FoundMembers.{selected_by, selected_in}
use Rattle.fm_link_members.specs.inner.MemberRows.{Owned}
use Rattle.fm_link_members.specs.inner.MemberTables.{flags_of, nearest_in, AreMethods}
use Rattle.fm_link_members.specs.inner.Overriding.{can_override_in, is_below_in, is_free_in, is_restricted_in, opens_in, overriding_in, owner_in, own_selectable_in}

list_any-same : (p q : ℕ → Bool) (xs : List ℕ) → ((x : ℕ) → p x ≡ q x) → list_any p xs ≡ list_any q xs
list_any-same p q [] same = refl
list_any-same p q (x ∷ xs) same = ap (λ b. b || list_any p xs) (same x) ∙ ap (λ b. q x || b) (list_any-same p q xs same)

module _ (texts : List (List ℕ)) (classes : List DeclaredClass) (m : Methods) (h : Hierarchy) (are : AreMethods texts classes m) (is : IsHierarchy classes h) where
  owner-is : (method : ℕ) → method < length (methods_of classes) → owner_in m method ≡ (method_at classes method).class
  owner-is method within = ap (λ (o : Owned). o.class) (method_row texts classes m are method within)

  pub flags-are : (method : ℕ) → method < length (methods_of classes) → flags_of m.members.rows.items method ≡ (method_at classes method).method.flags
  flags-are method within = ap (λ (o : Owned). o.flags) (method_row texts classes m are method within)

  chain-is : (class : ℕ) → class < length classes → list_in h.chains.items class ≡ chain_of classes class
  chain-is class within = list_in-row (chain_of classes) (length classes) class h.chains.items is.chains within

  pub restricted-is : (method : ℕ) → method < length (methods_of classes) → is_restricted_in m h method ≡ is_restricted classes (method_at classes method)
  restricted-is method within =
      ap (λ f. is_package_private f && not (is_interface_at h.classes.now (owner_in m method))) (flags-are method within)
      ∙ ap (λ cs. is_package_private (method_at classes method).method.flags && not (is_interface_at cs (owner_in m method))) is.classes_are
      ∙ ap (λ d. is_package_private (method_at classes method).method.flags && not (is_interface_at classes d)) (owner-is method within)

  module _ (method : ℕ) (within : method < length (methods_of classes)) where
    abbrev signature : ℕ
    signature = get_or m.signatures.of_members.items method 0

    own-is : (class : ℕ) → own_selectable_in m signature class ≡ own_selectable classes (method_at classes method) class
    own-is class = own_in_by_method texts classes m are is.linear is_selectable m.selectable are.selectable method within class

    below-is : (class : ℕ) → class < length classes → is_below_in m h method class ≡ is_among (method_at classes method).class (chain_of classes class)
    below-is class inside =
        ap (λ d. is_among d (list_in h.chains.items class)) (owner-is method within) ∙ ap (is_among (method_at classes method).class) (chain-is class inside)

    package-is : (class : ℕ) → same_package h.classes.now class (owner_in m method) ≡ same_package classes class (method_at classes method).class
    package-is class =
        ap (λ cs. same_package cs class (owner_in m method)) is.classes_are ∙ ap (same_package classes class) (owner-is method within)

    -- the method that was found is one of the methods
    free-is : (class : ℕ) (o : Option ℕ) → own_selectable classes (method_at classes method) class ≡ o → is_free_in m h o ≡ is_unrestricted classes o
    free-is class None e = refl
    free-is class (Some k) e =
        let its = (method_at classes method).method in
        ap not (restricted-is k (own_method_found classes is_selectable its.name its.descriptor class k e).inside)

    opens-is : (class : ℕ) → opens_in m h method signature class ≡ opens classes (method_at classes method) class
    opens-is class = by_place (cases_lt class (length classes)) where
      free : is_free_in m h (own_selectable_in m signature class) ≡ is_unrestricted classes (own_selectable classes (method_at classes method) class)
      free = ap (is_free_in m h) (own-is class) ∙ free-is class (own_selectable classes (method_at classes method) class) refl

      by_place : (class < length classes) ⊎ (length classes ≤ class) → opens_in m h method signature class ≡ opens classes (method_at classes method) class
      by_place (inl inside) =
          ap (λ b. b && (same_package h.classes.now class (owner_in m method) && is_free_in m h (own_selectable_in m signature class))) (below-is class inside)
          ∙ ap (λ b. is_among (method_at classes method).class (chain_of classes class) && (b && is_free_in m h (own_selectable_in m signature class)))
          (package-is class)
          ∙ ap (λ b. is_among (method_at classes method).class (chain_of classes class) && (same_package classes class (method_at classes method).class && b)) free
      by_place (inr past) =
          let none = no_own_past classes (method_at classes method) class past in
          last_fails (is_below_in m h method class) (same_package h.classes.now class (owner_in m method)) (free ∙ ap (is_unrestricted classes) none)
          ∙ sym (opens_past classes (method_at classes method) class none)

    can-is : (class : ℕ) → class < length classes → can_override_in m h method signature class ≡ can_override classes (method_at classes method) class
    can-is class inside =
        let its = method_at classes method in
        let opened : list_any (opens_in m h method signature) (list_in h.chains.items class) ≡ list_any (opens classes its) (chain_of classes class) =
        ap (list_any (opens_in m h method signature)) (chain-is class inside)
        ∙ list_any-same (opens_in m h method signature) (opens classes its) (chain_of classes class) opens-is in
        let near_in = same_package h.classes.now class (owner_in m method) in
        let opened_in = list_any (opens_in m h method signature) (list_in h.chains.items class) in
        ap (λ r. not r || (is_below_in m h method class && (near_in || opened_in))) (restricted-is method within)
        ∙ ap (λ b. not (is_restricted classes its) || (b && (near_in || opened_in))) (below-is class inside)
        ∙ ap (λ b. not (is_restricted classes its) || (is_among its.class (chain_of classes class) && (b || opened_in))) (package-is class)
        ∙ ap (λ b. not (is_restricted classes its) || (is_among its.class (chain_of classes class) && (same_package classes class its.class || b))) opened

    overriding-is : (class : ℕ) → overriding_in m h method signature class ≡ overriding classes (method_at classes method) class
    overriding-is class = by_place (cases_lt class (length classes)) where
      by_place : (class < length classes) ⊎ (length classes ≤ class) → overriding_in m h method signature class ≡ overriding classes (method_at classes method) class
      by_place (inl inside) =
          ap (λ o. cond (can_override_in m h method signature class) o None) (own-is class)
          ∙ ap (λ b. cond b (own_selectable classes (method_at classes method) class) None) (can-is class inside)
      by_place (inr past) =
          let none = no_own_past classes (method_at classes method) class past in
          ap (λ o. cond (can_override_in m h method signature class) o None) (own-is class ∙ none) ∙ either_none (can_override_in m h method signature class)
          ∙ sym (overriding_past classes (method_at classes method) class none)

    by_signature : (class : ℕ) → class < length classes → is_private (method_at classes method).method.flags ≡ false
        → selected_by m h class method signature ≡ select classes class method
    unfolding select
    by_signature class inside other = by_test (is_restricted classes (method_at classes method)) refl where
      restricted : (b : Bool) → is_restricted classes (method_at classes method) ≡ b
          → selected_by m h class method signature
          ≡ cond b (first_found (overriding_in m h method signature) (list_in h.chains.items class)) (nearest_in m.selectable class signature)
      restricted b e =
          ap (λ r. cond r (first_found (overriding_in m h method signature) (list_in h.chains.items class)) (nearest_in m.selectable class signature))
          (restricted-is method within ∙ e)

      by_test : (b : Bool) → is_restricted classes (method_at classes method) ≡ b → selected_by m h class method signature ≡ select classes class method
      by_test true e =
          restricted true e ∙ ap (first_found (overriding_in m h method signature)) (chain-is class inside)
          ∙ first_found-same (overriding_in m h method signature) (overriding classes (method_at classes method)) (chain_of classes class) overriding-is
          ∙ sym (ap (λ p. cond p (Some method) (first_found (overriding classes (method_at classes method)) (chain_of classes class))) other)
      by_test false e =
          restricted false e ∙ nearest_by_method texts classes m are is_selectable m.selectable are.selectable class method inside within
          ∙ sym (select-free classes class method other e)

pub selected-is : (texts : List (List ℕ)) (classes : List DeclaredClass) (m : Methods) (h : Hierarchy) (class method : ℕ) → AreMethods texts classes m
    → IsHierarchy classes h → class < length classes → method < length (methods_of classes) → selected_in m h class method ≡ select classes class method
unfolding select
selected-is texts classes m h class method are is within m_within = by_private (is_private (method_at classes method).method.flags) refl where
  its : ℕ
  its = (method_at classes method).method.flags

  begun : selected_in m h class method ≡ cond (is_private its) (Some method) (selected_by m h class method (get_or m.signatures.of_members.items method 0))
  begun =
      ap (λ f. cond (is_private f) (Some method) (option_and_then (selected_by m h class method) (slice_get m.signatures.of_members.items method)))
      (flags-are texts classes m h are is method m_within)
      ∙ ap (λ o. cond (is_private its) (Some method) (option_and_then (selected_by m h class method) o)) (signature_there texts classes m are method m_within)

  by_private : (b : Bool) → is_private (method_at classes method).method.flags ≡ b → selected_in m h class method ≡ select classes class method
  by_private true e =
      begun ∙ ap (λ p. cond p (Some method) (selected_by m h class method (get_or m.signatures.of_members.items method 0))) e
      ∙ sym (ap (λ p. cond p (Some method) (first_found (overriding classes (method_at classes method)) (chain_of classes class))) e)
  by_private false e =
      begun ∙ ap (λ p. cond p (Some method) (selected_by m h class method (get_or m.signatures.of_members.items method 0))) e
      ∙ by_signature texts classes m h are is method m_within class within e
