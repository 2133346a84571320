-- Classes and those above them: an object of a class below another fits where that one is wanted.
use Rattle.std.proofs.Common.{◌≡◌, ℕ, zero, suc, ◌<◌, ◌==◌, ◌||◌, Bool, true, false, List, length, Option, Some, None, refl, sym, ◌∙◌, ap, subst, nat_eq, arith, ⊎_elim}
use Rattle.std.proofs.lemmas.Bool.{eq-eqb, eqb-true, false≢true, or_cases, or_left, or_right}
use Rattle.std.proofs.lemmas.Option.{same_Some}
use Rattle.fm_base.specs.declared.kinds.TypeRef.{TypeRef}
use Rattle.fm_types.proofs.ClassTree.{among_own, among-trans, object-within}
use Rattle.fm_types.specs.CallRows.{is_class, names_own_or_parent}
use Rattle.fm_types.specs.Fits.{AreTree}
use Rattle.fm_world.specs.Chains.{chain_of, is_among, parent_of, self_of, upwards}
use Rattle.fm_world.specs.Numbers.{type_of_class}
use Rattle.fm_world.specs.Programs.{class_of_type, Outline}
use Rattle.fm_world.specs.declared.declarations.DeclaredClass.{DeclaredClass}
use Rattle.fm_law_no_fault.specs.Whole.{is_below}

-- the superclass is among those above a class
pub parent_among : (classes : List DeclaredClass) → 0 < length classes → (own above : ℕ) → parent_of classes own ≡ Some above
    → is_among above (chain_of classes own) ≡ true
unfolding chain_of
parent_among classes some own above is =
    or_right (nat_eq above own) (is_among above (upwards (length classes) classes (parent_of classes own)))
    (subst (λ found. is_among above (upwards (length classes) classes found) ≡ true) (sym is) (by_length (length classes) some)) where
      by_length : (n : ℕ) → 0 < n → is_among above (upwards n classes (Some above)) ≡ true
      by_length zero h = absurd (omega (arith, h))
      by_length (suc bound) h =
          or_left (nat_eq above above) (is_among above (upwards bound classes (parent_of classes above))) (eq-eqb above above refl)

module _ (o : Outline) (tree : AreTree o.classes) where
  some_classes : 0 < length o.classes
  some_classes = let within = object-within o.classes tree in omega (arith, within)

  -- a class is below itself
  pub own_below : (class : ℕ) → is_below o class (type_of_class class) ≡ true
  own_below class = among_own o.classes class some_classes

  -- what is below a class is below those above that one
  pub below_trans : (own above : ℕ) (t : TypeRef) → is_below o own t ≡ true → is_among above (chain_of o.classes own) ≡ true → is_below o above t ≡ true
  below_trans own above t first second = by_class (class_of_type t) first where
    of_class : ℕ → Option ℕ → Bool
    of_class class None = false
    of_class class (Some found) = is_among class (chain_of o.classes found)

    by_class : (found : Option ℕ) → of_class own found ≡ true → of_class above found ≡ true
    by_class None h = absurd (false≢true h)
    by_class (Some found) h = among-trans o.classes tree found own above h second

  -- the class that a constructor may name for its own object is the class of that object or one above it, where the own class is so
  pub named_above : (own class : ℕ) → is_among own (chain_of o.classes (self_of o.classes own)) ≡ true → (t : TypeRef) → class_of_type t ≡ Some class
      → names_own_or_parent o own t ≡ true → is_among class (chain_of o.classes (self_of o.classes own)) ≡ true
  named_above own class above t type_is names = by_class (class_of_type t) type_is names where
    self : ℕ
    self = self_of o.classes own

    of_class : Option ℕ → Bool
    of_class None = false
    of_class (Some c) = (c == self) || is_class c (parent_of o.classes own)

    by_parent : (found : Option ℕ) → parent_of o.classes own ≡ found → (c : ℕ) → is_class c found ≡ true → parent_of o.classes own ≡ Some c
    by_parent None is c h = absurd (false≢true h)
    by_parent (Some d) is c h = is ∙ ap Some (sym (eqb-true c d h))

    by_class : (found : Option ℕ) → found ≡ Some class → of_class found ≡ true → is_among class (chain_of o.classes self) ≡ true
    by_class None same h = absurd (cc)
    by_class (Some c) same h =
        let level : c ≡ class = same_Some c class same in
        ⊎_elim
        (λ here. subst (λ n. is_among n (chain_of o.classes self) ≡ true) (sym (eqb-true c self here) ∙ level) (among_own o.classes self some_classes))
        (λ higher. subst (λ n. is_among n (chain_of o.classes self) ≡ true) level
        (among-trans o.classes tree self own c above (parent_among o.classes some_classes own c (by_parent (parent_of o.classes own) refl c higher))))
        (or_cases (c == self) (is_class c (parent_of o.classes own)) h)
