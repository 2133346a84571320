-- Only built-in classes bring a hidden field: those that build texts, and Throwable. So objects
-- that have one have it first.
use Rattle.std.proofs.Common.{◌≡◌, ℕ, ◌<◌, ◌⊎◌, inl, inr, ◌==◌, ◌&&◌, ◌||◌, nat_eq, Bool, true, false, List, [], ◌∷◌, ◌++◌, length, codes, Option, Some, None, refl, sym, ◌∙◌, ap, subst, ⊎_elim}
use Rattle.std.specs.List.{list_any}
use Rattle.std.proofs.lemmas.Bool.{agree_below, agree_below_at, and_from, cases_lt, eq-eqb, eqb-true, false≢true, or_cases, or_left, or_right}
use Rattle.std.proofs.lemmas.List.{get_or_append_left}
use Rattle.std.proofs.lemmas.Option.{same_Some}
use Rattle.fm_base.proofs.OptionFacts.{cond-some_then}
use Rattle.fm_base.specs.declared.kinds.Base.{Base}
use Rattle.fm_base.specs.declared.kinds.Base.TheVariants as base
use Rattle.fm_base.specs.declared.kinds.Kind.TheVariants as kind
use Rattle.fm_base.specs.declared.kinds.TypeRef.{TypeRef}
use Rattle.fm_types.specs.Fits.{AreTree, fits_base, fits_type}
use Rattle.fm_types.specs.Named.{built_in_type}
use Rattle.fm_world.specs.BuiltIns.{built_in, built_in_classes}
use Rattle.fm_world.specs.Chains.{chain_of, class_at, is_among}
use Rattle.fm_world.specs.Declarations.{no_class}
use Rattle.fm_world.specs.Descriptors.{class_number}
use Rattle.fm_world.specs.Numbers.{type_of_class}
use Rattle.fm_world.specs.Programs.{class_of_type, kind_at, Outline, Program}
use Rattle.fm_world.specs.declared.declarations.DeclaredClass.{DeclaredClass}
use Rattle.fm_frames.proofs.BuiltInTypes.{buffer_there, builder_there, named_class, throwable_there}
use Rattle.fm_frames.specs.NativeRows.{text_type}
use Rattle.fm_frames.specs.Runnable.{IsRunnable}
use Rattle.fm_law_sound.specs.Making.{HaveTextFirst}
use Rattle.fm_law_sound.proofs.HiddenFields.{text_first}
use Rattle.fm_law_sound.proofs.MadeObjects.{class_of_base}
use Rattle.fm_law_two_memories.specs.Hidden.{HiddenComesFirst, OwnHideNothing}

-- ---- types

-- the type of a class fits those of its superclasses
module _ (classes : List DeclaredClass) (class above : ℕ) (among : is_among above (chain_of classes class) ≡ true) where
  base_fits : (b : Base) → class_of_base b ≡ Some class → fits_base classes b (type_of_class above).base ≡ true
  base_fits (base.OfClass c) is = subst (λ n. is_among above (chain_of classes n) ≡ true) (sym (same_Some c.0 class is)) among
  base_fits b is = absurd (cc)

  class_fits : (t : TypeRef) → class_of_type t ≡ Some class → fits_type classes t (type_of_class above) ≡ true
  unfolding fits_type
  class_fits t is =
      let parts = cond-some_then (t.dims == 0) (class_of_base t.base) class is in
      or_right _ ((t.dims == 0) && fits_base classes t.base (type_of_class above).base)
      (and_from (t.dims == 0) (fits_base classes t.base (type_of_class above).base) parts.0 (base_fits t.base parts.1))

-- ---- classes that bring a hidden field

abbrev hides : List DeclaredClass → ℕ → Bool
hides classes class = (class_at classes class).hidden

abbrev is_one : ℕ → Bool
is_one class = (class == 2) || ((class == 3) || (class == 7))

built_in_ones : agree_below (hides built_in) is_one built_in_classes ≡ true
unfolding built_in
built_in_ones = refl

built_in_count : length built_in ≡ built_in_classes
unfolding built_in
built_in_count = refl

-- a class of the list that hides something
found : (classes : List DeclaredClass) (chain : List ℕ) → list_any (hides classes) chain ≡ true
    → (above : ℕ) × (hides classes above ≡ true) × (is_among above chain ≡ true)
found classes [] is = absurd (false≢true is)
found classes (class ∷ chain) is =
    by_test (found classes chain) (or_cases (hides classes class) (list_any (hides classes) chain) is) where
      by_test : (list_any (hides classes) chain ≡ true → (above : ℕ) × (hides classes above ≡ true) × (is_among above chain ≡ true))
          → (hides classes class ≡ true) ⊎ (list_any (hides classes) chain ≡ true)
          → (above : ℕ) × (hides classes above ≡ true) × (is_among above (class ∷ chain) ≡ true)
      by_test more (inl here) = (class, here, or_left (nat_eq class class) (is_among class chain) (eq-eqb class class refl))
      by_test more (inr later) =
          let rest = more later in (rest.0, rest.1, or_right (nat_eq rest.0 class) (is_among rest.0 chain) rest.2)

module _ (p : Program) (runnable : IsRunnable p) (tree : AreTree p.outline.classes) (own : OwnHideNothing p.outline) where
  abbrev o : Outline
  o = p.outline

  text : HaveTextFirst o
  text = text_first p runnable tree

  -- one of the built-in classes
  early : (above : ℕ) → hides o.classes above ≡ true → is_one above ≡ true
  early above hidden = ⊎_elim inside (λ late. absurd (false≢true (sym (own above late) ∙ hidden))) (cases_lt above (length built_in)) where
    inside : above < length built_in → is_one above ≡ true
    inside within =
        let same : hides o.classes above ≡ hides built_in above =
        ap (λ (all : List DeclaredClass). hides all above) runnable.classes
        ∙ ap (λ (c : DeclaredClass). c.hidden) (get_or_append_left built_in runnable.given no_class above within) in
        sym (agree_below_at (hides built_in) is_one built_in_classes above built_in_ones (subst (λ n. above < n) built_in_count within)) ∙ sym same ∙ hidden

  module _ (t : TypeRef) (class above : ℕ) (is : class_of_type t ≡ Some class) (among : is_among above (chain_of p.outline.classes class) ≡ true) where
    -- the type fits the built-in class of that number
    fits_named : (name : List ℕ) (number : ℕ) → ((given : List DeclaredClass) → class_number (built_in ++ given) name ≡ Some number) → above ≡ number
        → fits_type o.classes t (built_in_type o name) ≡ true
    fits_named name number there same =
        subst (λ u. fits_type o.classes t u ≡ true) (ap type_of_class same ∙ sym (named_class p name number runnable there))
        (class_fits o.classes class above among t is)

    abbrev TextFirst : Type 0
    TextFirst = (u : TypeRef) × (kind_at o.classes t 0 ≡ Some (kind.Ref u))

    by_one : is_one above ≡ true → TextFirst
    by_one one =
        ⊎_elim (λ second. (
          text_type o,
          text.builders t
              (or_left (fits_type o.classes t (built_in_type o (codes "java/lang/StringBuilder"))) (fits_type o.classes t (built_in_type o (codes "java/lang/StringBuffer")))
              (fits_named (codes "java/lang/StringBuilder") 2 builder_there (eqb-true above 2 second))),
        ))
        (λ others. ⊎_elim (λ third. (
          text_type o,
          text.builders t
              (or_right (fits_type o.classes t (built_in_type o (codes "java/lang/StringBuilder"))) (fits_type o.classes t (built_in_type o (codes "java/lang/StringBuffer")))
              (fits_named (codes "java/lang/StringBuffer") 3 buffer_there (eqb-true above 3 third))),
        ))
        (λ last. (text_type o, text.throwables t (fits_named (codes "java/lang/Throwable") 7 throwable_there (eqb-true above 7 last))))
        (or_cases (above == 3) (above == 7) others))
        (or_cases (above == 2) ((above == 3) || (above == 7)) one)

  pub hidden_first : HiddenComesFirst o
  hidden_first t hidden = by_class (class_of_type t) refl hidden where
    of_class : Option ℕ → Bool
    of_class None = false
    of_class (Some class) = list_any (hides o.classes) (chain_of o.classes class)

    by_class : (class : Option ℕ) → class_of_type t ≡ class → of_class class ≡ true → (u : TypeRef) × (kind_at o.classes t 0 ≡ Some (kind.Ref u))
    by_class None is none = absurd (false≢true none)
    by_class (Some class) is some =
        let there = found o.classes (chain_of o.classes class) some in by_one t class there.0 is there.2 (early there.0 there.1)
