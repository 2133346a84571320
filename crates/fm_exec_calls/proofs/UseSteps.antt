-- Instructions that use a class: their effects, and that its number is one of a class.
use Rattle.std.proofs.Common.{◌≡◌, ℕ, ◌+◌, ◌-◌, ◌<◌, ◌≤◌, ◌⊎◌, inl, inr, List, [], ◌∷◌, get_or, length, Bool, true, false, ◌==◌, if◌then◌else◌, Option, Some, None, ap, sym, ◌∙◌, subst, refl, arith}
use Rattle.std.proofs.lemmas.Option.{none-some, same_Some}
use Rattle.fm_base.specs.declared.kinds.Base.{Base}
use Rattle.fm_base.specs.declared.kinds.Base.TheVariants as base
use Rattle.fm_base.specs.declared.kinds.TypeRef.{TypeRef}
use Rattle.std.proofs.lemmas.Bool.{cases_lt}
use Rattle.std.proofs.lemmas.List.{get_or-append-add, get_or-map, get_or_append_left, length-append, length-map}
use Rattle.fm_frames.specs.ObjectRows.{class_of_field}
use Rattle.fm_world.specs.Members.{fields_from, fields_of, OwnedField, owned_fields}
use Rattle.fm_world.specs.Declarations.{no_field}
use Rattle.fm_world.specs.Programs.{class_of_type, field_info, IsBaseIn, IsTypeIn, Outline}
use Rattle.fm_world.specs.declared.declarations.DeclaredClass.{DeclaredClass}
use Rattle.fm_world.specs.declared.declarations.DeclaredField.{DeclaredField}

pub field-class : (o : Outline) (f : ℕ) → (field_info o f).class.0 ≡ class_of_field o f
unfolding field_info
field-class o f = refl

owner-below : (number : ℕ) (classes : List DeclaredClass) (i : ℕ) (d : OwnedField) → i < length (fields_from number classes)
    → (get_or (fields_from number classes) i d).class < number + length classes
owner-below number [] i d inside = absurd (omega (arith, inside))
owner-below number (c ∷ classes) i d inside =
    by_place (λ j within. owner-below (number + 1) classes j d within) (cases_lt i (length (owned_fields number c))) where
      owned : DeclaredField → OwnedField
      owned f = record { class = number; field = f }

      by_place : ((j : ℕ) → j < length (fields_from (number + 1) classes) → (get_or (fields_from (number + 1) classes) j d).class < number + 1 + length classes)
          → (i < length (owned_fields number c)) ⊎ (length (owned_fields number c) ≤ i)
          → (get_or (fields_from number (c ∷ classes)) i d).class < number + length (c ∷ classes)
      by_place below (inl own) =
          let many : length (owned_fields number c) ≡ length c.fields = length-map c.fields owned in
          let is : get_or (fields_from number (c ∷ classes)) i d ≡ owned (get_or c.fields i no_field) =
          get_or_append_left (owned_fields number c) (fields_from (number + 1) classes) d i own
          ∙ get_or-map owned c.fields i no_field d (omega (arith, own, many)) in
          let class : (get_or (fields_from number (c ∷ classes)) i d).class ≡ number = ap (λ (f : OwnedField). f.class) is in
          omega (arith, class)
      by_place below (inr over) =
          let all = length-append (owned_fields number c) (fields_from (number + 1) classes) in
          let place : length (owned_fields number c) + (i - length (owned_fields number c)) ≡ i = omega (arith, over) in
          let is : get_or (fields_from number (c ∷ classes)) i d ≡ get_or (fields_from (number + 1) classes) (i - length (owned_fields number c)) d =
          ap (λ n. get_or (fields_from number (c ∷ classes)) n d) (sym place)
          ∙ get_or-append-add (owned_fields number c) (fields_from (number + 1) classes) (i - length (owned_fields number c)) d in
          let class = ap (λ (f : OwnedField). f.class) is in
          let rest = below (i - length (owned_fields number c)) (omega (arith, inside, all, over)) in
          omega (arith, class, rest)

-- the class of a field is there
pub field-owner : (o : Outline) (f : ℕ) → f < length (fields_of o.classes) → class_of_field o f < length o.classes
unfolding fields_of
field-owner o f inside =
    let below = owner-below 0 o.classes f (record { class = 0; field = no_field }) inside in omega (arith, below)

abbrev pub base_class : Base → Option ℕ
base_class (base.OfClass class) = Some class.0
base_class b = None

-- the class that a type is is there, where the type is one of the program
pub class-inside : (classes : List DeclaredClass) (t : TypeRef) (class : ℕ) → Some class ≡ class_of_type t → IsTypeIn classes t → class < length classes
class-inside classes t class is inside = by_dims (t.dims == 0) t.base is inside where
  by_dims : (single : Bool) (b : Base) → Some class ≡ (if single then base_class b else None) → IsBaseIn classes b → class < length classes
  by_dims false b is inside = absurd (none-some _ (sym is))
  by_dims true (base.OfClass c) is inside = subst (λ n. n < length classes) (sym (same_Some _ _ is)) inside
  by_dims true base.Boolean is inside = absurd (none-some _ (sym is))
  by_dims true base.Byte is inside = absurd (none-some _ (sym is))
  by_dims true base.Char is inside = absurd (none-some _ (sym is))
  by_dims true base.Short is inside = absurd (none-some _ (sym is))
  by_dims true base.Int is inside = absurd (none-some _ (sym is))
  by_dims true base.Long is inside = absurd (none-some _ (sym is))
