-- The number that a copy has leads to the type of the object that is copied.
use Rattle.std.proofs.Common.{◌≡◌, ℕ, Option, Some, None, unwrap_or, refl, sym, ◌∙◌, ap, slice_get}
use Rattle.std.proofs.lemmas.Option.{get_or_from_slice_get, none-some, unwrap_or-slice_get}
use Rattle.fm_base.specs.declared.kinds.TypeRef.{TypeRef}
use Rattle.fm_frames.specs.Sights.{type_numbered}
use Rattle.fm_law_sound.proofs.MadeObjects.{number_there, numbered}
use Rattle.fm_world.specs.Numbers.{type_number, type_of_class}
use Rattle.fm_world.specs.Programs.{Outline}

pub copy_type : (o : Outline) → type_numbered o 0 ≡ type_of_class 0 → (t : TypeRef) (class : ℕ) → t ≡ type_numbered o class
    → type_numbered o (unwrap_or (type_number o.types t) 0) ≡ t
copy_type o first t class is = by_number (type_number o.types t) refl where
  -- a type without a number is that of a number that is none
  by_class : (found : Option TypeRef) → slice_get o.types class ≡ found → type_number o.types t ≡ None → type_of_class 0 ≡ t
  by_class None out none =
      sym (is ∙ sym (unwrap_or-slice_get o.types class (type_of_class 0)) ∙ ap (λ found. unwrap_or found (type_of_class 0)) out)
  by_class (Some u) at none =
      let same : t ≡ u = is ∙ get_or_from_slice_get o.types class u (type_of_class 0) at in
      let number = numbered o class t (at ∙ ap Some (sym same)) in
      absurd (none-some number.0 (sym none ∙ number.1))

  by_number : (number : Option ℕ) → type_number o.types t ≡ number → type_numbered o (unwrap_or number 0) ≡ t
  by_number (Some number) at = get_or_from_slice_get o.types number t (type_of_class 0) (number_there o t number at)
  by_number None none = first ∙ by_class (slice_get o.types class) refl none
