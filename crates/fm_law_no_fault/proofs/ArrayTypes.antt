-- Arrays of types that fit: what the rows of the checker keep along their order holds of only the
-- types.
use Rattle.std.proofs.Common.{◌≡◌, ℕ, ◌-◌, ◌==◌, Bool, true, false, List, [], ◌∷◌, ◌++◌, cond, nat_lt, Option, Some, None, option_map, refl, sym, ap, subst, arith}
use Rattle.std.proofs.lemmas.Bool.Decides.{nat_tests}
use Rattle.fm_base.specs.declared.kinds.Base.{Base}
use Rattle.fm_base.specs.declared.kinds.Base.TheVariants as base
use Rattle.fm_base.specs.declared.kinds.Kind.TheVariants as kind
use Rattle.fm_base.specs.declared.kinds.TypeRef.{TypeRef}
use Rattle.fm_code.specs.declared.operations.Elem.{Elem}
use Rattle.fm_code.specs.declared.operations.Elem.TheVariants as elem
use Rattle.fm_types.specs.ArrayRows.{array_load_row, element_of, is_array_of, length_row}
use Rattle.fm_types.specs.Fits.{AreTree, depth_with, fits, fits_type}
use Rattle.fm_types.specs.States.{TypeState}
use Rattle.fm_types.specs.declared.slots.Slot.{Slot}
use Rattle.fm_types.specs.declared.slots.Slot.TheVariants as slot
use Rattle.fm_types.proofs.ArrayOrder.{array_load_row-under, length_row-under}
use Rattle.fm_types.proofs.StateOrder.{IsUnder}
use Rattle.fm_types.proofs.Zips.{Follows}
use Rattle.fm_world.specs.Descriptors.{kind_with}
use Rattle.fm_world.specs.Programs.{Outline}
use Rattle.fm_frames.specs.ArrayRows.{element_kind, element_type}
use Rattle.fm_law_sound.proofs.ArrayRows.{above_zero}
use Rattle.fm_same.proofs.ArrayRows.{cond_no}

-- an array below an index, and only an array
abbrev loading : TypeRef → TypeState
loading t = record { locals = []; stack = slot.Int ∷ slot.Ref t ∷ []; built = true }

abbrev measuring : TypeRef → TypeState
measuring t = record { locals = []; stack = slot.Ref t ∷ []; built = true }

-- the states where these slots are on the stack, if it passes
abbrev given_if : Bool → List Slot → Option TypeState
given_if b slots = cond b (Some (record { locals = []; stack = slots; built = true })) None

loads : (o : Outline) (e : Elem) (t : TypeRef) (b : Bool) → is_array_of e t ≡ b → array_load_row o e (loading t) ≡ given_if b (element_of e t ++ [])
unfolding array_load_row fits
loads o e t true is = ap (λ b. loaded_if b) is where
  loaded_if : Bool → Option TypeState
  loaded_if b = option_map (λ slots. record { locals = []; stack = slots ++ []; built = true }) (cond b (Some (element_of e t)) None)
loads o e t false is = ap (λ b. loaded_if b) is where
  loaded_if : Bool → Option TypeState
  loaded_if b = option_map (λ slots. record { locals = []; stack = slots ++ []; built = true }) (cond b (Some (element_of e t)) None)

measures : (o : Outline) (t : TypeRef) (b : Bool) → nat_lt 0 t.dims ≡ b → length_row o (measuring t) ≡ given_if b (slot.Int ∷ [])
unfolding length_row
measures o t true is = ap (λ b. measured_if b) is where
  measured_if : Bool → Option TypeState
  measured_if b = option_map (λ slots. record { locals = []; stack = slots ++ []; built = true }) (cond b (Some (slot.Int ∷ [])) None)
measures o t false is = ap (λ b. measured_if b) is where
  measured_if : Bool → Option TypeState
  measured_if b = option_map (λ slots. record { locals = []; stack = slots ++ []; built = true }) (cond b (Some (slot.Int ∷ [])) None)

module _ (o : Outline) (tree : AreTree o.classes) (a t : TypeRef) (f : fits_type o.classes a t ≡ true) where
  loading_under : IsUnder o (loading a) (loading t)
  unfolding fits
  loading_under = record {
    locals = tt;
    stack = record { level = (record { fitting = refl; shape = refl }, (record { fitting = f; shape = refl }, tt)); whole = refl };
    built = λ is. is;
  }

  measuring_under : IsUnder o (measuring a) (measuring t)
  unfolding fits
  measuring_under = record {
    locals = tt;
    stack = record { level = (record { fitting = f; shape = refl }, tt); whole = refl };
    built = λ is. is;
  }

  passes_too : (b : Bool) (slots others : List Slot) → Follows (IsUnder o) (given_if b slots) (given_if true others) → b ≡ true
  passes_too true slots others h = refl
  passes_too false slots others h = absurd h

  loads_follow : (e : Elem) → is_array_of e t ≡ true
      → Follows (IsUnder o) (given_if (is_array_of e a) (element_of e a ++ [])) (given_if true (element_of e t ++ []))
  loads_follow e is =
      subst (λ x. Follows (IsUnder o) x (given_if true (element_of e t ++ []))) (loads o e a (is_array_of e a) refl)
      (subst (λ y. Follows (IsUnder o) (array_load_row o e (loading a)) y) (loads o e t true is)
      (array_load_row-under o tree e (loading a) (loading t) loading_under))

  -- what fits an array of such elements is one
  pub array_fits : (e : Elem) → is_array_of e t ≡ true → is_array_of e a ≡ true
  array_fits e is = passes_too (is_array_of e a) (element_of e a ++ []) (element_of e t ++ []) (loads_follow e is)

  -- and its elements fit those of the other one
  pub element_fits : is_array_of elem.Ref t ≡ true → fits_type o.classes (element_type a) (element_type t) ≡ true
  unfolding fits
  element_fits is =
      let under : IsUnder o (record { locals = []; stack = element_of elem.Ref a ++ []; built = true })
      (record { locals = []; stack = element_of elem.Ref t ++ []; built = true }) =
      subst (λ b. Follows (IsUnder o) (given_if b (element_of elem.Ref a ++ [])) (given_if true (element_of elem.Ref t ++ []))) (array_fits elem.Ref is)
      (loads_follow elem.Ref is) in
      under.stack.level.0.fitting

  -- what fits an array has dimensions
  pub dimensions_fit : nat_lt 0 t.dims ≡ true → nat_lt 0 a.dims ≡ true
  dimensions_fit is =
      passes_too (nat_lt 0 a.dims) (slot.Int ∷ []) (slot.Int ∷ [])
      (subst (λ x. Follows (IsUnder o) x (given_if true (slot.Int ∷ []))) (measures o a (nat_lt 0 a.dims) refl)
      (subst (λ y. Follows (IsUnder o) (length_row o (measuring a)) y) (measures o t true is)
      (length_row-under o tree (measuring a) (measuring t) measuring_under)))

-- ---- the kind of elements

class_kind : (test : Bool) (dims : ℕ) (b : Base) → (test ≡ true → dims ≡ 0)
    → cond test (kind.Ref (record { dims = 0; base = b })) (kind.Ref (record { dims = dims; base = b })) ≡ kind.Ref (record { dims = dims; base = b })
class_kind true dims b none = ap (λ n. kind.Ref (record { dims = n; base = b })) (sym (none refl))
class_kind false dims b none = refl

no_dims : (n : ℕ) → (n == 0) ≡ true → n ≡ 0
no_dims n is = grind (arith, nat_tests, is)

-- an array with some depth has references to what its elements are
kind_of_elements : (dims : ℕ) (b : Base) → nat_lt 0 (depth_with dims b) ≡ true → kind_with (dims - 1) b ≡ kind.Ref (record { dims = dims - 1; base = b })
kind_of_elements dims (base.OfClass class) is = class_kind ((dims - 1) == 0) (dims - 1) (base.OfClass class) (no_dims (dims - 1))
kind_of_elements dims base.Boolean is = cond_no ((dims - 1) == 0) _ _ (above_zero (dims - 1) is)
kind_of_elements dims base.Byte is = cond_no ((dims - 1) == 0) _ _ (above_zero (dims - 1) is)
kind_of_elements dims base.Char is = cond_no ((dims - 1) == 0) _ _ (above_zero (dims - 1) is)
kind_of_elements dims base.Short is = cond_no ((dims - 1) == 0) _ _ (above_zero (dims - 1) is)
kind_of_elements dims base.Int is = cond_no ((dims - 1) == 0) _ _ (above_zero (dims - 1) is)
kind_of_elements dims base.Long is = cond_no ((dims - 1) == 0) _ _ (above_zero (dims - 1) is)

pub element_kind-is : (t : TypeRef) → is_array_of elem.Ref t ≡ true → element_kind t ≡ kind.Ref (element_type t)
element_kind-is t is = kind_of_elements t.dims t.base is
