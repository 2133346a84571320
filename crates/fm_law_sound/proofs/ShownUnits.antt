-- The elements that are seen as units are those of chars.
use Rattle.std.proofs.Common.{◌≡◌, ℕ, ◌^◌, ◌<◌, true, Some, refl, subst, slice_index_or, ⊎_elim}
use Rattle.std.proofs.lemmas.Bool.{or_cases}
use Rattle.fm_base.specs.declared.kinds.Kind.TheVariants as kind
use Rattle.fm_base.specs.declared.kinds.TypeRef.{TypeRef}
use Rattle.fm_cells.specs.Objects.{Object}
use Rattle.fm_types.proofs.LeastJoins.{same_type-eq}
use Rattle.fm_world.specs.Chains.{same_type}
use Rattle.fm_world.specs.Programs.{kind_at, Outline}
use Rattle.fm_frames.specs.Elements.{chars_type, is_text_type, shows_units}
use Rattle.fm_law_sound.specs.Sound.{IsObjectOf}

-- the places of an array of chars are of that kind
pub chars_kind : (o : Outline) (t : TypeRef) (place : ℕ) → same_type chars_type t ≡ true → kind_at o.classes t place ≡ Some kind.Char
chars_kind o t place same = subst (λ u. kind_at o.classes u place ≡ Some kind.Char) (same_type-eq chars_type t same) refl

pub shown_fit : (o : Outline) (object : Object) (t : TypeRef) → IsObjectOf o object t → shows_units o t ≡ true → (place : ℕ)
    → slice_index_or object.elements place 0 < 2 ^ 16
shown_fit o object t h shows place =
    ⊎_elim (λ text. h.units text place) (λ chars. h.elements place kind.Char (chars_kind o t place chars))
    (or_cases (is_text_type o t) (same_type chars_type t) shows)
