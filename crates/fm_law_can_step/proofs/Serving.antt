-- What built-in methods require of all that frames share.
use Rattle.std.proofs.Common.{◌≡◌, ℕ, ◌^◌, ◌<◌, ◌-◌, ◌==◌, ◌⊎◌, inl, inr, Bool, false, true, cond, Some, refl, sym, ◌∙◌, ap, slice_get, arith}
use Rattle.std.specs.List.{All}
use Rattle.std.proofs.lemmas.Bool.{eqb-true, or_cases}
use Rattle.std.proofs.lemmas.List.Elements.{All-from_recursion}
use Rattle.std.proofs.lemmas.Option.{same_Some, slice_get-get_or}
use Rattle.fm_base.specs.declared.kinds.Base.{Base}
use Rattle.fm_base.specs.declared.kinds.Base.TheVariants as base
use Rattle.fm_base.specs.declared.kinds.Kind.TheVariants as kind
use Rattle.fm_base.specs.declared.kinds.TypeRef.{TypeRef}
use Rattle.fm_cells.specs.Objects.{Object}
use Rattle.fm_cells.specs.Stores.{object_at}
use Rattle.fm_frames.specs.ArrayRows.{element_kind}
use Rattle.fm_frames.specs.Elements.{is_text_type, pack_of, pack_of_base, shows_units}
use Rattle.fm_frames.specs.NativeRows.{text_kind, text_type, type_name}
use Rattle.fm_frames.specs.Sights.{type_numbered}
use Rattle.fm_frames.specs.States.{State}
use Rattle.fm_native.specs.Serving.{HasCellFirst, hides_text, ServesNatives}
use Rattle.fm_native.specs.Texts.{IsText}
use Rattle.fm_law_can_step.proofs.Heap.{object_short}
use Rattle.fm_law_can_step.specs.Ready.{CanRun, IsGoing}
use Rattle.fm_law_sound.proofs.HiddenFields.{text_first}
use Rattle.fm_law_sound.proofs.MadeObjects.{no_text}
use Rattle.fm_law_sound.proofs.NestedArrays.{array_kind}
use Rattle.fm_law_sound.proofs.ShownUnits.{shown_fit}
use Rattle.fm_law_sound.proofs.TextUnits.{units-each}
use Rattle.fm_law_sound.specs.Making.{HaveTextFirst, is_built, IsMakeable}
use Rattle.fm_law_sound.specs.Sound.{IsObjectIn}
use Rattle.fm_types.specs.Fits.{fits_type}
use Rattle.fm_types.specs.Named.{throwable_type}
use Rattle.fm_world.specs.Descriptors.{kind_with}
use Rattle.fm_world.specs.Numbers.{type_of_class}
use Rattle.fm_world.specs.Programs.{kind_at, Program}

-- ---- texts

held_text : (p : Program) (x : State) → CanRun p → IsGoing p x → (cell : ℕ) (object : Object) → object_at x.areas.store cell ≡ Some object
    → shows_units p.outline (type_numbered p.outline object.class) ≡ true → IsText object
held_text p x can going cell object held shows =
    let h : IsObjectIn p.outline object = going.sound.1.areas.heap cell object held in
    record {
      units = All-from_recursion (λ unit. unit < 2 ^ 16) object.elements (units-each object.elements
          (shown_fit p.outline object (type_numbered p.outline object.class) h.of_type shows));
      short = object_short p x can going cell object held;
    }

-- ---- hidden fields

base_of_reference : (b : Base) (t : TypeRef) → kind_with 0 b ≡ kind.Ref t → pack_of_base b ≡ 1
base_of_reference (base.OfClass class) t is = refl
base_of_reference base.Boolean t is = absurd (cc)
base_of_reference base.Byte t is = absurd (cc)
base_of_reference base.Char t is = absurd (cc)
base_of_reference base.Short t is = absurd (cc)
base_of_reference base.Int t is = absurd (cc)
base_of_reference base.Long t is = absurd (cc)

-- objects that have references are of whole words
reference_wide : (p : Program) → IsMakeable p → (t u : TypeRef) (place : ℕ) → kind_at p.outline.classes t place ≡ Some (kind.Ref u)
    → pack_of p.outline t ≡ 1
reference_wide p ready t u place at = by_dims (t.dims == 1) refl where
  flat : (n : ℕ) → n ≡ 0 → kind_with n t.base ≡ kind.Ref u → pack_of_base t.base ≡ 1
  flat n is same = base_of_reference t.base u (sym (ap (λ m. kind_with m t.base) is) ∙ same)

  by_dims : (b : Bool) → (t.dims == 1) ≡ b → cond b (pack_of_base t.base) (cond (is_text_type p.outline t) 4 1) ≡ 1
  by_dims true is =
      let one : t.dims ≡ 1 = eqb-true t.dims 1 is in
      flat (t.dims - 1) (omega (arith, one))
      (same_Some (element_kind t) (kind.Ref u) (sym (array_kind p.outline.classes t place (omega (arith, one))) ∙ at))
  by_dims false is = ap (λ text. cond text 4 1) (no_text p ready t place (kind.Ref u) at)

-- the text is at the first place
hidden_first : (p : Program) → CanRun p → (t : TypeRef) → hides_text p.outline t ≡ true → kind_at p.outline.classes t 0 ≡ Some (text_kind p.outline)
hidden_first p can t hides =
    by_sort (or_cases (is_built p.outline t) (fits_type p.outline.classes t (throwable_type p.outline)) hides) where
      first : HaveTextFirst p.outline
      first = text_first p can.steps.calls.runnable can.steps.tree

      by_sort : (is_built p.outline t ≡ true) ⊎ (fits_type p.outline.classes t (throwable_type p.outline) ≡ true)
          → kind_at p.outline.classes t 0 ≡ Some (text_kind p.outline)
      by_sort (inl built) = first.builders t built
      by_sort (inr fits) = first.throwables t fits

held_hidden : (p : Program) (x : State) → CanRun p → IsGoing p x → (cell : ℕ) (object : Object) → object_at x.areas.store cell ≡ Some object
    → hides_text p.outline (type_numbered p.outline object.class) ≡ true → HasCellFirst object
held_hidden p x can going cell object held hides =
    let h : IsObjectIn p.outline object = going.sound.1.areas.heap cell object held in
    let t : TypeRef = type_numbered p.outline object.class in
    let first : kind_at p.outline.classes t 0 ≡ Some (text_kind p.outline) = hidden_first p can t hides in
    record {
      wide = h.of_type.pack ∙ reference_wide p can.makes.makeable t (text_type p.outline) 0 first;
      cell = (going.cells.areas.heap cell object held).elements 0 (text_type p.outline) first;
    }

-- ---- names

held_names : (p : Program) (x : State) → CanRun p → IsGoing p x → (cell : ℕ) (object : Object) → object_at x.areas.store cell ≡ Some object
    → All (λ unit. unit < 2 ^ 16) (type_name p.outline (type_numbered p.outline object.class))
held_names p x can going cell object held =
    let h : IsObjectIn p.outline object = going.sound.1.areas.heap cell object held in
    let t : TypeRef = type_numbered p.outline object.class in
    let there : slice_get p.outline.types object.class ≡ Some t = slice_get-get_or p.outline.types object.class (type_of_class 0) h.numbered in
    All-from_recursion (λ unit. unit < 2 ^ 16) (type_name p.outline t) (can.makes.names object.class t there)

-- ---- all of it

-- what frames share serves the built-in methods
pub serves : (p : Program) (x : State) → CanRun p → IsGoing p x → ServesNatives p.outline x.areas
serves p x can going = record {
  texts = record { texts = held_text p x can going };
  hidden = record { first = held_hidden p x can going };
  names = record { units = held_names p x can going };
  literals = let all = going.sound.1.areas.literals in omega (arith, all);
  counts = record { freed = going.sound.1.areas.freed; freed_words = going.sound.1.areas.freed_words };
  packs = record { packs = λ cell object held. (going.sound.1.areas.heap cell object held).of_type.pack };
}
