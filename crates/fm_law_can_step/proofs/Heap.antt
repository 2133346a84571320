-- What the objects that are held have at their places.
use Rattle.std.proofs.Common.{◌≡◌, ℕ, ◌^◌, ◌<◌, false, true, length, Some, refl, sym, subst, slice_get}
use Rattle.std.specs.List.{slice_index_or}
use Rattle.std.proofs.lemmas.Option.{slice_get-get_or}
use Rattle.fm_base.specs.declared.ids.FieldId.{FieldId}
use Rattle.fm_base.specs.declared.ids.TypeId.{TypeId}
use Rattle.fm_base.specs.declared.kinds.Kind.{Kind}
use Rattle.fm_base.specs.declared.kinds.Kind.TheVariants as kind
use Rattle.fm_base.specs.declared.kinds.TypeRef.{TypeRef}
use Rattle.fm_cells.proofs.Elements.{elements_at-some}
use Rattle.fm_cells.specs.Objects.{Object}
use Rattle.fm_cells.specs.Stores.{object_at}
use Rattle.fm_code.specs.declared.instructions.Insn.{Insn}
use Rattle.fm_code.specs.declared.instructions.Insn.TheVariants as insn
use Rattle.fm_code.specs.declared.operations.Elem.{Elem}
use Rattle.fm_exec.specs.Holding.{HoldsElements, HoldsField, HoldsLength}
use Rattle.fm_frames.specs.ArrayRows.{element_kind}
use Rattle.fm_frames.specs.Elements.{is_text_type}
use Rattle.fm_frames.specs.ObjectRows.{kind_of_field}
use Rattle.fm_frames.specs.Sights.{type_numbered}
use Rattle.fm_frames.specs.States.{State}
use Rattle.fm_frames.specs.inner.Places.{element_at, IsOfKind}
use Rattle.fm_law_can_step.proofs.Named.{named_at, use_inside}
use Rattle.fm_law_can_step.specs.Ready.{CanRun, IsGoing, IsNext}
use Rattle.fm_law_sound.proofs.Counts.{length_below}
use Rattle.fm_law_sound.proofs.InsnActs.{elements_deep}
use Rattle.fm_law_sound.proofs.NestedArrays.{array_kind}
use Rattle.fm_law_sound.specs.Placing.{kind_in}
use Rattle.fm_law_sound.specs.Sound.{ElementFits, IsObjectIn}
use Rattle.fm_types.specs.Fits.{fits_type}
use Rattle.fm_world.specs.Causes.{static_field_wanted}
use Rattle.fm_world.specs.Members.{slot_of}
use Rattle.fm_world.specs.Numbers.{type_of_class}
use Rattle.fm_world.specs.Programs.{class_of_type, kind_at, Program}
use Rattle.fm_world.specs.declared.uses.Use.TheVariants as resolved

-- no object has too many elements
pub object_short : (p : Program) (x : State) → CanRun p → IsGoing p x → (cell : ℕ) (object : Object) → object_at x.areas.store cell ≡ Some object
    → length object.elements < 2 ^ 31
object_short p x can going cell object held =
    let h : IsObjectIn p.outline object = going.sound.1.areas.heap cell object held in
    let t : TypeRef = type_numbered p.outline object.class in
    length_below p.outline can.steps.calls.runnable.sizes (is_text_type p.outline t) (class_of_type t) (length object.elements) h.of_type.len

-- the length of each array is an int
pub holds_length : (p : Program) (x : State) → CanRun p → IsGoing p x → HoldsLength p x
holds_length p x can going = λ cell object is deep. object_short p x can going cell object is.1

-- an element is a number of the kind of its place, also where it is a reference
pub element_fits : (p : Program) (x : State) → IsGoing p x → (cell place : ℕ) (object : Object) (k : Kind) → object_at x.areas.store cell ≡ Some object
    → kind_in p.outline object place ≡ Some k → IsOfKind k (element_at x.areas.store cell place)
element_fits p x going cell place object k held at =
    subst (λ all. IsOfKind k (slice_index_or all place 0)) (sym (elements_at-some x.areas.store cell object held))
    (by_kind k at ((going.sound.1.areas.heap cell object held).of_type.elements place k at)) where
      by_kind : (k : Kind) → kind_in p.outline object place ≡ Some k → ElementFits k (slice_index_or object.elements place 0)
          → IsOfKind k (slice_index_or object.elements place 0)
      by_kind kind.Boolean at fits = fits
      by_kind kind.Byte at fits = fits
      by_kind kind.Char at fits = fits
      by_kind kind.Short at fits = fits
      by_kind kind.Int at fits = fits
      by_kind kind.Long at fits = fits
      by_kind (kind.Ref t) at fits = (going.cells.areas.heap cell object held).elements place t at

-- of an array each element is a number of its kind
pub holds_elements : (p : Program) (x : State) (e : Elem) → CanRun p → IsGoing p x → HoldsElements p x e
holds_elements p x e can going = λ cell place object is array.
    let t : TypeRef = type_numbered p.outline object.class in
    element_fits p x going cell place object (element_kind t) is.1 (array_kind p.outline.classes t place (elements_deep e t array))

-- an object that has the field which an instruction names has it at its place
pub field_at_place : (p : Program) (x : State) (i : Insn) (f : FieldId) (t : TypeId) → CanRun p → IsNext p x i (resolved.OfField f t)
    → static_field_wanted i ≡ Some false → (of : TypeRef) → fits_type p.outline.classes of (type_numbered p.outline t.0) ≡ true
    → kind_at p.outline.classes of (slot_of p.outline.classes f.0) ≡ Some (kind_of_field p.outline f.0)
field_at_place p x i f t can next wants of fits =
    let inside = use_inside p x i (resolved.OfField f t) can next in
    let there : slice_get p.outline.types t.0 ≡ Some (type_numbered p.outline t.0) =
    slice_get-get_or p.outline.types t.0 (type_of_class 0) inside.1 in
    can.steps.places next.frame.method i f t (type_numbered p.outline t.0) of (named_at p x i (resolved.OfField f t) next) wants there fits

-- the field that getfield names is a number of its kind (JVMS 6.5.getfield)
pub holds_field : (p : Program) (x : State) (index : ℕ) (f : FieldId) (t : TypeId) → CanRun p → IsGoing p x
    → IsNext p x (insn.GetField index) (resolved.OfField f t) → HoldsField p x f.0 t.0
holds_field p x index f t can going next = λ cell object is fits.
    element_fits p x going cell (slot_of p.outline.classes f.0) object (kind_of_field p.outline f.0) is.1
    (field_at_place p x (insn.GetField index) f t can next refl (type_numbered p.outline object.class) fits)
