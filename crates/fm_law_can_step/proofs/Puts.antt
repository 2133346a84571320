-- The values that the next instruction puts fit where it puts them.
use Rattle.std.proofs.Common.{◌≡◌, ℕ, ◌-◌, ◌^◌, ◌<◌, ◌≤◌, ◌==◌, Bool, false, true, cond, List, [], ◌∷◌, ◌++◌, take, Some, refl, sym, ◌∙◌, subst, slice_get, ◌&&◌, arith}
use Rattle.std.proofs.Math.Pow.{pow_mono}
use Rattle.std.proofs.lemmas.Bool.{eqb-true}
use Rattle.std.proofs.lemmas.List.Elements.{All-head}
use Rattle.std.proofs.lemmas.Option.{same_Some, slice_get-get_or}
use Rattle.std.specs.List.{All}
use Rattle.fm_base.proofs.OptionFacts.{option_map-some}
use Rattle.fm_base.specs.declared.ids.FieldId.{FieldId}
use Rattle.fm_base.specs.declared.ids.TypeId.{TypeId}
use Rattle.fm_base.specs.declared.kinds.Base.{Base}
use Rattle.fm_base.specs.declared.kinds.Base.TheVariants as base
use Rattle.fm_base.specs.declared.kinds.Kind.{Kind}
use Rattle.fm_base.specs.declared.kinds.Kind.TheVariants as kind
use Rattle.fm_base.specs.declared.kinds.TypeRef.{TypeRef}
use Rattle.fm_cells.proofs.Elements.{pack_at-some}
use Rattle.fm_cells.specs.Objects.{Object}
use Rattle.fm_cells.specs.Sizes.{element_bits}
use Rattle.fm_cells.specs.Stores.{object_at, pack_at}
use Rattle.fm_code.specs.declared.instructions.Insn.{Insn}
use Rattle.fm_code.specs.declared.instructions.Insn.TheVariants as insn
use Rattle.fm_code.specs.declared.operations.Elem.{Elem}
use Rattle.fm_code.specs.declared.operations.Elem.TheVariants as elem
use Rattle.fm_exec.specs.Holding.{TakesElement, TakesField}
use Rattle.fm_code.specs.StackWords.{element_words}
use Rattle.fm_frames.specs.ArrayRows.{element_kind}
use Rattle.fm_frames.specs.Elements.{int_bits, is_text_type, kept, pack_of, pack_of_base}
use Rattle.fm_frames.specs.ObjectRows.{kind_of_field}
use Rattle.fm_frames.specs.Sights.{type_numbered}
use Rattle.fm_frames.specs.States.{Frame, State, word_at}
use Rattle.fm_frames.specs.Steps.{stack_of}
use Rattle.fm_frames.specs.declared.values.Value.{Value}
use Rattle.fm_frames.specs.inner.Places.{FitsIn, IsOfKind}
use Rattle.fm_law_can_step.proofs.Heap.{field_at_place}
use Rattle.fm_law_can_step.proofs.Named.{meets, MeetsRow, use_inside}
use Rattle.fm_law_can_step.specs.Ready.{CanRun, IsGoing, IsNext}
use Rattle.fm_law_sound.proofs.ActsKeep.{kept_fits}
use Rattle.fm_law_sound.proofs.ArrayRows.{number_slots, reference_kind}
use Rattle.fm_law_sound.proofs.CellsKeep.{kept_within}
use Rattle.fm_law_sound.proofs.HeldStays.{word_within}
use Rattle.fm_law_sound.proofs.InsnActs.{elements_deep, first_int, int_kind, long_kind, second_long, stored_words, taken_below, value_has}
use Rattle.fm_law_sound.proofs.MadeObjects.{no_text}
use Rattle.fm_law_sound.proofs.NestedArrays.{array_kind}
use Rattle.fm_law_sound.proofs.ObjectRows.{row_of_field}
use Rattle.fm_law_sound.specs.HeldCells.{FrameLeadsWithin, LeadsWithin}
use Rattle.fm_law_sound.specs.Making.{IsMakeable}
use Rattle.fm_law_sound.specs.Placing.{kind_in}
use Rattle.fm_law_sound.specs.Sound.{field_slot, HasKind, HaveKinds, IsObjectIn}
use Rattle.fm_types.specs.ArrayRows as typed
use Rattle.fm_types.specs.ArrayRows.{array_store_row, has_letter, is_array_of}
use Rattle.fm_types.specs.Named.{field_words}
use Rattle.fm_types.specs.ObjectRows.{put_field_row, put_static_row, takes_field}
use Rattle.fm_types.specs.Rows.{row_after}
use Rattle.fm_types.specs.States.{stack_slots, taken, worked, worked_below}
use Rattle.fm_types.specs.declared.slots.Slot.{Slot}
use Rattle.fm_types.specs.declared.slots.Slot.TheVariants as slot
use Rattle.fm_base.specs.Kinds.{kind_words}
use Rattle.fm_world.specs.Descriptors.{kind_with}
use Rattle.fm_world.specs.Members.{slot_of}
use Rattle.fm_world.specs.Numbers.{type_of_class}
use Rattle.fm_world.specs.Programs.{kind_at, Program}
use Rattle.fm_world.specs.declared.uses.Use.{Use}
use Rattle.fm_world.specs.declared.uses.Use.TheVariants as resolved

-- ---- bits

base_bits : (b : Base) → int_bits (kind_with 0 b) ≤ element_bits (pack_of_base b)
base_bits base.Boolean = omega arith
base_bits base.Byte = omega arith
base_bits base.Char = omega arith
base_bits base.Short = omega arith
base_bits base.Int = omega arith
base_bits base.Long = omega arith
base_bits (base.OfClass class) = omega arith

most_bits : (k : Kind) → int_bits k ≤ 64
most_bits kind.Boolean = omega arith
most_bits kind.Byte = omega arith
most_bits kind.Char = omega arith
most_bits kind.Short = omega arith
most_bits kind.Int = omega arith
most_bits kind.Long = omega arith
most_bits (kind.Ref t) = omega arith

-- the elements of objects of a type have the bits of the kinds of their places
kind_bits : (p : Program) → IsMakeable p → (t : TypeRef) (place : ℕ) (k : Kind) → kind_at p.outline.classes t place ≡ Some k
    → int_bits k ≤ element_bits (pack_of p.outline t)
kind_bits p ready t place k at = by_dims (t.dims == 1) refl where
  flat : (n : ℕ) → n ≡ 0 → int_bits (kind_with n t.base) ≤ element_bits (pack_of_base t.base)
  flat n is = subst (λ m. int_bits (kind_with m t.base) ≤ element_bits (pack_of_base t.base)) (sym is) (base_bits t.base)

  by_dims : (b : Bool) → (t.dims == 1) ≡ b → int_bits k ≤ element_bits (cond b (pack_of_base t.base) (cond (is_text_type p.outline t) 4 1))
  by_dims true is =
      let one : t.dims ≡ 1 = eqb-true t.dims 1 is in
      let same : element_kind t ≡ k = same_Some (element_kind t) k (sym (array_kind p.outline.classes t place (omega (arith, one))) ∙ at) in
      subst (λ c. int_bits c ≤ element_bits (pack_of_base t.base)) same (flat (t.dims - 1) (omega (arith, one)))
  by_dims false is =
      subst (λ text. int_bits k ≤ element_bits (cond text 4 1)) (sym (no_text p ready t place k at)) (most_bits k)

-- ---- values

-- a value is kept by the bits of its kind
kept_below : (k : Kind) (v : Value) → HasKind (field_slot k) v → LeadsWithin v → kept k v < 2 ^ int_bits k
kept_below kind.Boolean v has within = kept_fits kind.Boolean v has
kept_below kind.Byte v has within = kept_fits kind.Byte v has
kept_below kind.Char v has within = kept_fits kind.Char v has
kept_below kind.Short v has within = kept_fits kind.Short v has
kept_below kind.Int v has within = kept_fits kind.Int v has
kept_below kind.Long v has within = kept_fits kind.Long v has
kept_below (kind.Ref t) v has within = kept_within t v within

-- so an element of the object can keep it
fits_in : (p : Program) (x : State) → CanRun p → IsGoing p x → (cell place : ℕ) (object : Object) (k : Kind) (v : Value)
    → object_at x.areas.store cell ≡ Some object → kind_in p.outline object place ≡ Some k → kept k v < 2 ^ int_bits k → FitsIn x.areas.store cell k v
fits_in p x can going cell place object k v held at below =
    let h : IsObjectIn p.outline object = going.sound.1.areas.heap cell object held in
    let bits = kind_bits p can.makes.makeable (type_numbered p.outline object.class) place k at in
    let more = pow_mono bits in
    let pack : pack_at x.areas.store cell ≡ pack_of p.outline (type_numbered p.outline object.class) =
    pack_at-some x.areas.store cell object held ∙ h.of_type.pack in
    subst (λ n. kept k v < 2 ^ element_bits n) (sym pack) (omega (arith, below, more))

-- the words of the topmost frame's stack
word_below : (p : Program) (x : State) (i : Insn) (u : Use) → IsGoing p x → (next : IsNext p x i u) → (n : ℕ) → LeadsWithin (word_at next.frame.stack n)
word_below p x i u going next n =
    let all : All FrameLeadsWithin (next.frame ∷ next.callers) = subst (All FrameLeadsWithin) next.frames_is going.cells.frames in
    word_within next.frame.stack (All-head FrameLeadsWithin next.frame next.callers all).stack n

-- ---- fields

field_word : (p : Program) (x : State) (i : Insn) (f : FieldId) (t : TypeId) → CanRun p → IsGoing p x → (next : IsNext p x i (resolved.OfField f t))
    → (h : MeetsRow p next.frame i (resolved.OfField f t)) → (rest : List Slot)
    → taken p.outline (field_words p.outline f.0) h.known.stack ≡ Some rest
    → let k = kind_of_field p.outline f.0 in kept k (word_at next.frame.stack (kind_words k - 1)) < 2 ^ int_bits k
field_word p x i f t can going next h rest is =
    let k : Kind = kind_of_field p.outline f.0 in
    let n : ℕ = kind_words k - 1 in
    kept_below k (word_at next.frame.stack n)
    (value_has p can.makes.makeable x.areas.store next.frame h.known h.kinds h.whole h.after k rest is)
    (word_below p x i (resolved.OfField f t) going next n)

-- the type that the instruction names
named_there : (p : Program) (x : State) (i : Insn) (f : FieldId) (t : TypeId) → CanRun p → IsNext p x i (resolved.OfField f t)
    → slice_get p.outline.types t.0 ≡ Some (type_numbered p.outline t.0)
named_there p x i f t can next =
    let inside = use_inside p x i (resolved.OfField f t) can next in slice_get-get_or p.outline.types t.0 (type_of_class 0) inside.1

put_field_word : (p : Program) (x : State) (index : ℕ) (f : FieldId) (t : TypeId) → CanRun p → IsGoing p x
    → (next : IsNext p x (insn.PutField index) (resolved.OfField f t))
    → let k = kind_of_field p.outline f.0 in kept k (word_at next.frame.stack (kind_words k - 1)) < 2 ^ int_bits k
unfolding row_after put_field_row
put_field_word p x index f t can going next =
    let h : MeetsRow p next.frame (insn.PutField index) (resolved.OfField f t) = meets p x (insn.PutField index) (resolved.OfField f t) going next in
    let below = taken_below p can.makes.makeable x.areas.store next.frame h.known h.kinds h.whole h.after (field_words p.outline f.0)
    (takes_field p.outline next.frame.method f.0 (type_numbered p.outline t.0))
    (row_of_field p.outline (resolved.OfField f t)
    (λ field named. worked_below p.outline (field_words p.outline field) (takes_field p.outline next.frame.method field named) h.known)
    f t (type_numbered p.outline t.0) h.after refl (named_there p x (insn.PutField index) f t can next) h.row) in
    field_word p x (insn.PutField index) f t can going next h below.0 below.1

-- the field that putfield names can keep the value (JVMS 6.5.putfield)
pub takes_field_value : (p : Program) (x : State) (index : ℕ) (f : FieldId) (t : TypeId) → CanRun p → IsGoing p x
    → IsNext p x (insn.PutField index) (resolved.OfField f t) → TakesField p x f.0 t.0
takes_field_value p x index f t can going next =
    subst (λ (frames : List Frame). TakesField p (record x { frames = frames }) f.0 t.0) (sym next.frames_is)
    (λ cell object is fits.
    let k : Kind = kind_of_field p.outline f.0 in
    fits_in p x can going cell (slot_of p.outline.classes f.0) object k (word_at next.frame.stack (kind_words k - 1)) is.1
    (field_at_place p x (insn.PutField index) f t can next refl (type_numbered p.outline object.class) fits)
    (put_field_word p x index f t can going next))

put_static_word : (p : Program) (x : State) (index : ℕ) (f : FieldId) (t : TypeId) → CanRun p → IsGoing p x
    → (next : IsNext p x (insn.PutStatic index) (resolved.OfField f t))
    → let k = kind_of_field p.outline f.0 in kept k (word_at next.frame.stack (kind_words k - 1)) < 2 ^ int_bits k
unfolding row_after put_static_row
put_static_word p x index f t can going next =
    let h : MeetsRow p next.frame (insn.PutStatic index) (resolved.OfField f t) = meets p x (insn.PutStatic index) (resolved.OfField f t) going next in
    let row = row_of_field p.outline (resolved.OfField f t) (λ field named. worked p.outline (field_words p.outline field) [] h.known)
    f t (type_numbered p.outline t.0) h.after refl (named_there p x (insn.PutStatic index) f t can next) h.row in
    let found = option_map-some (λ (stack : List Slot). record h.known { stack = [] ++ stack })
    (taken p.outline (field_words p.outline f.0) h.known.stack) h.after row in
    field_word p x (insn.PutStatic index) f t can going next h found.0 found.1

-- the static field that putstatic names can keep the value (JVMS 6.5.putstatic)
pub keeps_static : (p : Program) (x : State) (index : ℕ) (f : FieldId) (t : TypeId) → CanRun p → IsGoing p x
    → IsNext p x (insn.PutStatic index) (resolved.OfField f t)
    → let k = kind_of_field p.outline f.0 in IsOfKind k (kept k (word_at (stack_of x) (kind_words k - 1)))
keeps_static p x index f t can going next =
    let k : Kind = kind_of_field p.outline f.0 in
    subst (λ (frames : List Frame). IsOfKind k (kept k (word_at (stack_of (record x { frames = frames })) (kind_words k - 1)))) (sym next.frames_is)
    (put_static_word p x index f t can going next)

-- ---- elements

module _ (p : Program) (x : State) (e : Elem) (u : Use) (can : CanRun p) (going : IsGoing p x) (next : IsNext p x (insn.ArrayStore e) u) where
  h : MeetsRow p next.frame (insn.ArrayStore e) u
  h = meets p x (insn.ArrayStore e) u going next

  stored_row : array_store_row p.outline e h.known ≡ Some h.after
  unfolding row_after
  stored_row = h.row

  within : (n : ℕ) → LeadsWithin (word_at next.frame.stack n)
  within n = word_below p x (insn.ArrayStore e) u going next n

  int_kept : (t : TypeRef) → ((t.dims == 1) && has_letter e t.base) ≡ true → typed.element_words e ≡ slot.Int ∷ []
      → HaveKinds (slot.Int ∷ slot.Int ∷ []) (take 2 next.frame.stack) → kept (element_kind t) (word_at next.frame.stack 0) < 2 ^ int_bits (element_kind t)
  int_kept t passes is have =
      kept_below (element_kind t) (word_at next.frame.stack 0)
      (int_kind (element_kind t) (word_at next.frame.stack 0) (number_slots e t.dims t.base passes ∙ is) (first_int next.frame.stack have)) (within 0)

  long_kept : (t : TypeRef) → stack_slots (element_kind t ∷ []) ≡ slot.Top ∷ slot.Long ∷ []
      → HaveKinds (slot.Top ∷ slot.Long ∷ slot.Int ∷ []) (take 3 next.frame.stack)
      → kept (element_kind t) (word_at next.frame.stack 1) < 2 ^ int_bits (element_kind t)
  long_kept t is have =
      kept_below (element_kind t) (word_at next.frame.stack 1)
      (long_kind (element_kind t) (word_at next.frame.stack 1) is (second_long next.frame.stack have)) (within 1)

  reference_kept : (t : TypeRef) → is_array_of elem.Ref t ≡ true → kept (element_kind t) (word_at next.frame.stack 0) < 2 ^ int_bits (element_kind t)
  reference_kept t passes =
      let found = reference_kind t.dims t.base passes in
      subst (λ k. kept k (word_at next.frame.stack 0) < 2 ^ int_bits k) (sym found.1) (kept_within found.0 (word_at next.frame.stack 0) (within 0))

-- the value on the stack is kept by the bits of the array's elements
element_kept : (p : Program) (x : State) (e : Elem) (u : Use) (can : CanRun p) (going : IsGoing p x) (next : IsNext p x (insn.ArrayStore e) u) (t : TypeRef)
    → is_array_of e t ≡ true → kept (element_kind t) (word_at next.frame.stack (element_words e - 1)) < 2 ^ int_bits (element_kind t)
element_kept p x elem.Boolean u can going next t passes =
    let m = h p x elem.Boolean u can going next in
    int_kept p x elem.Boolean u can going next t passes refl
    (stored_words p can.makes.makeable x.areas.store next.frame m.known m.kinds m.whole m.after elem.Boolean refl (stored_row p x elem.Boolean u can going next))
element_kept p x elem.Byte u can going next t passes =
    let m = h p x elem.Byte u can going next in
    int_kept p x elem.Byte u can going next t passes refl
    (stored_words p can.makes.makeable x.areas.store next.frame m.known m.kinds m.whole m.after elem.Byte refl (stored_row p x elem.Byte u can going next))
element_kept p x elem.Char u can going next t passes =
    let m = h p x elem.Char u can going next in
    int_kept p x elem.Char u can going next t passes refl
    (stored_words p can.makes.makeable x.areas.store next.frame m.known m.kinds m.whole m.after elem.Char refl (stored_row p x elem.Char u can going next))
element_kept p x elem.Short u can going next t passes =
    let m = h p x elem.Short u can going next in
    int_kept p x elem.Short u can going next t passes refl
    (stored_words p can.makes.makeable x.areas.store next.frame m.known m.kinds m.whole m.after elem.Short refl (stored_row p x elem.Short u can going next))
element_kept p x elem.Int u can going next t passes =
    let m = h p x elem.Int u can going next in
    int_kept p x elem.Int u can going next t passes refl
    (stored_words p can.makes.makeable x.areas.store next.frame m.known m.kinds m.whole m.after elem.Int refl (stored_row p x elem.Int u can going next))
element_kept p x elem.Long u can going next t passes =
    let m = h p x elem.Long u can going next in
    long_kept p x elem.Long u can going next t (number_slots elem.Long t.dims t.base passes)
    (stored_words p can.makes.makeable x.areas.store next.frame m.known m.kinds m.whole m.after elem.Long refl (stored_row p x elem.Long u can going next))
element_kept p x elem.Ref u can going next t passes = reference_kept p x elem.Ref u can going next t passes

-- the array can keep the value that is stored (JVMS 6.5.iastore and its like)
pub takes_element : (p : Program) (x : State) (e : Elem) (u : Use) → CanRun p → IsGoing p x → IsNext p x (insn.ArrayStore e) u → TakesElement p x e
takes_element p x e u can going next =
    subst (λ (frames : List Frame). TakesElement p (record x { frames = frames }) e) (sym next.frames_is)
    (λ cell object is passes.
    let t : TypeRef = type_numbered p.outline object.class in
    fits_in p x can going cell 0 object (element_kind t) (word_at next.frame.stack (element_words e - 1)) is.1
    (array_kind p.outline.classes t 0 (elements_deep e t passes)) (element_kept p x e u can going next t passes))
