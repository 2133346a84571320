-- The rows of objects, fields and casts lead where the checker's rows do.
use Rattle.std.proofs.Common.{◌≡◌, ℕ, zero, suc, ◌+◌, ◌-◌, ◌<◌, ◌==◌, ◌&&◌, not, Bool, true, false, List, [], ◌∷◌, ◌++◌, length, take, cond, codes, Option, Some, None, option_and_then, refl, sym, ◌∙◌, ap, subst, slice_get, slice_index_or, pos, arith}
use Rattle.std.specs.List.{count_by, flat_map, list_any}
use Rattle.std.proofs.lemmas.Bool.{false≢true}
use Rattle.std.proofs.lemmas.List.Sums.{sum_by-cons}
use Rattle.std.proofs.lemmas.Option.{same_Some, slice_get-get_or}
use Rattle.fm_base.proofs.OptionFacts.{cond-some_then, option_map-some}
use Rattle.fm_base.specs.declared.ids.FieldId.{FieldId}
use Rattle.fm_base.specs.declared.ids.TypeId.{TypeId}
use Rattle.fm_base.specs.declared.kinds.TypeRef.{TypeRef}
use Rattle.fm_code.specs.AccessFlags.{is_static}
use Rattle.fm_code.specs.declared.instructions.Insn.TheVariants as insn
use Rattle.fm_types.specs.Named as typed
use Rattle.fm_types.specs.Named.{field_words, object_slot}
use Rattle.fm_types.specs.ObjectRows.{cast_row, get_field_row, get_static_row, has_objects, is_a_row, new_row, put_field_row, put_static_row, takes_field}
use Rattle.fm_types.specs.States.{is_uninit, replaced, taken, TypeState, worked}
use Rattle.fm_types.specs.declared.slots.Slot.{Slot}
use Rattle.fm_types.specs.declared.slots.Slot.TheVariants as slot
use Rattle.fm_world.specs.Chains.{is_sub}
use Rattle.fm_world.specs.Declarations.{no_field}
use Rattle.fm_base.specs.Kinds.{kind_words}
use Rattle.fm_world.specs.Members.{field_at, field_kind, fields_of, first_field, instance_slot, OwnedField, slot_of, static_slot}
use Rattle.fm_world.specs.Programs.{class_of_type, Outline}
use Rattle.fm_world.specs.declared.uses.Use.{Use}
use Rattle.fm_world.specs.declared.uses.Use.TheVariants as resolved
use Rattle.std.specs.Prelude.{if◌then◌else◌}
use Rattle.fm_frames.specs.Effects.{acting, int_word, loaded, OfOperand, OfPlace, OfStatic, Put, SetStatic, words}
use Rattle.fm_frames.specs.ObjectRows.{cast_effect, class_of_field, get_field_effect, get_static_effect, is_a_effect, kind_of_field, made_of, new_effect, put_field_effect, put_static_effect, starting}
use Rattle.fm_frames.specs.Operands.{thrown}
use Rattle.fm_frames.specs.Sights.{Sight}
use Rattle.fm_frames.specs.States.{Frame, ref, word_at}
use Rattle.fm_frames.specs.declared.values.Value.{Value}
use Rattle.fm_law_sound.specs.Leading.{LeavesAs, NamesField, sources_of}
use Rattle.fm_law_sound.specs.Sound.{field_slot, FrameHasKinds, HasKind, HaveKinds, LocalHasKind, static_slots}
use Rattle.fm_law_sound.proofs.Cases.{by_held, by_if, by_object, by_on_field, by_on_type}
use Rattle.fm_law_sound.proofs.FramesLeft as left
use Rattle.fm_law_sound.proofs.FramesLeft.{related_at}
use Rattle.fm_law_sound.proofs.Leaving.{kinds_before, kinds_left, kind_slots, leaves_stack, loaded_gives, pushed_leaves, read_kind, reference_taken, worked_below_leaves, worked_leaves}
use Rattle.fm_law_sound.proofs.NumberRows.{int_gives, Leads, thrown_leads}
use Rattle.fm_law_sound.specs.BuiltIns.{GivesSlots}

-- ---- what an instruction names, for the checker as for the machine

pub row_of_type : (o : Outline) (u : Use) (follows : TypeRef → Option TypeState) (n : TypeId) (t : TypeRef) (after : TypeState)
    → u ≡ resolved.OfType n → slice_get o.types n.0 ≡ Some t → typed.on_type o u follows ≡ Some after → follows t ≡ Some after
row_of_type o u follows n t after is at row = sym (ap (λ w. typed.on_type o w follows) is ∙ ap (option_and_then follows) at) ∙ row

pub row_of_field : (o : Outline) (u : Use) (follows : ℕ → TypeRef → Option TypeState) (g : FieldId) (n : TypeId) (t : TypeRef) (after : TypeState)
    → u ≡ resolved.OfField g n → slice_get o.types n.0 ≡ Some t → typed.on_field o u follows ≡ Some after → follows g.0 t ≡ Some after
row_of_field o u follows g n t after is at row = sym (ap (λ w. typed.on_field o w follows) is ∙ ap (option_and_then (follows g.0)) at) ∙ row

-- ---- static fields

abbrev slots_of_field : Outline → OwnedField → List Slot
slots_of_field o g = cond (is_static g.field.flags) (field_slot (field_kind o.classes g.field) ∷ []) []

abbrev is_static_field : OwnedField → Bool
is_static_field g = is_static g.field.flags

one_before : (b : Bool) (s : Slot) (slots : List Slot) (n : ℕ) → slice_get (cond b (s ∷ []) [] ++ slots) (cond b 1 0 + n) ≡ slice_get slots n
one_before true s slots n = let next : 1 + n ≡ suc n = omega arith in ap (λ k. slice_get (s ∷ slots) k) next
one_before false s slots n = let same : 0 + n ≡ n = omega arith in ap (λ k. slice_get slots k) same

first_static : (b : Bool) (s : Slot) (slots : List Slot) → b ≡ true → slice_get (cond b (s ∷ []) [] ++ slots) 0 ≡ Some s
first_static true s slots is = refl
first_static false s slots is = absurd (false≢true is)

static_found : (o : Outline) (fields : List OwnedField) (k : ℕ) (g : OwnedField) → slice_get fields k ≡ Some g → is_static g.field.flags ≡ true
    → slice_get (flat_map (slots_of_field o) fields) (count_by is_static_field (take k fields)) ≡ Some (field_slot (field_kind o.classes g.field))
static_found o [] k g at is = absurd (cc)
static_found o (x ∷ fields) zero g at is =
    let same : x ≡ g = same_Some x g at in
    first_static (is_static x.field.flags) (field_slot (field_kind o.classes x.field)) (flat_map (slots_of_field o) fields)
    (ap (λ (y : OwnedField). is_static y.field.flags) same ∙ is)
    ∙ ap (λ (y : OwnedField). Some (field_slot (field_kind o.classes y.field))) same
static_found o (x ∷ fields) (suc k) g at is =
    ap (λ n. slice_get (flat_map (slots_of_field o) (x ∷ fields)) n) (sum_by-cons (λ y. cond (is_static_field y) 1 0) x (take k fields))
    ∙ one_before (is_static x.field.flags) (field_slot (field_kind o.classes x.field)) (flat_map (slots_of_field o) fields)
    (count_by is_static_field (take k fields))
    ∙ static_found o fields k g at is

-- the slot of a static field among those of all classes
pub static_slot_at : (o : Outline) (g : ℕ) → g < length (fields_of o.classes) → is_static (field_at o.classes g).field.flags ≡ true
    → slice_get (static_slots o) (slot_of o.classes g) ≡ Some (field_slot (kind_of_field o g))
unfolding slot_of
static_slot_at o g within is =
    ap (λ b. slice_get (static_slots o) (cond b (static_slot o.classes g) (instance_slot o.classes (field_at o.classes g).class (g - first_field o.classes (field_at o.classes g).class)))) is
    ∙ static_found o (fields_of o.classes) g (field_at o.classes g) (slice_get-get_or (fields_of o.classes) g (record { class = 0; field = no_field }) within) is

pub static_kind : (o : Outline) (g : ℕ) (statics : List Value) → g < length (fields_of o.classes) → is_static (field_at o.classes g).field.flags ≡ true
    → HaveKinds (static_slots o) statics → HasKind (field_slot (kind_of_field o g)) (word_at statics (slot_of o.classes g))
static_kind o g statics within is h = related_at HasKind (static_slots o) statics (slot_of o.classes g) (field_slot (kind_of_field o g)) h (static_slot_at o g within is)

-- ---- locals that lose what they knew

module _ (o : Outline) (s : TypeState) (f : Frame) (h : FrameHasKinds s f.locals f.stack) (after : TypeState) where
  new_leaves : (item class : ℕ) (t : TypeRef)
      → cond ((t.dims == 0) && has_objects o.classes t.base && not (list_any (is_uninit item) s.stack))
      (Some (record s { locals = replaced (is_uninit item) slot.Top s.locals; stack = slot.Uninit item ∷ s.stack })) None ≡ Some after
      → LeavesAs o after f (made_of o t (Some class))
  new_leaves item class t row areas made statics =
      kinds_left o s f h _ _ _
      (left.new_leaves LocalHasKind HasKind s after (sources_of f areas made) (kinds_before o s f h) (λ v. tt) item _ (ref (slice_index_or made 0 0)) row tt)

  made_leads : (index item : ℕ) (t : TypeRef) (class : Option ℕ)
      → cond ((t.dims == 0) && has_objects o.classes t.base && not (list_any (is_uninit item) s.stack))
      (Some (record s { locals = replaced (is_uninit item) slot.Top s.locals; stack = slot.Uninit item ∷ s.stack })) None ≡ Some after
      → Leads o s f h after (insn.New index) (made_of o t class)
  made_leads index item t None row = tt
  made_leads index item t (Some class) row = (refl, new_leaves item class t row)

  pub new_leads : (index item : ℕ) (u : Use) → new_row o item u s ≡ Some after → Leads o s f h after (insn.New index) (new_effect o u)
  unfolding new_row new_effect
  new_leads index item u row =
      by_on_type (Leads o s f h after (insn.New index)) o u _ tt
      (λ n t is at. made_leads index item t (class_of_type t) (row_of_type o u _ n t after is at row))

  -- ---- fields

  pub get_static_leads : (index : ℕ) (u : Use) → NamesField o u (insn.GetStatic index) → get_static_row o u s ≡ Some after
      → Leads o s f h after (insn.GetStatic index) (get_static_effect o u)
  unfolding get_static_row get_static_effect
  get_static_leads index u names row =
      by_on_field (Leads o s f h after (insn.GetStatic index)) o u _ tt
      (λ g n t is at.
      let named : NamesField o (resolved.OfField g n) (insn.GetStatic index) = subst (λ w. NamesField o w (insn.GetStatic index)) is names in (
        refl,
        pushed_leaves o s f h (field_words o g.0) after
            (starting (class_of_field o g.0) (words 0 (loaded (kind_of_field o g.0) (OfStatic (slot_of o.classes g.0)))))
            (row_of_field o u _ g n t after is at row) refl refl
            (loaded_gives o f (kind_of_field o g.0) (OfStatic (slot_of o.classes g.0))
            (λ areas made statics. static_kind o g.0 areas.statics named.0 named.1 statics)),
      ))

  pub put_static_leads : (index : ℕ) (u : Use) → put_static_row o u s ≡ Some after
      → Leads o s f h after (insn.PutStatic index) (put_static_effect o u)
  unfolding put_static_row put_static_effect
  put_static_leads index u row =
      by_on_field (Leads o s f h after (insn.PutStatic index)) o u _ tt
      (λ g n t is at. (
        refl,
        worked_leaves o s f h (field_words o g.0) [] after
            (starting (class_of_field o g.0) (acting (kind_words (kind_of_field o g.0)) (SetStatic (slot_of o.classes g.0) (kind_of_field o g.0) (OfOperand (kind_words (kind_of_field o g.0) - 1)) ∷ [])))
            (row_of_field o u _ g n t after is at row) (kind_slots (kind_of_field o g.0)) refl
            (λ areas made statics. tt),
      ))

  pub get_field_leads : (index : ℕ) (u : Use) (sights : List Sight) → get_field_row o u s ≡ Some after
      → Leads o s f h after (insn.GetField index) (get_field_effect o u sights)
  unfolding get_field_row get_field_effect
  get_field_leads index u sights row =
      by_on_field (Leads o s f h after (insn.GetField index)) o u _ tt
      (λ g n t is at. by_object (Leads o s f h after (insn.GetField index)) o t sights 0 _
      (thrown_leads o s f h after (insn.GetField index) (codes "java/lang/NullPointerException")) tt tt
      (λ it seen fits_it. (
        refl,
        worked_leaves o s f h (slot.Ref t ∷ []) (field_words o g.0) after
            (words 1 (loaded (kind_of_field o g.0) (OfPlace 0 (slot_of o.classes g.0) (kind_of_field o g.0))))
            (row_of_field o u _ g n t after is at row) refl refl
            (loaded_gives o f (kind_of_field o g.0) (OfPlace 0 (slot_of o.classes g.0) (kind_of_field o g.0))
            (λ areas made statics. read_kind (kind_of_field o g.0) _)),
      )))

  none_given : (method g : ℕ) (t : TypeRef) (below : Slot) (slots : List Slot) → takes_field o method g t below ≡ Some slots → GivesSlots o f slots []
  none_given method g t below slots is areas made statics =
      let parts = cond-some_then _ (Some []) slots is in subst (λ xs. HaveKinds xs []) (same_Some [] slots parts.1) tt

  pub put_field_leads : (index : ℕ) (u : Use) (sights : List Sight) → put_field_row o f.method u s ≡ Some after
      → Leads o s f h after (insn.PutField index) (put_field_effect o u sights)
  unfolding put_field_row put_field_effect
  put_field_leads index u sights row =
      by_on_field (Leads o s f h after (insn.PutField index)) o u _ tt
      (λ g n t is at. by_object (Leads o s f h after (insn.PutField index)) o t sights (kind_words (kind_of_field o g.0)) _
      (thrown_leads o s f h after (insn.PutField index) (codes "java/lang/NullPointerException")) tt tt
      (λ it seen fits_it. (
        refl,
        worked_below_leaves o s f h (field_words o g.0) (takes_field o f.method g.0 t) after
            (acting (kind_words (kind_of_field o g.0) + 1) (Put (OfOperand (kind_words (kind_of_field o g.0))) (slot_of o.classes g.0) (kind_of_field o g.0) (OfOperand (kind_words (kind_of_field o g.0) - 1)) ∷ []))
            (row_of_field o u _ g n t after is at row) (ap (λ k. k + 1) (kind_slots (kind_of_field o g.0))) refl
            (λ below slots given. none_given f.method g.0 t below slots given),
      )))

  -- ---- casts

  cast_leaves : (t : TypeRef) → worked o (object_slot o ∷ []) (slot.Ref t ∷ []) s ≡ Some after → LeavesAs o after f (words 0 [])
  cast_leaves t row =
      let rest = option_map-some (λ stack. record s { stack = slot.Ref t ∷ stack }) (taken o (object_slot o ∷ []) s.stack) after row in
      leaves_stack o s f h after (slot.Ref t ∷ rest.0) (words 0 []) rest.2 refl
      (λ areas made statics. (reference_taken o _ t s.stack rest.0 f.stack rest.1 h.in_stack).1)

  pub cast_leads : (index : ℕ) (u : Use) (sights : List Sight) → cast_row o u s ≡ Some after → Leads o s f h after (insn.Cast index) (cast_effect o u sights)
  unfolding cast_row cast_effect
  cast_leads index u sights row =
      by_on_type (Leads o s f h after (insn.Cast index)) o u _ tt
      (λ n t is at.
      let leaves : LeavesAs o after f (words 0 []) = cast_leaves t (row_of_type o u _ n t after is at row) in
      by_held (Leads o s f h after (insn.Cast index)) (words 0 []) sights 0 _ (refl, leaves) tt tt
      (λ it seen. by_if (Leads o s f h after (insn.Cast index)) (is_sub o.classes it.type t) (words 0 []) (thrown o (codes "java/lang/ClassCastException"))
      (λ passes. (refl, leaves)) (λ fails. thrown_leads o s f h after (insn.Cast index) (codes "java/lang/ClassCastException"))))

  pub is_a_leads : (index : ℕ) (u : Use) (sights : List Sight) → is_a_row o u s ≡ Some after → Leads o s f h after (insn.IsA index) (is_a_effect o u sights)
  unfolding is_a_row is_a_effect
  is_a_leads index u sights row =
      by_on_type (Leads o s f h after (insn.IsA index)) o u _ tt
      (λ n t is at. by_held (Leads o s f h after (insn.IsA index)) _ sights 0 _
      (refl, worked_leaves o s f h (object_slot o ∷ []) (slot.Int ∷ []) after (words 1 (int_word (pos 0))) (row_of_type o u _ n t after is at row) refl refl (int_gives o f (pos 0))) tt tt
      (λ it seen. (
        refl,
        worked_leaves o s f h (object_slot o ∷ []) (slot.Int ∷ []) after (words 1 (int_word (if is_sub o.classes it.type t then pos 1 else pos 0)))
            (row_of_type o u _ n t after is at row) refl refl (int_gives o f (if is_sub o.classes it.type t then pos 1 else pos 0)),
      )))
