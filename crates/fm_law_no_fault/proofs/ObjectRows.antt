-- The rows of objects, fields and casts: what is read of a place or of a static field fits it, and what is put there does.
use Rattle.std.proofs.Common.{◌≡◌, ℕ, ◌+◌, ◌-◌, ◌==◌, ◌&&◌, not, Bool, true, false, List, [], ◌∷◌, ◌++◌, map, cond, codes, Option, Some, None, unwrap_or, option_map, refl, sym, ◌∙◌, ap, subst, inl, inr, slice_get, slice_index_or, pos}
use Rattle.std.specs.List.{AllZip, list_any}
use Rattle.std.specs.Prelude.{if◌then◌else◌}
use Rattle.std.proofs.lemmas.Bool.{and_parts, eqb-true, false≢true}
use Rattle.std.proofs.lemmas.Option.{same_Some}
use Rattle.fm_base.proofs.OptionFacts.{cond-some_then, option_and_then-some, option_map-some}
use Rattle.fm_base.specs.declared.ids.FieldId.{FieldId}
use Rattle.fm_base.specs.declared.ids.TypeId.{TypeId}
use Rattle.fm_base.specs.declared.kinds.Base.{Base}
use Rattle.fm_base.specs.declared.kinds.Base.TheVariants as base
use Rattle.fm_base.specs.declared.kinds.Kind.{Kind}
use Rattle.fm_base.specs.declared.kinds.Kind.TheVariants as kind
use Rattle.fm_base.specs.declared.kinds.TypeRef.{TypeRef}
use Rattle.fm_cells.specs.Objects.{Object}
use Rattle.fm_cells.specs.Stores.{elements_at}
use Rattle.fm_code.specs.declared.instructions.Insn.TheVariants as insn
use Rattle.fm_types.specs.CallRows.{is_type}
use Rattle.fm_types.specs.Fits.{fits, fits_type}
use Rattle.fm_types.specs.Named as typed
use Rattle.fm_types.specs.Named.{class_of_method, field_words, object_slot, this_class}
use Rattle.fm_types.specs.ObjectRows.{cast_row, get_field_row, get_static_row, has_objects, is_a_row, new_row, put_field_row, put_static_row, takes_field}
use Rattle.fm_types.specs.States.{is_uninit, replaced, stack_slots, taken, TypeState, worked}
use Rattle.fm_types.specs.Typed.{type_of_use}
use Rattle.fm_types.specs.declared.slots.Slot.{Slot}
use Rattle.fm_types.specs.declared.slots.Slot.TheVariants as slot
use Rattle.fm_types.proofs.LeastJoins.{same_type-refl}
use Rattle.fm_types.proofs.Order.{level-fits, type-trans}
use Rattle.fm_world.specs.Chains.{chain_of, is_among, is_sub}
use Rattle.fm_base.specs.Kinds.{kind_words}
use Rattle.fm_world.specs.Members.{field_at, slot_of}
use Rattle.fm_world.specs.Numbers.{type_of_class}
use Rattle.fm_world.specs.Programs.{class_of_type, kind_at, Outline}
use Rattle.fm_world.specs.declared.uses.Use.{Use}
use Rattle.fm_world.specs.declared.uses.Use.TheVariants as resolved
use Rattle.fm_frames.specs.Acts.{cell_of, value_of}
use Rattle.fm_frames.specs.Effects.{acting, Effect, int_word, loaded, OfMade, OfOperand, OfPlace, OfStatic, Put, SetStatic, Source, words}
use Rattle.fm_frames.specs.Elements.{read}
use Rattle.fm_frames.specs.ObjectRows.{cast_effect, class_of_field, get_field_effect, get_static_effect, is_a_effect, kind_of_field, made_of, new_effect, put_field_effect, put_static_effect, starting}
use Rattle.fm_frames.specs.Operands.{on_object, thrown}
use Rattle.fm_frames.specs.Sights.{Looks, Sight, sights, Thing, type_numbered}
use Rattle.fm_frames.specs.States.{Areas, ref, word_at}
use Rattle.fm_frames.specs.Uses.{by_type, on_field, on_type}
use Rattle.fm_frames.specs.declared.values.Value.{Value}
use Rattle.fm_same.proofs.StoreChanges.{IsKept}
use Rattle.fm_law_sound.specs.Leading.{NamesField, sources_of}
use Rattle.fm_law_sound.specs.Resolved.{IsNamed}
use Rattle.fm_law_sound.specs.Sound.{field_slot, IsReference}
use Rattle.fm_law_sound.proofs.Cases.{by_if}
use Rattle.fm_law_sound.proofs.FramesLeft as left
use Rattle.fm_law_sound.proofs.Leaving.{kind_slots}
use Rattle.fm_law_sound.proofs.ObjectRows.{static_slot_at}
use Rattle.fm_law_sound.proofs.SeenObjects.{IsSeen, seen_at}
use Rattle.fm_law_no_fault.specs.Whole.{HoldsA, is_below, LeadsToA, ObjectIsWhole, WordFits}
use Rattle.fm_law_no_fault.proofs.ActsKeep.{IsAn, Went}
use Rattle.fm_law_no_fault.proofs.ActsSuits.{holds_weaker}
use Rattle.fm_law_no_fault.proofs.CellsLeave.{Below, below_found, cells_before, cells_left, leaves_cells, worked_below_cells}
use Rattle.fm_law_no_fault.proofs.Operands.{reference_kind}
use Rattle.fm_law_no_fault.proofs.Owing.{Cell, Suits}
use Rattle.fm_law_no_fault.proofs.RowCases.{asked_held, asked_object, int_given, Leaves, null_cell, null_whole, pushed_leaves, Row, seen_holds, thrown_whole, Whole, words_later, worked_leaves}
use Rattle.fm_law_no_fault.proofs.SlotsFit.{cell_along}
use Rattle.fm_law_no_fault.proofs.StoresKeep.{leads-later}
use Rattle.fm_law_no_fault.proofs.Wanted.{slot_passing, wanted_leads, word_fits_at}

-- ---- what an instruction names, where the checker's row is met

pub by_row_type : (P : Effect → Type 0) (o : Outline) (u : Use) (follows : TypeRef → Option TypeState) (after : TypeState)
    → typed.on_type o u follows ≡ Some after → (k : TypeRef → Effect)
    → ((n : TypeId) (t : TypeRef) → u ≡ resolved.OfType n → slice_get o.types n.0 ≡ Some t → follows t ≡ Some after → P (k t)) → P (on_type o u k)
by_row_type P o (resolved.OfType n) follows after row k each =
    let parts = option_and_then-some follows (slice_get o.types n.0) after row in
    subst (λ found. P (by_type found k)) (sym parts.1) (each n parts.0 refl parts.1 parts.2)
by_row_type P o u follows after row k each = absurd (cc)

pub by_row_field : (P : Effect → Type 0) (o : Outline) (u : Use) (follows : ℕ → TypeRef → Option TypeState) (after : TypeState)
    → typed.on_field o u follows ≡ Some after → (k : ℕ → TypeRef → Effect)
    → ((g : FieldId) (n : TypeId) (t : TypeRef) → u ≡ resolved.OfField g n → slice_get o.types n.0 ≡ Some t → follows g.0 t ≡ Some after → P (k g.0 t))
    → P (on_field o u k)
by_row_field P o (resolved.OfField g n) follows after row k each =
    let parts = option_and_then-some (follows g.0) (slice_get o.types n.0) after row in
    subst (λ found. P (by_type found (k g.0))) (sym parts.1) (each g n parts.0 refl parts.1 parts.2)
by_row_field P o u follows after row k each = absurd (cc)

-- ---- own classes

-- a type that is below a class fits it
pub below_fits : (o : Outline) (u : TypeRef) (own : ℕ) → is_below o own u ≡ true → fits_type o.classes u (type_of_class own) ≡ true
below_fits o u own is = by_type u.dims u.base (u.dims == 0) refl is where
  of_class : Option ℕ → Bool
  of_class None = false
  of_class (Some class) = is_among own (chain_of o.classes class)

  of_base : Base → Option ℕ
  of_base (base.OfClass class) = Some class.0
  of_base b = None

  by_type : (dims : ℕ) (b : Base) (test : Bool) → (dims == 0) ≡ test → of_class (cond test (of_base b) None) ≡ true
      → fits_type o.classes (record { dims = dims; base = b }) (type_of_class own) ≡ true
  by_type dims (base.OfClass class) true none h =
      level-fits o.classes (record { dims = dims; base = base.OfClass class }) (type_of_class own) (eqb-true dims 0 none) h
  by_type dims b true none h = absurd (false≢true h)
  by_type dims b false none h = absurd (false≢true h)

module _ (r : Row) where
  abbrev o : Outline
  o = r.program.outline

  abbrev seen : List Sight
  seen = sights o r.areas.store r.frame.stack

  pub loaded_cells : (k : Kind) (source : Source) (y : Areas) (made : List ℕ)
      → ((t : TypeRef) → k ≡ kind.Ref t → LeadsToA o y.store (λ u. fits_type o.classes u t) (cell_of (value_of (sources_of r.frame y made) source)))
      → AllZip (Cell o y.store r.own r.news) (stack_slots (k ∷ [])) (map (value_of (sources_of r.frame y made)) (loaded k source))
  loaded_cells kind.Boolean source y made leads = (tt, tt)
  loaded_cells kind.Byte source y made leads = (tt, tt)
  loaded_cells kind.Char source y made leads = (tt, tt)
  loaded_cells kind.Short source y made leads = (tt, tt)
  loaded_cells kind.Int source y made leads = (tt, tt)
  loaded_cells kind.Long source y made leads = (tt, (tt, tt))
  loaded_cells (kind.Ref t) source y made leads = (leads t refl, tt)

  -- the value on top, where it fits the kind, is one that suits it
  pub top_suits : (k : Kind) (rest : List Slot) → taken o (stack_slots (k ∷ [])) r.before.stack ≡ Some rest
      → Suits o r.areas.store r.frame.stack [] k (OfOperand (kind_words k - 1))
  top_suits kind.Boolean rest is = tt
  top_suits kind.Byte rest is = tt
  top_suits kind.Char rest is = tt
  top_suits kind.Short rest is = tt
  top_suits kind.Int rest is = tt
  top_suits kind.Long rest is = tt
  top_suits (kind.Ref t) rest is =
      wanted_leads o r.areas.store r.own r.news r.steps.tree (Whole r) (slot.Ref t ∷ []) r.before.stack rest is r.frame.stack r.stack 0 t refl

  -- ---- places

  -- what is read of a place of an object that is seen fits it
  pub place_leads : (n : ℕ) (it : Looks) → slice_get seen n ≡ Some (Thing it) → (place : ℕ) (k : Kind) → kind_at o.classes it.type place ≡ Some k
      → (types : List TypeRef) (y : Areas) (made : List ℕ) → Went o r.areas.store types y made → (t : TypeRef) → k ≡ kind.Ref t
      → LeadsToA o y.store (λ u. fits_type o.classes u t) (cell_of (value_of (sources_of r.frame y made) (OfPlace n place k)))
  unfolding read
  place_leads n it found place k kind_is types y made went t is =
      let saw : IsSeen o r.areas.store (cell_of (word_at r.frame.stack n)) it = seen_at o r.areas.store r.frame.stack n it found in
      let kept : IsKept y.store (cell_of (word_at r.frame.stack n)) saw.object = went.extends.kept (cell_of (word_at r.frame.stack n)) saw.object saw.held in
      let whole : ObjectIsWhole o y.store kept.now = went.areas.heap (cell_of (word_at r.frame.stack n)) kept.now kept.is in
      let type_is : it.type ≡ type_numbered o kept.now.class = saw.type_is ∙ ap (λ c. type_numbered o c) (sym kept.class) in
      let leads : LeadsToA o y.store (λ u. fits_type o.classes u t) (slice_index_or kept.now.elements place 0) =
      whole.elements place t (sym (ap (λ u. kind_at o.classes u place) type_is) ∙ kind_is ∙ ap Some is) in
      let elements : elements_at y.store (cell_of (word_at r.frame.stack n)) ≡ kept.now.elements =
      ap (λ found. unwrap_or (option_map (λ (object : Object). object.elements) found) []) kept.is in
      subst (λ q. LeadsToA o y.store (λ u. fits_type o.classes u t)
      (cell_of (read q (slice_index_or (elements_at y.store (cell_of (word_at r.frame.stack n))) place 0)))) (sym is)
      (subst (λ xs. LeadsToA o y.store (λ u. fits_type o.classes u t) (slice_index_or xs place 0)) (sym elements) leads)

  -- ---- new objects

  -- the object that is made is of exactly this type
  pub made_is : (types : List TypeRef) (y : Areas) (made : List ℕ) → Went o r.areas.store types y made → (n : ℕ) (t : TypeRef) (test : TypeRef → Bool)
      → slice_get types n ≡ Some t → test t ≡ true → HoldsA o y.store test (cell_of (value_of (sources_of r.frame y made) (OfMade n)))
  made_is types y made went n t test at passes =
      let is : IsAn o y.store t (slice_index_or made n 0) = went.made n t at in
      record { object = is.object; held = is.held; passes = ap test is.type_is ∙ passes }

  abbrev new_if : Bool → Option TypeState
  new_if b = cond b (Some (record r.before { locals = replaced (is_uninit r.frame.item) slot.Top r.before.locals; stack = slot.Uninit r.frame.item ∷ r.before.stack })) None

  new_leaves : (class : ℕ) (t : TypeRef) → r.news r.frame.item ≡ Some t → (b : Bool) → new_if b ≡ Some r.after → Leaves r (made_of o t (Some class))
  new_leaves class t news b row y made went =
      let is_it : HoldsA o y.store (λ u. is_type u (r.news r.frame.item)) (slice_index_or made 0 0) =
      made_is (t ∷ []) y made went 0 t (λ u. is_type u (r.news r.frame.item)) refl (ap (is_type t) news ∙ same_type-refl t) in
      cells_left o r.areas.store r.own r.news r.before r.frame r.locals r.stack y _ _ _
      (left.new_leaves (Cell o y.store r.own r.news) (Cell o y.store r.own r.news) r.before r.after (sources_of r.frame y made)
      (cells_before o r.areas.store r.own r.news r.before r.frame r.locals r.stack y went.extends) (λ v. tt) r.frame.item b
      (ref (slice_index_or made 0 0)) row is_it)

  -- a type of which `new` makes objects is a class
  class_there : (dims : ℕ) (b : Base) → (dims == 0) ≡ true → has_objects o.classes b ≡ true
      → (class : ℕ) × (class_of_type (record { dims = dims; base = b }) ≡ Some class)
  class_there dims (base.OfClass class) none has = (class.0, ap (λ test. cond test (Some class.0) None) none)
  class_there dims b none has = absurd (false≢true has)

  made_whole : (t : TypeRef) → r.news r.frame.item ≡ Some t → (b : Bool)
      → new_if ((t.dims == 0) && has_objects o.classes t.base && b) ≡ Some r.after → Whole r (made_of o t (class_of_type t))
  made_whole t news b row =
      let passes = cond-some_then ((t.dims == 0) && has_objects o.classes t.base && b) _ r.after row in
      let first = and_parts ((t.dims == 0) && has_objects o.classes t.base) b passes.0 in
      let parts = and_parts (t.dims == 0) (has_objects o.classes t.base) first.0 in
      let class = class_there t.dims t.base parts.0 parts.1 in
      subst (λ found. Whole r (made_of o t found)) (sym class.1)
      (record { acts = (inl refl, tt); next = new_leaves class.0 t news ((t.dims == 0) && has_objects o.classes t.base && b) row })

  pub new_whole : (u : Use) → r.news r.frame.item ≡ type_of_use o u → new_row o r.frame.item u r.before ≡ Some r.after → Whole r (new_effect o u)
  unfolding new_row new_effect
  new_whole u news row =
      by_row_type (Whole r) o u _ r.after row _
      (λ n t is at made. made_whole t (news ∙ ap (type_of_use o) is ∙ at) (not (list_any (is_uninit r.frame.item) r.before.stack)) made)

  -- ---- static fields

  pub get_static_whole : (index : ℕ) (u : Use) → NamesField o u (insn.GetStatic index) → get_static_row o u r.before ≡ Some r.after
      → Whole r (get_static_effect o u)
  unfolding get_static_row get_static_effect
  get_static_whole index u names row =
      by_row_field (Whole r) o u _ r.after row _ (λ g n t is at worked_is.
      let named : NamesField o (resolved.OfField g n) (insn.GetStatic index) = subst (λ w. NamesField o w (insn.GetStatic index)) is names in
      let place = static_slot_at o g.0 named.0 named.1 in
      record {
        acts = tt;
        next = pushed_leaves r (field_words o g.0)
            (starting (class_of_field o g.0) (words 0 (loaded (kind_of_field o g.0) (OfStatic (slot_of o.classes g.0)))))
            worked_is refl refl
            (λ y made went. loaded_cells (kind_of_field o g.0) (OfStatic (slot_of o.classes g.0)) y made
            (λ v kind_is. went.areas.statics (slot_of o.classes g.0) v (place ∙ ap (λ k. Some (field_slot k)) kind_is)));
      })

  pub put_static_whole : (u : Use) → put_static_row o u r.before ≡ Some r.after → Whole r (put_static_effect o u)
  unfolding put_static_row put_static_effect
  put_static_whole u row =
      by_row_field (Whole r) o u _ r.after row _ (λ g n t is at worked_is.
      let kind = kind_of_field o g.0 in
      let parts = option_map-some (λ stack. record r.before { stack = [] ++ stack }) (taken o (field_words o g.0) r.before.stack) r.after worked_is in
      record {
        acts = (top_suits kind parts.0 parts.1, tt);
        next = worked_leaves r (field_words o g.0) []
            (starting (class_of_field o g.0) (acting (kind_words kind) (SetStatic (slot_of o.classes g.0) kind (OfOperand (kind_words kind - 1)) ∷ [])))
            worked_is (kind_slots kind) refl (λ y made went. tt);
      })

  -- ---- fields of objects

  pub get_field_whole : (index : ℕ) (u : Use) → IsNamed r.program r.frame.method (insn.GetField index) u → get_field_row o u r.before ≡ Some r.after
      → Whole r (get_field_effect o u seen)
  unfolding get_field_row get_field_effect
  get_field_whole index u names row =
      by_row_field (Whole r) o u _ r.after row _ (λ g n t is at worked_is.
      let kind = kind_of_field o g.0 in
      asked_object r (slot.Ref t ∷ []) (field_words o g.0) worked_is 0 t refl _
      (λ it found passes. record {
        acts = tt;
        next = worked_leaves r (slot.Ref t ∷ []) (field_words o g.0) (words 1 (loaded kind (OfPlace 0 (slot_of o.classes g.0) kind))) worked_is refl refl
            (λ y made went. loaded_cells kind (OfPlace 0 (slot_of o.classes g.0) kind) y made
            (place_leads 0 it found (slot_of o.classes g.0) kind
            (r.steps.places r.frame.method (insn.GetField index) g n t it.type
            (subst (λ w. IsNamed r.program r.frame.method (insn.GetField index) w) is names) refl at passes) [] y made went));
      }))

  -- a receiver of putfield is null or an object that fits the named type: it is initialised, or of the own class, which fits
  receiver_leads : (field : ℕ) (named : TypeRef) (below : Slot) (slots : List Slot) → takes_field o r.frame.method field named below ≡ Some slots
      → (v : Value) → WordFits o r.areas.store r.own r.news below v
      → IsReference v × LeadsToA o r.areas.store (λ u. fits_type o.classes u named) (cell_of v)
  receiver_leads field named slot.UninitThis slots given v fits_it =
      let own : ℕ = this_class o r.frame.method in
      let ours : Bool = (field_at o.classes field).class == class_of_method o r.frame.method in
      let passes = cond-some_then (ours && fits_type o.classes (type_of_class own) named) (Some []) slots given in
      let parts = and_parts ours (fits_type o.classes (type_of_class own) named) passes.0 in (
        fits_it.kind,
        inr (holds_weaker o r.areas.store (is_below o r.own) (λ u. fits_type o.classes u named)
            (λ u below. type-trans o.classes r.steps.tree u (type_of_class own) named
            (below_fits o u own (subst (λ c. is_below o c u ≡ true) r.own_is below)) parts.1) (cell_of v) fits_it.cell),
      )
  receiver_leads field named below slots given v fits_it =
      let passes = cond-some_then (fits o below (slot.Ref named)) (Some []) slots given in (
        reference_kind o r.areas.store r.own r.news below named v passes.0 fits_it.kind,
        cell_along o r.steps.tree r.areas.store r.own r.news below (slot.Ref named) (cell_of v) passes.0 fits_it.cell,
      )

  -- the slot below the value is the receiver's
  abbrev BelowOf : ℕ → TypeRef → Type 0
  BelowOf field named =
      Below o r.areas.store r.own r.news r.before r.frame r.locals r.stack (field_words o field) (takes_field o r.frame.method field named) r.after

  put_field_row_whole : (g : ℕ) (t : TypeRef) (b : BelowOf g t)
      → Whole r (on_object o t seen (kind_words (kind_of_field o g)) (λ it. acting (kind_words (kind_of_field o g) + 1) (Put (OfOperand (kind_words (kind_of_field o g))) (slot_of o.classes g) (kind_of_field o g) (OfOperand (kind_words (kind_of_field o g) - 1)) ∷ [])))
  put_field_row_whole g t b =
      let k : Kind = kind_of_field o g in
      let n : ℕ = kind_words k in
      let at : slice_get r.before.stack n ≡ Some b.below = ap (λ m. slice_get r.before.stack m) (kind_slots k) ∙ b.at in
      let fits_it : WordFits o r.areas.store r.own r.news b.below (word_at r.frame.stack n) =
      word_fits_at o r.areas.store r.own r.news r.before.stack r.frame.stack r.stack n b.below at in
      let leads = receiver_leads g t b.below b.slots b.given_is (word_at r.frame.stack n) fits_it in
      let none : [] ≡ b.slots = same_Some [] b.slots (cond-some_then _ (Some []) b.slots b.given_is).1 in
      slot_passing o r.areas.store r.own r.news (Whole r) r.before.stack r.frame.stack r.stack n b.below at _ (λ u. fits_type o.classes u t) leads.0 leads.1
      (null_whole r)
      (λ it found passes. record {
        acts = (top_suits k (b.below ∷ b.rest) b.taken_is, tt);
        next = worked_below_cells o r.areas.store r.own r.news r.before r.frame r.locals r.stack (field_words o g) (takes_field o r.frame.method g t) r.after
            (acting (n + 1) (Put (OfOperand n) (slot_of o.classes g) k (OfOperand (n - 1)) ∷ [])) b (ap (λ m. m + 1) (kind_slots k)) refl
            (λ y made went. subst (λ slots. AllZip (Cell o y.store r.own r.news) slots []) none tt);
      })

  pub put_field_whole : (u : Use) → put_field_row o r.frame.method u r.before ≡ Some r.after → Whole r (put_field_effect o u seen)
  unfolding put_field_row put_field_effect
  put_field_whole u row =
      by_row_field (Whole r) o u _ r.after row _
      (λ g n t is at below_is. put_field_row_whole g.0 t
      (below_found o r.areas.store r.own r.news r.before r.frame r.locals r.stack (field_words o g.0) (takes_field o r.frame.method g.0 t) r.after below_is))

  -- ---- casts

  -- the word on top, where it fits another type
  cast_leaves : (t : TypeRef) → worked o (object_slot o ∷ []) (slot.Ref t ∷ []) r.before ≡ Some r.after
      → LeadsToA o r.areas.store (λ u. fits_type o.classes u t) (cell_of (word_at r.frame.stack 0)) → Leaves r (words 0 [])
  cast_leaves t row leads =
      let rest = option_map-some (λ stack. record r.before { stack = slot.Ref t ∷ stack }) (taken o (object_slot o ∷ []) r.before.stack) r.after row in
      leaves_cells o r.areas.store r.own r.news r.before r.frame r.locals r.stack r.after (slot.Ref t ∷ rest.0) (words 0 []) rest.2 refl
      (λ y made went. replaced_top r.before.stack rest.0 r.frame.stack rest.1 y (words_later r y went.extends)
      (leads-later o r.areas.store y.store went.extends _ _ leads)) where
        replaced_top : (stack rest : List Slot) (values : List Value) → taken o (object_slot o ∷ []) stack ≡ Some rest → (y : Areas)
            → AllZip (Cell o y.store r.own r.news) stack values → LeadsToA o y.store (λ u. fits_type o.classes u t) (cell_of (word_at values 0))
            → AllZip (Cell o y.store r.own r.news) (slot.Ref t ∷ rest) values
        replaced_top [] rest values is y h leads = absurd (cc)
        replaced_top (s ∷ stack) rest [] is y h leads = absurd h
        replaced_top (s ∷ stack) rest (v ∷ values) is y h leads =
            let parts = cond-some_then (fits o s (object_slot o)) (Some stack) rest is in
            (leads, subst (λ xs. AllZip (Cell o y.store r.own r.news) xs values) (same_Some stack rest parts.1) h.1)

  pub cast_whole : (u : Use) → cast_row o u r.before ≡ Some r.after → Whole r (cast_effect o u seen)
  unfolding cast_row cast_effect
  cast_whole u row =
      by_row_type (Whole r) o u _ r.after row _
      (λ n t is at worked_is. asked_held r (object_slot o ∷ []) (slot.Ref t ∷ []) worked_is 0 _ refl (words 0 []) _
      (λ null. record { acts = tt; next = cast_leaves t worked_is (inl (null_cell r 0 null)) })
      (λ it found passes. by_if (Whole r) (is_sub o.classes it.type t) (words 0 []) (thrown o (codes "java/lang/ClassCastException"))
      (λ casts. record {
        acts = tt;
        next = cast_leaves t worked_is (inr (seen_holds r 0 it (λ u. fits_type o.classes u t) found (r.cells.places.subtypes it.type t casts)));
      })
      (λ fails. thrown_whole r (codes "java/lang/ClassCastException") r.cells.built_in.thrown.1.1.0)))

  pub is_a_whole : (u : Use) → is_a_row o u r.before ≡ Some r.after → Whole r (is_a_effect o u seen)
  unfolding is_a_row is_a_effect
  is_a_whole u row =
      by_row_type (Whole r) o u _ r.after row _
      (λ n t is at worked_is. asked_held r (object_slot o ∷ []) (slot.Int ∷ []) worked_is 0 _ refl (words 1 (int_word (pos 0))) _
      (λ null. int_given r (object_slot o ∷ []) (pos 0) worked_is)
      (λ it found passes. int_given r (object_slot o ∷ []) (if is_sub o.classes it.type t then pos 1 else pos 0) worked_is))
