-- How rows require of their operands where the frame fits the state before them, and what the
-- shortest effects owe.
use Rattle.std.proofs.Common.{◌≡◌, ℕ, zero, suc, ℤ, Bool, true, List, [], ◌∷◌, ◌++◌, length, take, codes, Option, Some, None, refl, sym, ◌∙◌, ap, subst, inl, slice_get}
use Rattle.std.specs.List.{AllZip}
use Rattle.std.proofs.lemmas.Option.{none-some, same_Some}
use Rattle.fm_base.proofs.OptionFacts.{cond-some_then, option_map-some}
use Rattle.fm_base.specs.declared.kinds.TypeRef.{TypeRef}
use Rattle.fm_cells.specs.Objects.{Object}
use Rattle.fm_cells.specs.Stores.{object_at}
use Rattle.fm_types.specs.Fits.{fits, fits_type}
use Rattle.fm_types.specs.Named.{built_in_type, this_class, throwable_type}
use Rattle.fm_types.specs.States.{is_whole, taken, TypeState, worked}
use Rattle.fm_types.specs.declared.slots.Slot.{Slot}
use Rattle.fm_types.specs.declared.slots.Slot.TheVariants as slot
use Rattle.fm_types.proofs.Zips.{zip-implied}
use Rattle.fm_world.specs.Programs.{Outline, Program}
use Rattle.fm_frames.specs.Acts.{cell_of}
use Rattle.fm_frames.specs.Effects.{Effect, int_word, long_words, Source, words}
use Rattle.fm_frames.specs.Operands.{on_held, on_int, on_long, on_object, on_reference, thrown, thrown_null}
use Rattle.fm_frames.specs.Sights.{Looks, Null, sight, sight_of_cell, sight_of_object, sights, Thing}
use Rattle.fm_frames.specs.States.{Areas, Frame, word_at}
use Rattle.fm_frames.specs.declared.values.Value.{Value}
use Rattle.fm_frames.specs.declared.values.Value.TheVariants as value
use Rattle.fm_law_sound.specs.Resolved.{StepsAreResolved}
use Rattle.fm_law_sound.specs.Sound.{AreasAreSound, FrameHasKinds, HasKind, LocalHasKind}
use Rattle.fm_law_sound.proofs.SeenObjects.{IsSeen, seen_at}
use Rattle.fm_law_no_fault.specs.CellsResolved.{CellsAreResolved}
use Rattle.fm_law_no_fault.specs.Whole.{AreasAreWhole, HoldsA, LocalFits, WordFits}
use Rattle.fm_same.proofs.StoreChanges.{Extends}
use Rattle.fm_law_no_fault.proofs.ActsKeep.{types_after}
use Rattle.fm_law_no_fault.proofs.CellsLeave.{locals_left, pushed_cells, same_cells, stack_cells, stack_left, worked_cells}
use Rattle.fm_law_no_fault.proofs.Owing.{Cell, CellsLeave, GivesCells, RowIsWhole}
use Rattle.fm_law_no_fault.proofs.SlotsFit.{cell_along}
use Rattle.fm_law_no_fault.proofs.Wanted.{wanted_held, wanted_int, wanted_long, wanted_object, wanted_reference}

-- A row of the checker that is met, with the state before it and the one after it, and a frame that fits the state before, in areas that are whole.
pub record Row : Type 0 where
  pub program : Program
  pub cells : CellsAreResolved program
  pub steps : StepsAreResolved program
  pub areas : Areas
  pub sound : AreasAreSound program.outline areas
  pub whole : AreasAreWhole program.outline areas
  -- the class whose objects the frame's method has as its own, and what the items of the method make
  pub own : ℕ
  pub news : ℕ → Option TypeRef
  pub before : TypeState
  pub unsplit : is_whole before.stack ≡ true
  pub frame : Frame
  pub own_is : own ≡ this_class program.outline frame.method
  pub locals : AllZip (LocalFits program.outline areas.store own news) before.locals frame.locals
  pub stack : AllZip (WordFits program.outline areas.store own news) before.stack frame.stack
  pub after : TypeState

-- what has to be shown of each effect
abbrev pub Whole : Row → Effect → Type 0
Whole r e = RowIsWhole r.program r.areas.store r.own r.news r.after r.frame e

module _ (r : Row) where
  abbrev o : Outline
  o = r.program.outline

  -- an exception of the machine is thrown
  pub thrown_whole : (name : List ℕ) → fits_type o.classes (built_in_type o name) (throwable_type o) ≡ true → Whole r (thrown o name)
  thrown_whole name is = record { acts = (inl refl, tt); next = (built_in_type o name, refl, is) }

  pub null_whole : Whole r (thrown_null o)
  null_whole = thrown_whole (codes "java/lang/NullPointerException") r.cells.built_in.thrown.0

  -- ---- where slots are taken

  module _ (wanted given : List Slot) (row : worked o wanted given r.before ≡ Some r.after) where
    found : (rest : List Slot) × (taken o wanted r.before.stack ≡ Some rest)
    found = let parts = option_map-some (λ stack. record r.before { stack = given ++ stack }) (taken o wanted r.before.stack) r.after row in (parts.0, parts.1)

    pub asked_int : (n : ℕ) → slice_get wanted n ≡ Some slot.Int → (k : ℤ → Effect) → ((i : ℤ) → Whole r (k i)) → Whole r (on_int (sights o r.areas.store r.frame.stack) n k)
    asked_int n at k each = wanted_int o r.areas.store r.own r.news r.steps.tree (Whole r) wanted r.before.stack found.0 found.1 r.frame.stack r.stack n at k each

    pub asked_long : (n : ℕ) → slice_get wanted n ≡ Some slot.Long → (k : ℤ → Effect) → ((i : ℤ) → Whole r (k i)) → Whole r (on_long (sights o r.areas.store r.frame.stack) n k)
    asked_long n at k each = wanted_long o r.areas.store r.own r.news r.steps.tree (Whole r) wanted r.before.stack found.0 found.1 r.frame.stack r.stack n at k each

    pub asked_held : (n : ℕ) (t : TypeRef) → slice_get wanted n ≡ Some (slot.Ref t) → (of_null : Effect) (k : Looks → Effect)
        → (slice_get (sights o r.areas.store r.frame.stack) n ≡ Some Null → Whole r of_null)
        → ((it : Looks) → slice_get (sights o r.areas.store r.frame.stack) n ≡ Some (Thing it) → fits_type o.classes it.type t ≡ true → Whole r (k it))
        → Whole r (on_held of_null (sights o r.areas.store r.frame.stack) n k)
    asked_held n t at of_null k null each = wanted_held o r.areas.store r.own r.news r.steps.tree (Whole r) wanted r.before.stack found.0 found.1 r.frame.stack r.stack n t at of_null k null each

    pub asked_object : (n : ℕ) (t : TypeRef) → slice_get wanted n ≡ Some (slot.Ref t) → (k : Looks → Effect)
        → ((it : Looks) → slice_get (sights o r.areas.store r.frame.stack) n ≡ Some (Thing it) → fits_type o.classes it.type t ≡ true → Whole r (k it))
        → Whole r (on_object o t (sights o r.areas.store r.frame.stack) n k)
    asked_object n t at k each = wanted_object o r.areas.store r.own r.news r.steps.tree (Whole r) wanted r.before.stack found.0 found.1 r.frame.stack r.stack n t at k null_whole each

    pub asked_reference : (n : ℕ) (t : TypeRef) → slice_get wanted n ≡ Some (slot.Ref t) → (k : Bool → Effect) → ((b : Bool) → Whole r (k b))
        → Whole r (on_reference (sights o r.areas.store r.frame.stack) n k)
    asked_reference n t at k each = wanted_reference o r.areas.store r.own r.news r.steps.tree (Whole r) wanted r.before.stack found.0 found.1 r.frame.stack r.stack n t at k each

  -- ---- where nothing that is given has a cell

  pub int_given : (wanted : List Slot) (n : ℤ) → worked o wanted (slot.Int ∷ []) r.before ≡ Some r.after → Whole r (words (length wanted) (int_word n))
  int_given wanted n row = record {
    acts = tt;
    next = worked_cells o r.areas.store r.own r.news r.before r.frame r.locals r.stack wanted (slot.Int ∷ []) r.after (words (length wanted) (int_word n)) row refl refl
        (λ y made went. (tt, tt));
  }

  pub long_given : (wanted : List Slot) (n : ℤ) → worked o wanted (slot.Top ∷ slot.Long ∷ []) r.before ≡ Some r.after → Whole r (words (length wanted) (long_words n))
  long_given wanted n row = record {
    acts = tt;
    next = worked_cells o r.areas.store r.own r.news r.before r.frame r.locals r.stack wanted (slot.Top ∷ slot.Long ∷ []) r.after (words (length wanted) (long_words n)) row refl refl
        (λ y made went. (tt, (tt, tt)));
  }

  -- ---- the frame that goes on

  -- the cells of the frame fit the state after the row
  abbrev pub Leaves : Effect → Type 0
  Leaves e = CellsLeave o r.areas.store r.own r.news r.after r.frame e

  -- the sources give what fits the slots, where objects of these types are made
  abbrev pub Gives : List TypeRef → List Slot → List Source → Type 0
  Gives types slots gives = GivesCells o r.areas.store r.own r.news r.frame types slots gives

  pub pushed_leaves : (given : List Slot) (e : Effect) → Some (record r.before { stack = given ++ r.before.stack }) ≡ Some r.after → e.takes ≡ 0
      → e.writes ≡ [] → Gives (types_after [] e.actions) given e.gives → Leaves e
  pushed_leaves given e row takes writes gives =
      pushed_cells o r.areas.store r.own r.news r.before r.frame r.locals r.stack given r.after e row takes writes gives

  pub worked_leaves : (wanted given : List Slot) (e : Effect) → worked o wanted given r.before ≡ Some r.after → e.takes ≡ length wanted
      → e.writes ≡ [] → Gives (types_after [] e.actions) given e.gives → Leaves e
  worked_leaves wanted given e row takes writes gives =
      worked_cells o r.areas.store r.own r.news r.before r.frame r.locals r.stack wanted given r.after e row takes writes gives

  pub same_leaves : (e : Effect) → Some r.before ≡ Some r.after → e.takes ≡ 0 → e.gives ≡ [] → e.writes ≡ [] → Leaves e
  same_leaves e row takes gives writes =
      subst (λ t. CellsLeave o r.areas.store r.own r.news t r.frame e) (same_Some r.before r.after row)
      (same_cells o r.areas.store r.own r.news r.before r.frame r.locals r.stack e takes gives writes)

  -- the cells of the words and of the locals, as they are later
  pub words_later : (y : Areas) → Extends r.areas.store y.store → AllZip (Cell o y.store r.own r.news) r.before.stack r.frame.stack
  words_later y more = stack_left o r.areas.store r.own r.news r.before r.frame r.locals r.stack y more 0

  pub locals_later : (y : Areas) → Extends r.areas.store y.store → AllZip (Cell o y.store r.own r.news) r.before.locals r.frame.locals
  locals_later y more = locals_left o r.areas.store r.own r.news r.before r.frame r.locals r.stack y more

  -- ---- what is known beside the cells

  pub kinds : FrameHasKinds r.before r.frame.locals r.frame.stack
  kinds = record {
    in_locals = zip-implied (LocalFits o r.areas.store r.own r.news) LocalHasKind (λ s v fits. fits.kind) r.before.locals r.frame.locals r.locals;
    in_stack = zip-implied (WordFits o r.areas.store r.own r.news) HasKind (λ s v fits. fits.kind) r.before.stack r.frame.stack r.stack;
  }

  -- what is seen of an operand is held, of the type that is seen
  pub seen_holds : (n : ℕ) (it : Looks) (test : TypeRef → Bool) → slice_get (sights o r.areas.store r.frame.stack) n ≡ Some (Thing it) → test it.type ≡ true
      → HoldsA o r.areas.store test (cell_of (word_at r.frame.stack n))
  seen_holds n it test seen passes =
      let found : IsSeen o r.areas.store (cell_of (word_at r.frame.stack n)) it = seen_at o r.areas.store r.frame.stack n it seen in
      record { object = found.object; held = found.held; passes = ap test (sym found.type_is) ∙ passes }

  -- the words that are taken fit the slots that are wanted
  pub taken_cells : (wanted rest : List Slot) → taken o wanted r.before.stack ≡ Some rest
      → AllZip (Cell o r.areas.store r.own r.news) wanted (take (length wanted) r.frame.stack)
  taken_cells wanted rest is =
      taken_fit wanted r.before.stack rest r.frame.stack is (stack_cells o r.areas.store r.own r.news r.before.stack r.frame.stack r.stack) where
        taken_fit : (wanted stack rest : List Slot) (words : List Value) → taken o wanted stack ≡ Some rest
            → AllZip (Cell o r.areas.store r.own r.news) stack words → AllZip (Cell o r.areas.store r.own r.news) wanted (take (length wanted) words)
        taken_fit [] stack rest words is h = tt
        taken_fit (w ∷ wanted) [] rest words is h = absurd (cc)
        taken_fit (w ∷ wanted) (s ∷ stack) rest [] is h = absurd h
        taken_fit (w ∷ wanted) (s ∷ stack) rest (v ∷ words) is h =
            let parts = cond-some_then (fits o s w) (taken o wanted stack) rest is in (
              cell_along o r.steps.tree r.areas.store r.own r.news s w (cell_of v) parts.0 h.0,
              taken_fit wanted stack rest words parts.1 h.1,
            )

  -- where null is seen, the word is null
  pub null_cell : (n : ℕ) → slice_get (sights o r.areas.store r.frame.stack) n ≡ Some Null → cell_of (word_at r.frame.stack n) ≡ 0
  null_cell n is = null_at r.frame.stack n is where
    null_object : (found : Option Object) → sight_of_object o r.areas.store found ≡ Null → ⊥
    null_object None is = absurd (cc)
    null_object (Some object) is = absurd (cc)

    null_in : (cell : ℕ) → sight_of_cell o r.areas.store cell ≡ Null → cell ≡ 0
    null_in zero is = refl
    null_in (suc cell) is = absurd (null_object (object_at r.areas.store (suc cell)) is)

    null_value : (v : Value) → sight o r.areas.store v ≡ Null → cell_of v ≡ 0
    null_value (value.Ref cell) is = null_in cell.0 is
    null_value value.Top is = refl
    null_value (value.Int n) is = refl
    null_value (value.Long n) is = refl

    null_at : (words : List Value) (n : ℕ) → slice_get (sights o r.areas.store words) n ≡ Some Null → cell_of (word_at words n) ≡ 0
    null_at [] n is = absurd (none-some Null is)
    null_at (v ∷ words) zero is = null_value v (same_Some (sight o r.areas.store v) Null is)
    null_at (v ∷ words) (suc n) is = null_at words n is
