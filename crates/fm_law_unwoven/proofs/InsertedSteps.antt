-- The step of each instruction that is inserted.
use Rattle.std.proofs.Common.{◌≡◌, ℕ, zero, suc, ◌+◌, Bool, List, [], ◌∷◌, Option, Some, None, refl, sym, ap, ◌∙◌}
use Rattle.std.specs.Prelude.{slice_get, slice_set}
use Rattle.fm_cells.specs.Objects.{Object}
use Rattle.fm_cells.specs.Stores.{object_at}
use Rattle.fm_code.specs.declared.instructions.Insn.{Insn}
use Rattle.fm_code.specs.declared.instructions.Insn.TheVariants as insn
use Rattle.fm_code.specs.declared.operations.Reg.TheVariants as reg
use Rattle.fm_frames.proofs.StepCounts.{step_going}
use Rattle.fm_frames.specs.Acts.{cell_of, Choose, freed, performed}
use Rattle.fm_frames.specs.CallRows.{entered_as, static_effect, words_of_arguments}
use Rattle.fm_frames.specs.Effects.{acting, Effect, faulty, Free, going, Jumps, null_word, OfLocal, OfOperand, words}
use Rattle.fm_frames.specs.NativeRows.{free_native, native_effect}
use Rattle.fm_frames.specs.NumberRows.{load_effect, move_effect, store_effect}
use Rattle.fm_frames.specs.ObjectRows.{starting}
use Rattle.fm_frames.specs.Operands.{on_held_of}
use Rattle.fm_frames.specs.Rows.{effect_of}
use Rattle.fm_frames.specs.Sights.{Gone, looks, Looks, Null, Sight, sight, sight_of_cell, sight_of_object, sights, Thing}
use Rattle.fm_frames.specs.Starts.{started_by, with_start}
use Rattle.fm_frames.specs.States.{Areas, Frame, Moved, null, State, word_at}
use Rattle.fm_frames.specs.Steps.{attempted, continued, effect_by, next_effect, next_insn, offset_at, step, target_at}
use Rattle.fm_frames.specs.Uses.{by_type, on_method}
use Rattle.fm_frames.specs.declared.ends.Ended.TheVariants as end
use Rattle.fm_frames.specs.declared.values.Value.{Value}
use Rattle.fm_frames.specs.declared.values.Value.TheVariants as value
use Rattle.fm_frames.specs.declared.natives.Native.TheVariants.{FreeMeFree}
use Rattle.fm_law_chained.proofs.CalledSteps.{entered_by}
use Rattle.fm_law_chained.specs.Called.{CallsNative, with_frame}
use Rattle.fm_law_sound.proofs.FramesStand.{target_in}
use Rattle.fm_law_sound.specs.Sound.{IsReference}
use Rattle.fm_law_unwoven.specs.Doing.{freed_from}
use Rattle.fm_types.specs.Named.{class_of_method}
use Rattle.fm_types.specs.Typed.{use_by, use_in}
use Rattle.fm_world.specs.Programs.{Outline, Program}
use Rattle.fm_world.specs.declared.uses.Use.{Use}

-- ---- what is seen of a reference

-- null, an object that is held, or a cell that isn't
pub data Seen (o : Outline) (areas : Areas) (v : Value) : Type 0 where
  SeenNull : sight o areas.store v ≡ Null → freed_from areas (cell_of v) ≡ areas → Seen o areas v
  SeenThing : (it : Looks) → sight o areas.store v ≡ Thing it → freed_from areas (cell_of v) ≡ freed areas (cell_of v) → Seen o areas v
  SeenGone : (n : ℕ) → cell_of v ≡ suc n → object_at areas.store (suc n) ≡ None → sight o areas.store v ≡ Gone → Seen o areas v

pub seen : (o : Outline) (areas : Areas) (v : Value) → IsReference v → Seen o areas v
seen o areas value.Top reference = absurd reference
seen o areas (value.Int n) reference = absurd reference
seen o areas (value.Long n) reference = absurd reference
seen o areas (value.Ref cell) reference = by_cell cell.0 refl where
  by_object : (n : ℕ) → cell.0 ≡ suc n → (a : Option Object) → object_at areas.store (suc n) ≡ a → Seen o areas (value.Ref cell)
  by_object n is None there = SeenGone n is there (ap (sight_of_cell o areas.store) is ∙ ap (sight_of_object o areas.store) there)
  by_object n is (Some a) there =
      SeenThing (looks o areas.store a) (ap (sight_of_cell o areas.store) is ∙ ap (sight_of_object o areas.store) there)
      (ap (freed_from areas) is ∙ sym (ap (freed areas) is))

  by_cell : (n : ℕ) → cell.0 ≡ n → Seen o areas (value.Ref cell)
  by_cell zero is = SeenNull (ap (sight_of_cell o areas.store) is) (ap (freed_from areas) is)
  by_cell (suc n) is = by_object n is (object_at areas.store (suc n)) refl

-- ---- a call of FreeMe.free

-- by what is seen
abbrev pub free_effect : Sight → Effect
free_effect s = on_held_of (words 1 []) 0 (Some s) (λ it. acting 1 (Free 0 ∷ []))

free_is : (o : Outline) (method free : ℕ) (u : Use) → (calls : CallsNative o FreeMeFree u) → (byte : Option ℕ) (s : Sight) (rest : List Sight)
    → effect_of o method u (insn.Static free) byte (s ∷ rest) ≡ starting (class_of_method o calls.method.0) (free_effect s)
unfolding effect_of static_effect native_effect free_native
free_is o method free u calls byte s rest =
    let m = calls.method.0 in
    ap (λ x. on_method o x (entered_by o byte (s ∷ rest))) calls.use_is
    ∙ ap (λ t. by_type t (entered_by o byte (s ∷ rest) m)) calls.type_is
    ∙ ap (λ n. starting (class_of_method o m) (entered_as o (words_of_arguments o m) m byte (s ∷ rest) n)) calls.row_is

-- its class has started
free_started : (o : Outline) (u : Use) (calls : CallsNative o FreeMeFree u) (started : List Bool) (e : Effect)
    → with_start o started (starting (class_of_method o calls.method.0) e) ≡ record e { starts = None }
free_started o u calls started e = ap (λ classes. started_by o classes (starting (class_of_method o calls.method.0) e)) (calls.started started)

-- ---- steps

module _ (q : Program) (choose : Choose) where
  -- the state goes on with this frame on top, and nothing was printed
  abbrev pub goes_to : State → Frame → List Frame → Moved
  goes_to y f callers = record { state = with_frame y f callers; printed = [] }

  abbrev pub counted : State → State
  counted y = record y { steps = y.steps + 1 }

  next_is : (y : State) (f : Frame) (callers : List Frame) (i : Insn) (e started : Effect) → next_insn q f ≡ Some i
      → effect_of q.outline f.method (use_by q f.method i) i (slice_get y.input 0) (sights q.outline y.areas.store f.stack) ≡ e
      → with_start q.outline y.areas.started e ≡ started → next_effect q (with_frame y f callers) ≡ started
  unfolding next_effect
  next_is y f callers i e started found is start =
      ap (λ o. with_start q.outline y.areas.started (effect_by q (with_frame y f callers) f o)) found
      ∙ ap (with_start q.outline y.areas.started) is ∙ start

  step_by : (y : State) (f : Frame) (callers : List Frame) (e : Effect) → next_effect q (with_frame y f callers) ≡ e
      → step q choose (with_frame y f callers) ≡ attempted q choose (with_frame y f callers) e
  step_by y f callers e is = step_going q choose (with_frame y f callers) refl ∙ ap (attempted q choose (with_frame y f callers)) is

  pub null_step : (y : State) (f : Frame) (callers : List Frame) → next_insn q f ≡ Some insn.Null
      → step q choose (with_frame y f callers) ≡ goes_to (counted y) (record f { item = f.item + 1; stack = null ∷ f.stack }) callers
  unfolding effect_of performed continued
  null_step y f callers found = step_by y f callers (words 0 null_word) (next_is y f callers insn.Null (words 0 null_word) (words 0 null_word) found refl refl)

  pub store_step : (y : State) (f : Frame) (callers : List Frame) (k : ℕ) (v : Value) (rest : List Value)
      → next_insn q f ≡ Some (insn.Store reg.Ref k)
      → step q choose (with_frame y (record f { stack = v ∷ rest }) callers)
      ≡ goes_to (counted y) (record f { item = f.item + 1; locals = slice_set f.locals k v; stack = rest }) callers
  unfolding effect_of store_effect performed continued
  store_step y f callers k v rest found =
      let e : Effect = record (words 1 []) { writes = (k, OfOperand 0) ∷ [] } in
      step_by y (record f { stack = v ∷ rest }) callers e (next_is y (record f { stack = v ∷ rest }) callers (insn.Store reg.Ref k) e e found refl refl)

  pub load_step : (y : State) (f : Frame) (callers : List Frame) (k : ℕ) → next_insn q f ≡ Some (insn.Load reg.Ref k)
      → step q choose (with_frame y f callers)
      ≡ goes_to (counted y) (record f { item = f.item + 1; stack = word_at f.locals k ∷ f.stack }) callers
  unfolding effect_of load_effect performed continued
  load_step y f callers k found =
      let e : Effect = words 0 (OfLocal k ∷ []) in step_by y f callers e (next_is y f callers (insn.Load reg.Ref k) e e found refl refl)

  pub dup_step : (y : State) (f : Frame) (callers : List Frame) (v : Value) (rest : List Value) → next_insn q f ≡ Some insn.Dup
      → step q choose (with_frame y (record f { stack = v ∷ rest }) callers)
      ≡ goes_to (counted y) (record f { item = f.item + 1; stack = v ∷ v ∷ rest }) callers
  unfolding effect_of move_effect performed continued
  dup_step y f callers v rest found =
      let e : Effect = words 1 (OfOperand 0 ∷ OfOperand 0 ∷ []) in
      step_by y (record f { stack = v ∷ rest }) callers e (next_is y (record f { stack = v ∷ rest }) callers insn.Dup e e found refl refl)

  -- the goto_w behind a branch that is too far leads to its target
  pub goto_step : (y : State) (f : Frame) (callers : List Frame) (target : ℕ) → next_insn q f ≡ Some (insn.Goto target)
      → step q choose (with_frame y f callers) ≡ goes_to (counted y) (record f { item = target }) callers
  unfolding effect_of performed continued
  goto_step y f callers target found =
      let leads : target_at q f 0 ≡ target = ap (target_in 0 f.item) found in
      step_by y f callers (going 0 (Jumps 0)) (next_is y f callers (insn.Goto target) (going 0 (Jumps 0)) (going 0 (Jumps 0)) found refl refl)
      ∙ ap (λ n. goes_to (counted y) (record f { item = n }) callers) leads

  module _ (y : State) (f : Frame) (callers : List Frame) (free : ℕ) (v : Value) (rest : List Value) (calls : CallsNative q.outline FreeMeFree (use_in q f.method free))
      (found : next_insn q f ≡ Some (insn.Static free)) where
    abbrev top : Frame
    top = record f { stack = v ∷ rest }

    free_by : (s : Sight) → sight q.outline y.areas.store v ≡ s → next_effect q (with_frame y top callers) ≡ record (free_effect s) { starts = None }
    free_by s is =
        let class = class_of_method q.outline calls.method.0 in
        next_is y top callers (insn.Static free) (starting class (free_effect s)) (record (free_effect s) { starts = None }) found
        (free_is q.outline f.method free (use_in q f.method free) calls (slice_get y.input 0) (sight q.outline y.areas.store v) (sights q.outline y.areas.store rest)
        ∙ ap (λ x. starting class (free_effect x)) is)
        (free_started q.outline (use_in q f.method free) calls y.areas.started (free_effect s))

    pub free_null : sight q.outline y.areas.store v ≡ Null
        → step q choose (with_frame y top callers) ≡ goes_to (counted y) (record f { item = f.item + 1; stack = rest }) callers
    unfolding performed continued
    free_null is = step_by y top callers (words 1 []) (free_by Null is)

    pub free_held : (it : Looks) → sight q.outline y.areas.store v ≡ Thing it
        → step q choose (with_frame y top callers)
        ≡ goes_to (record y { areas = freed y.areas (cell_of v); steps = y.steps + 1 }) (record f { item = f.item + 1; stack = rest }) callers
    unfolding performed continued
    free_held it is = step_by y top callers (acting 1 (Free 0 ∷ [])) (free_by (Thing it) is)

    abbrev lost : Moved
    lost = attempted q choose (with_frame y top callers) (faulty 0)

    lost_ended : lost.state.ended ≡ Some (end.Fault (record { 0 = f.method }) (offset_at q f) (cell_of v))
    unfolding performed continued
    lost_ended = refl

    lost_printed : lost.printed ≡ []
    unfolding performed
    lost_printed = refl

    pub free_lost : sight q.outline y.areas.store v ≡ Gone
        → ((step q choose (with_frame y top callers)).state.ended ≡ Some (end.Fault (record { 0 = f.method }) (offset_at q f) (cell_of v)))
        × ((step q choose (with_frame y top callers)).printed ≡ [])
    free_lost is =
        let same = step_by y top callers (faulty 0) (free_by Gone is) in
        (ap (λ (m : Moved). m.state.ended) same ∙ lost_ended, ap (λ (m : Moved). m.printed) same ∙ lost_printed)
