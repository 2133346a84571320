-- A step from a whole state leads to a whole state, and never to a fault.
use Rattle.std.proofs.Common.{◌≡◌, ℕ, ◌+◌, cond, Bool, true, false, List, [], ◌∷◌, ◌++◌, max, reverse, take, Option, Some, None, option_and_then, refl, sym, ◌∙◌, ap, subst, slice_get, arith}
use Rattle.std.specs.List.{AllByRecursion, AllZip}
use Rattle.std.proofs.lemmas.Option.{none-some, same_Some}
use Rattle.fm_base.specs.declared.ids.ClassId.{ClassId}
use Rattle.fm_base.specs.declared.ids.MethodId.{MethodId}
use Rattle.fm_base.specs.declared.kinds.TypeRef.{TypeRef}
use Rattle.fm_cells.proofs.Choices.{lawful_choice-may}
use Rattle.fm_cells.specs.Choices.{lawful}
use Rattle.fm_cells.specs.Objects.{Object}
use Rattle.fm_cells.specs.Stores.{object_at, Store}
use Rattle.fm_code.specs.Edges.{insn_of}
use Rattle.fm_code.specs.declared.code_array.Code.{Code}
use Rattle.fm_code.specs.declared.instructions.Insn.{Insn}
use Rattle.fm_types.specs.Fits.{fits_type}
use Rattle.fm_types.specs.Named.{result_words, this_class, throwable_type}
use Rattle.fm_types.specs.Rows.{row_after}
use Rattle.fm_types.specs.States.{TypeState}
use Rattle.fm_types.specs.Typed.{IsTypingOf, made_at, MeetsItem, use_by}
use Rattle.fm_world.specs.Programs.{Outline, Program}
use Rattle.fm_frames.specs.Acts.{cell_of, Choose, Did, FullAt, LostAt, performed, Performed, value_of}
use Rattle.fm_frames.specs.Effects.{Action, Calls, Effect, Enters, Exits, Falls, Faults, Jumps, JumpsIfSame, Next, OfMade, OfOperand, Returns, Source, Throws}
use Rattle.fm_frames.specs.Rows.{effect_of}
use Rattle.fm_frames.specs.Sights.{sights, type_numbered}
use Rattle.fm_frames.specs.Starts.{with_start}
use Rattle.fm_frames.specs.States.{Areas, Frame, Moved, State, word_at}
use Rattle.fm_frames.specs.Steps.{attempted, Caught, caught, caught_in, continued, effect_by, finished, handler_of, InFrames, next_insn, is_deep, is_over, is_start, Leaves, next_effect, objects_made, returned, stack_after, step, stopped, thrown_by, type_at, written}
use Rattle.fm_frames.specs.declared.ends.Ended.{Ended}
use Rattle.fm_frames.specs.declared.ends.Ended.TheVariants as end
use Rattle.fm_frames.specs.declared.values.Value.{Value}
use Rattle.fm_law_sound.specs.Acting.{ActsFit}
use Rattle.fm_law_sound.specs.Going.{CallLeads, StandsAtRow}
use Rattle.fm_law_sound.specs.Leading.{is_call, LeavesAs, sources_of}
use Rattle.fm_law_sound.specs.Making.{MakesAreResolved, MakesFew}
use Rattle.fm_law_sound.specs.Resolved.{StepsAreResolved}
use Rattle.fm_law_sound.specs.Sound.{AreasAreSound, AreTyped, FrameHasKinds, HaveKinds, IsSoundBy, StandBelow, StandsWithout, static_slots, Typings}
use Rattle.fm_law_sound.proofs.CallsLead.{calls_lead}
use Rattle.fm_law_sound.proofs.FramesStand.{met_row, typing_of}
use Rattle.fm_law_sound.proofs.NextActs.{next_acts_fit}
use Rattle.fm_law_sound.proofs.Rows.{effect_leads}
use Rattle.fm_law_sound.proofs.StepsSound.{as_call, class_leads, moved_by, step_sound, StepLeads}
use Rattle.fm_law_no_fault.specs.CellsResolved.{CellsAreResolved}
use Rattle.fm_law_no_fault.specs.Whole.{AreasAreWhole, FrameFits, FrameIsWhole, HasNoFault, HoldsA, IsWholeBy}
use Rattle.fm_law_no_fault.proofs.ActsKeep.{acts_go, IsAn, types_after, Went, went_first, WentTo}
use Rattle.fm_law_no_fault.proofs.ActsSuits.{acts_lead}
use Rattle.fm_law_no_fault.proofs.CatchesKeep.{all_caught}
use Rattle.fm_law_no_fault.proofs.CellsLeave.{cells-later}
use Rattle.fm_law_no_fault.proofs.FrameRows.{row_here}
use Rattle.fm_law_no_fault.proofs.FramesKeep.{going_whole, started_whole}
use Rattle.fm_law_no_fault.proofs.NewFrames.{new_frame_whole}
use Rattle.fm_law_no_fault.proofs.Owing.{Cell, CellsFit, NextSuits, RowIsWhole, SourceIsA}
use Rattle.fm_law_no_fault.proofs.ReturnsKeep.{fits_by, returned_whole}
use Rattle.fm_law_no_fault.proofs.RowCases.{Whole}
use Rattle.fm_law_no_fault.proofs.StartsSuit.{NumbersAreConstants, start_owes}
use Rattle.fm_law_no_fault.proofs.StoresKeep.{frames-later, holds-later}
use Rattle.fm_law_no_fault.proofs.WaitingFrames.{waiting_whole}

-- ---- exceptions end no run in a fault

not_left : (b : Bool) (method : MethodId) (offset cell : ℕ) (class : ClassId) (below : Caught) → cond b (Leaves (end.InitFailed class)) below ≡ Leaves (end.Fault method offset cell)
    → below ≡ Leaves (end.Fault method offset cell)
not_left true method offset cell class below is = absurd (cc)
not_left false method offset cell class below is = is

caught_no_fault : (p : Program) (t : TypeRef) (v : Value) (frames : List Frame) (method : MethodId) (offset cell : ℕ)
    → caught p t v frames ≡ Leaves (end.Fault method offset cell) → ⊥
unfolding caught
caught_no_fault p t v [] method offset cell is = absurd (cc)
caught_no_fault p t v (f ∷ callers) method offset cell is = by_handler (handler_of p f t) is (caught_no_fault p t v callers method offset cell) where
  by_handler : (found : Option ℕ) → caught_in p v f callers found (caught p t v callers) ≡ Leaves (end.Fault method offset cell)
      → (caught p t v callers ≡ Leaves (end.Fault method offset cell) → ⊥) → ⊥
  by_handler (Some handler) e below = absurd (cc)
  by_handler None e below = below (not_left (is_start p.outline f.method) method offset cell _ (caught p t v callers) e)

-- ---- states

-- a whole state that is no fault
pub record IsWholeStill (p : Program) (typings : Typings) (x : State) : Type 0 where
  pub whole : IsWholeBy p typings x
  pub no_fault : HasNoFault x

module _ (p : Program) (typings : Typings) (y : State) (running : y.ended ≡ None) (areas : AreasAreWhole p.outline y.areas) where
  kept_with : (frames : List Frame) → IsSoundBy p typings (record y { frames = frames }) → AllByRecursion (FrameIsWhole p typings y.areas.store) frames
      → IsWholeStill p typings (record y { frames = frames })
  kept_with frames sound whole = record {
    whole = record { sound = sound; frames = whole; areas = areas };
    no_fault = λ method offset cell is. none-some (end.Fault method offset cell) (sym running ∙ is);
  }

  kept_stopped : (e : Ended) → IsSoundBy p typings (stopped y e) → AllByRecursion (FrameIsWhole p typings y.areas.store) y.frames
      → ((method : MethodId) (offset cell : ℕ) → e ≡ end.Fault method offset cell → ⊥) → IsWholeStill p typings (stopped y e)
  kept_stopped e sound whole other = record {
    whole = record { sound = sound; frames = whole; areas = areas };
    no_fault = λ method offset cell is. other method offset cell (same_Some e (end.Fault method offset cell) is);
  }

  either_kept : (b : Bool) (one other : List Frame) → IsSoundBy p typings (cond b (record y { frames = one }) (record y { frames = other }))
      → AllByRecursion (FrameIsWhole p typings y.areas.store) (cond b (record y { frames = one }) (record y { frames = other })).frames
      → IsWholeStill p typings (cond b (record y { frames = one }) (record y { frames = other }))
  either_kept true one other sound whole = kept_with one sound whole
  either_kept false one other sound whole = kept_with other sound whole

  thrown_kept : (t : TypeRef) (v : Value) (frames : List Frame) (c : Caught) → caught p t v frames ≡ c → IsSoundBy p typings (thrown_by y c)
      → AllByRecursion (FrameIsWhole p typings y.areas.store) y.frames
      → ((after : List Frame) → caught p t v frames ≡ InFrames after → AllByRecursion (FrameIsWhole p typings y.areas.store) after)
      → IsWholeStill p typings (thrown_by y c)
  thrown_kept t v frames (InFrames after) is sound whole each = kept_with after sound (each after is)
  thrown_kept t v frames (Leaves e) is sound whole each =
      kept_stopped e sound whole (λ method offset cell same. caught_no_fault p t v frames method offset cell (is ∙ ap Leaves same))

-- ---- after the actions of a step

-- what the rows owe: the effect of each instruction leads on to cells that fit, calls included
abbrev pub RowsOwe : (p : Program) (typings : Typings) → AreTyped p typings → StepsAreResolved p → CellsAreResolved p → Type 0
RowsOwe p typings typed steps cells =
    (x : Areas) (sound : AreasAreSound p.outline x) (areas : AreasAreWhole p.outline x) (f : Frame) (i : Insn) (after : TypeState)
    (h : StandsAtRow p typings f i after) (stands : StandsWithout p typings 0 f) (whole : FrameIsWhole p typings x.store f) (byte : Option ℕ)
    → Whole (row_here p typings typed steps cells x sound areas f i after h stands whole)
    (effect_of p.outline f.method (use_by p f.method i) i byte (sights p.outline x.store f.stack))

module _ (p : Program) (typings : Typings) (steps : StepsAreResolved p) (cells : CellsAreResolved p) (typed : AreTyped p typings) (f : Frame) (i : Insn) (after : TypeState) (h : StandsAtRow p typings f i after) (stands : StandsWithout p typings 0 f) (store : Store) (y : State) (running : y.ended ≡ None) (areas : AreasAreWhole p.outline y.areas) (all : AllByRecursion (FrameIsWhole p typings y.areas.store) y.frames) where
  abbrev o : Outline
  o = p.outline

  abbrev own : ℕ
  own = this_class o f.method

  abbrev news : ℕ → Option TypeRef
  news = made_at p f.method h.code

  returned_kept : (callers : List Frame) → StandBelow p typings f callers → AllByRecursion (FrameIsWhole p typings y.areas.store) callers → (n : ℕ)
      → HaveKinds (result_words o f.method) (take n f.stack) → AllZip (Cell o y.areas.store own news) (result_words o f.method) (take n f.stack)
      → IsSoundBy p typings (returned p n f callers y) → IsWholeStill p typings (returned p n f callers y)
  returned_kept [] below whole n has suits sound = kept_stopped p typings y running areas end.Returned sound all (λ method offset cell is. absurd (cc))
  returned_kept (g ∷ callers) below whole n has suits sound =
      either_kept p typings y running areas (is_start o f.method) (g ∷ callers)
      (record g { item = g.item + 1; stack = take n f.stack ++ g.stack } ∷ callers) sound
      (returned_whole p typings steps.tree typed steps.calls.constructors y.areas.store f g callers below n has own news suits whole y)

  module _ (e : Effect) (made : List ℕ) (went : Went o store (types_after [] e.actions) y.areas made) where
    fits_after : LeavesAs o after f e → HaveKinds (static_slots o) y.areas.statics
        → CellsFit o y.areas.store own news after (written (sources_of f y.areas made) e.writes f.locals) (stack_after (sources_of f y.areas made) e f.stack)
        → FrameFits o y.areas.store own news after (written (sources_of f y.areas made) e.writes f.locals) (stack_after (sources_of f y.areas made) e f.stack)
    fits_after leaves statics fits =
        fits_by o y.areas.store own news after (written (sources_of f y.areas made) e.writes f.locals) (stack_after (sources_of f y.areas made) e f.stack)
        (leaves y.areas made statics) fits

    -- what is thrown is held
    source_holds : (test : TypeRef → Bool) (s : Source) → SourceIsA o store f.stack (types_after [] e.actions) test s
        → HoldsA o y.areas.store test (cell_of (value_of (sources_of f y.areas made) s))
    source_holds test (OfOperand n) is = holds-later o store y.areas.store went.extends test (cell_of (word_at f.stack n)) is
    source_holds test (OfMade n) is =
        let new : IsAn o y.areas.store is.0 _ = went.made n is.0 is.1 in
        record { object = new.object; held = new.held; passes = ap test new.type_is ∙ is.2 }
    source_holds test s is = absurd is

    -- the type at which an exception is caught is that of its object
    caught_type : (v : Value) (object : Object) → object_at y.areas.store (cell_of v) ≡ Some object
        → type_numbered o object.class ≡ type_at o y.areas.store v
    caught_type v object held = ap of_object (sym held) where
      of_object : Option Object → TypeRef
      of_object None = throwable_type o
      of_object (Some found) = type_numbered o found.class

    next_kept : (callers : List Frame) → StandBelow p typings f callers → AllByRecursion (FrameIsWhole p typings y.areas.store) (f ∷ callers) → (next : Next)
        → StepLeads p f i after e next → NextSuits p store own news after f e next
        → IsSoundBy p typings (continued p (sources_of f y.areas made) (record e { next = next }) f callers y)
        → IsWholeStill p typings (continued p (sources_of f y.areas made) (record e { next = next }) f callers y)
    unfolding continued
    next_kept callers below here Falls leads suits sound =
        kept_with p typings y running areas _ sound
        (going_whole p typings steps.tree typed f callers i after h (record e { next = Falls }) tt leads y.areas made
        (fits_after leads.1 sound.areas.statics (suits y.areas made went)) here.1 y)
    next_kept callers below here (Jumps n) leads suits sound =
        kept_with p typings y running areas _ sound
        (going_whole p typings steps.tree typed f callers i after h (record e { next = Jumps n }) tt leads y.areas made
        (fits_after leads.1 sound.areas.statics (suits y.areas made went)) here.1 y)
    next_kept callers below here (JumpsIfSame same) leads suits sound =
        kept_with p typings y running areas _ sound
        (going_whole p typings steps.tree typed f callers i after h (record e { next = JumpsIfSame same }) tt leads y.areas made
        (fits_after leads.2 sound.areas.statics (suits y.areas made went)) here.1 y)
    next_kept callers below here (Calls target) leads suits sound =
        kept_with p typings y running areas _ sound (
          new_frame_whole p typings typed y.areas.store target (reverse (take e.takes f.stack)) sound.frames.0
              (λ code is. cells-later o store y.areas.store _ _ went.extends _ _ (suits code is)),
          (waiting_whole p typings y.areas.store f e.takes stands here.0, here.1),
        )
    next_kept callers below here (Returns n) leads suits sound =
        returned_kept callers below here.1 n leads (cells-later o store y.areas.store own news went.extends _ _ suits) sound
    next_kept callers below here (Throws s) leads suits sound =
        let v : Value = value_of (sources_of f y.areas made) s in
        let t : TypeRef = type_at o y.areas.store v in
        let throwable : TypeRef → Bool = λ u. fits_type o.classes u (throwable_type o) in
        let holds : HoldsA o y.areas.store throwable (cell_of v) = source_holds throwable s suits in
        let type_is : type_numbered o holds.object.class ≡ t = caught_type v holds.object holds.held in
        thrown_kept p typings y running areas t v (f ∷ callers) (caught p t v (f ∷ callers)) refl sound all
        (λ others is. all_caught p (λ u caught fits_it sub. cells.places.subtypes u caught sub) t (subst (λ u. throwable u ≡ true) type_is holds.passes)
        typings steps.tree typed y.areas.store v (leads y.areas made) holds.object holds.held type_is f callers 0 stands below here others is)
    next_kept callers below here (Enters methods) leads suits sound =
        kept_with p typings y running areas _ sound (started_whole p typings typed y.areas.store methods leads (f ∷ callers) here)
    next_kept callers below here (Exits n) leads suits sound =
        kept_stopped p typings y running areas (end.Exit n) sound all (λ method offset cell is. absurd (cc))
    next_kept callers below here (Faults s) leads suits sound = absurd suits

-- ---- a step

module _ (p : Program) (typings : Typings) (typed : AreTyped p typings) (steps : StepsAreResolved p) (makes : MakesAreResolved p) (cells : CellsAreResolved p) (numbers : NumbersAreConstants p.outline) (rows : RowsOwe p typings typed steps cells) (choose : Choose) (z : State) (f : Frame) (callers : List Frame) where
  abbrev oo : Outline
  oo = p.outline

  -- the state, with its frames
  abbrev x : State
  x = record z { frames = f ∷ callers }

  module _ (whole : IsWholeBy p typings x) (not_ended : z.ended ≡ None) where
    abbrev standing : StandsWithout p typings 0 f
    standing = whole.sound.frames.0

    typing : IsTypingOf p f.method standing.code (typings f.method)
    typing = typing_of p typings typed f.method standing.code standing.code_is

    meets : MeetsItem p f.method standing.code (typings f.method) f.item standing.known
    meets = typing.items f.item standing.known standing.at

    kinds : FrameHasKinds standing.known f.locals f.stack
    kinds = record { in_locals = standing.locals; in_stack = standing.stack }

    module _ (i : Insn) (after : TypeState) (insn_is : insn_of standing.code f.item ≡ Some i) (row : row_after oo f.method f.item (made_at p f.method standing.code) (use_by p f.method i) i standing.known ≡ Some after) where
      abbrev at_row : StandsAtRow p typings f i after
      at_row = record {
        code = standing.code;
        code_is = standing.code_is;
        insn_is = insn_is;
        known = standing.known;
        at = standing.at;
        row = row;
        targets = steps.targets f.method standing.code f.item i standing.code_is insn_is;
      }

      abbrev effect : Effect
      effect = effect_of oo f.method (use_by p f.method i) i (slice_get z.input 0) (sights oo z.areas.store f.stack)

      effect_leads_on : (b : Bool) → is_call i ≡ b → CallLeads p f i after effect effect.next
      effect_leads_on true call = calls_lead p typings typed steps.calls f i after at_row kinds call z.areas whole.sound.areas (slice_get z.input 0)
      effect_leads_on false call =
          as_call p steps f i after effect effect.next
          (effect_leads oo standing.known f kinds after i (use_by p f.method i) (made_at p f.method standing.code) (slice_get z.input 0)
          (sights oo z.areas.store f.stack) meets.whole
          (steps.fields f.method i (use_by p f.method i)
          (record { code = standing.code; code_is = standing.code_is; item = f.item; insn_is = insn_is; use_is = refl })) call row)

      found_insn : next_insn p f ≡ Some i
      found_insn = ap (λ found. option_and_then (λ (c : Code). insn_of c f.item) found) standing.code_is ∙ insn_is

      -- what holds of the effect with its class's start
      record Goes (e : Effect) : Type 0 where
        leads : StepLeads p f i after e e.next
        owes : RowIsWhole p z.areas.store (this_class oo f.method) (made_at p f.method standing.code) after f e

      goes : Goes (next_effect p x)
      unfolding next_effect
      goes =
          subst (λ e. Goes (with_start oo z.areas.started e)) (sym (ap (effect_by p x f) found_insn))
          (record {
            leads = class_leads p steps f i after z.areas.started effect effect.starts (effect_leads_on (is_call i) refl);
            owes = start_owes p cells steps.tree numbers z.areas.store f.stack (this_class oo f.method) (made_at p f.method standing.code) after f refl
                z.areas.started effect
                (rows z.areas whole.sound.areas whole.areas f i after at_row standing whole.frames.0 (slice_get z.input 0));
          })

      abbrev actions : List Action
      actions = (next_effect p x).actions

      finished_kept : (price : ℕ) (result : Performed) → WentTo oo z.areas.store (types_after [] actions) result
          → IsSoundBy p typings (finished p price (next_effect p x) x result) → IsWholeStill p typings (finished p price (next_effect p x) x result)
      finished_kept price (Did areas made) went sound =
          let here = frames-later p typings z.areas.store areas.store went.extends (f ∷ callers) whole.frames in
          next_kept p typings steps cells typed f i after at_row standing z.areas.store _ not_ended went.areas here (next_effect p x) made went callers
          whole.sound.frames.1 here (next_effect p x).next goes.leads goes.owes.next sound
      finished_kept price (FullAt areas needed) went sound =
          kept_stopped p typings (record x { areas = areas }) not_ended went.0 _ sound
          (frames-later p typings z.areas.store areas.store went.1 (f ∷ callers) whole.frames) (λ method offset cell is. absurd (cc))
      finished_kept price (LostAt v) went sound = absurd went

      attempt_kept : (is_over oo z.areas actions ≡ false → ActsFit oo z.areas.store f [] actions)
          → IsSoundBy p typings (attempted p (lawful choose) x (next_effect p x)).state
          → IsWholeStill p typings (attempted p (lawful choose) x (next_effect p x)).state
      attempt_kept fit =
          moved_by (λ s. IsSoundBy p typings s → IsWholeStill p typings s) (is_deep x (next_effect p x).next) _ _
          (λ deep sound. kept_stopped p typings x not_ended whole.areas _ sound whole.frames (λ method offset cell is. absurd (cc)))
          (λ shallow. moved_by (λ s. IsSoundBy p typings s → IsWholeStill p typings s) (is_over oo z.areas actions) _ _
          (λ over sound. kept_stopped p typings x not_ended whole.areas _ sound whole.frames (λ method offset cell is. absurd (cc)))
          (λ within sound. finished_kept (max 1 (objects_made actions))
          (performed oo (lawful choose) f.locals f.stack actions z.areas [])
          (acts_go oo (lawful choose) (λ s request. lawful_choice-may s request (choose s request)) z.areas.store f.locals f.stack actions [] z.areas []
          (acts_lead p cells z.areas.store f actions [] (fit within) goes.owes.acts) (went_first oo z.areas whole.areas)) sound))

    frame_kept : (is_over oo z.areas (next_effect p x).actions ≡ false → ActsFit oo z.areas.store f [] (next_effect p x).actions)
        → IsSoundBy p typings (attempted p (lawful choose) x (next_effect p x)).state → IsWholeStill p typings (attempted p (lawful choose) x (next_effect p x)).state
    frame_kept fit =
        let met = met_row p typings f standing.code standing.known meets in attempt_kept met.insn met.after met.insn_is met.row fit

by_frames : (p : Program) (typings : Typings) (typed : AreTyped p typings) (steps : StepsAreResolved p) → MakesAreResolved p → (cells : CellsAreResolved p)
    → NumbersAreConstants p.outline → RowsOwe p typings typed steps cells → (choose : Choose) (z : State) (frames : List Frame)
    → IsWholeBy p typings (record z { frames = frames }) → z.ended ≡ None
    → ((f : Frame) (callers : List Frame) → frames ≡ f ∷ callers → is_over p.outline z.areas (next_effect p (record z { frames = frames })).actions ≡ false
    → ActsFit p.outline z.areas.store f [] (next_effect p (record z { frames = frames })).actions)
    → IsSoundBy p typings (attempted p (lawful choose) (record z { frames = frames }) (next_effect p (record z { frames = frames }))).state
    → IsWholeStill p typings (attempted p (lawful choose) (record z { frames = frames }) (next_effect p (record z { frames = frames }))).state
by_frames p typings typed steps makes cells numbers rows choose z [] whole not_ended fit sound =
    let some = whole.sound.running not_ended in absurd (omega (arith, some))
by_frames p typings typed steps makes cells numbers rows choose z (f ∷ callers) whole not_ended fit sound =
    frame_kept p typings typed steps makes cells numbers rows choose z f callers whole not_ended (fit f callers refl) sound

pub step_kept : (p : Program) (typings : Typings) (typed : AreTyped p typings) (steps : StepsAreResolved p) → MakesAreResolved p → (cells : CellsAreResolved p)
    → NumbersAreConstants p.outline → RowsOwe p typings typed steps cells → (choose : Choose) (x : State) → IsWholeStill p typings x → MakesFew p x
    → IsWholeStill p typings (step p (lawful choose) x).state
unfolding step
step_kept p typings typed steps makes cells numbers rows choose x kept few =
    by_end x.ended refl (step_sound p typings steps choose x kept.whole.sound (λ running. next_acts_fit p typings steps makes x kept.whole.sound few)) where
      moved_with : Option Ended → Moved
      moved_with (Some e) = record { state = x; printed = [] }
      moved_with None = attempted p (lawful choose) x (next_effect p x)

      by_end : (ended : Option Ended) → x.ended ≡ ended → IsSoundBy p typings (moved_with ended).state → IsWholeStill p typings (moved_with ended).state
      by_end (Some e) is sound = kept
      by_end None is sound =
          by_frames p typings typed steps makes cells numbers rows choose x x.frames kept.whole is
          (λ f callers frames within. next_acts_fit p typings steps makes x kept.whole.sound few f callers frames within) sound
