-- A step whose actions fit keeps a state sound.
use Rattle.std.proofs.Common.{◌≡◌, ℕ, ◌+◌, ◌<◌, ◌≤◌, cond, Bool, true, false, List, [], ◌∷◌, ◌++◌, length, max, take, Option, Some, None, option_and_then, refl, sym, ◌∙◌, ap, subst, slice_get, arith}
use Rattle.std.specs.List.{AllByRecursion}
use Rattle.std.proofs.lemmas.Bool.Decides.{nat_tests}
use Rattle.std.proofs.lemmas.List.{length-append, length-map}
use Rattle.fm_base.specs.declared.kinds.TypeRef.{TypeRef}
use Rattle.fm_cells.proofs.Choices.{lawful_choice-may}
use Rattle.fm_cells.specs.Choices.{lawful}
use Rattle.fm_code.specs.Edges.{insn_of}
use Rattle.fm_code.specs.declared.code_array.Code.{Code}
use Rattle.fm_code.specs.declared.instructions.Insn.{Insn}
use Rattle.fm_types.specs.Rows.{row_after}
use Rattle.fm_types.specs.States.{TypeState}
use Rattle.fm_types.specs.Typed.{IsTypingOf, made_at, MeetsItem, use_by}
use Rattle.fm_world.specs.Programs.{Outline, Program}
use Rattle.fm_types.specs.Named.{result_words}
use Rattle.fm_frames.specs.Acts.{Choose, Did, FullAt, LostAt, performed, Performed, value_of}
use Rattle.fm_frames.specs.Effects.{Action, Calls, Effect, Enters, Exits, Falls, Faults, Jumps, JumpsIfSame, Next, Returns, Throws}
use Rattle.fm_frames.specs.Rows.{effect_of}
use Rattle.fm_frames.specs.Sights.{sights}
use Rattle.fm_frames.specs.Starts.{start_actions, start_methods, to_start, with_start}
use Rattle.fm_frames.specs.States.{Areas, Frame, Moved, State}
use Rattle.fm_frames.specs.Steps.{attempted, Caught, caught, caught_in, continued, effect_by, finished, frames_needed, handler_of, InFrames, next_insn, is_deep, is_over, is_start, Leaves, new_frame, next_effect, objects_made, returned, start_frames, step, stopped, thrown_by, type_at}
use Rattle.fm_frames.specs.declared.ends.Ended.{Ended}
use Rattle.fm_frames.specs.declared.ends.Ended.TheVariants as end
use Rattle.fm_frames.specs.declared.values.Value.{Value}
use Rattle.fm_law_sound.specs.Acting.{ActsFit}
use Rattle.fm_law_sound.specs.Going.{CallLeads, StandsAtRow, StartsClass}
use Rattle.fm_law_sound.specs.Laws.{LeavesSound, NextActsFit}
use Rattle.fm_law_sound.specs.Leading.{is_call, LeadsAs, sources_of}
use Rattle.fm_law_sound.specs.Resolved.{StepsAreResolved}
use Rattle.fm_law_sound.specs.Sound.{AreasAreSound, AreTyped, FrameHasKinds, HaveKinds, IsReference, IsSoundBy, Stand, StandBelow, StandsWithout, static_slots, Typings}
use Rattle.fm_law_sound.proofs.ActsKeep.{actions_keep}
use Rattle.fm_law_sound.proofs.CallsLead.{calls_lead}
use Rattle.fm_law_sound.proofs.CallsStand.{called_stand, started_stand}
use Rattle.fm_law_sound.proofs.ClassStarts.{starts_are_methods}
use Rattle.fm_law_sound.proofs.FramesStand.{caught_stand, going_stand, met_row, typing_of}
use Rattle.fm_law_sound.proofs.ReturnsStand.{returned_stand}
use Rattle.fm_law_sound.proofs.Rows.{effect_leads}
use Rattle.fm_law_sound.proofs.StartActs.{after_methods, for_class}

-- ---- how many frames

caught_length : (p : Program) (t : TypeRef) (v : Value) (frames after : List Frame) → caught p t v frames ≡ InFrames after
    → (0 < length after) × (length after ≤ length frames)
unfolding caught
caught_length p t v [] after is = absurd (cc)
caught_length p t v (f ∷ callers) after is = by_handler (handler_of p f t) (caught p t v callers) is (caught_length p t v callers after) where
  by_start : (b : Bool) (left : Ended) (below : Caught) → cond b (Leaves left) below ≡ InFrames after
      → (below ≡ InFrames after → (0 < length after) × (length after ≤ length callers)) → (0 < length after) × (length after ≤ length (f ∷ callers))
  by_start true left below e later = absurd (cc)
  by_start false left below e later = let few = later e in (few.0, let fewer = few.1 in omega (arith, fewer))

  by_handler : (found : Option ℕ) (below : Caught) → caught_in p v f callers found below ≡ InFrames after
      → (below ≡ InFrames after → (0 < length after) × (length after ≤ length callers)) → (0 < length after) × (length after ≤ length (f ∷ callers))
  by_handler (Some handler) below e later =
      let same : record f { item = handler; stack = v ∷ [] } ∷ callers ≡ after = cc in
      subst (λ (frames : List Frame). (0 < length frames) × (length frames ≤ length (f ∷ callers))) same (omega arith, omega arith)
  by_handler None below e later = by_start (is_start p.outline f.method) _ below e later

-- ---- where a step leads

-- as a call may, or to methods that start classes
abbrev pub StepLeads : Program → Frame → Insn → TypeState → Effect → Next → Type 0
StepLeads p f i after e (Enters methods) = AllByRecursion (StartsClass p) methods
StepLeads p f i after e next = CallLeads p f i after e next

module _ (p : Program) (ready : StepsAreResolved p) (f : Frame) (i : Insn) (after : TypeState) where
  pub as_call : (e : Effect) (next : Next) → LeadsAs p.outline i after f e next → CallLeads p f i after e next
  as_call e Falls leads = leads
  as_call e (Jumps n) leads = leads
  as_call e (JumpsIfSame same) leads = leads
  as_call e (Calls target) leads = absurd leads
  as_call e (Returns n) leads = leads
  as_call e (Throws s) leads = leads
  as_call e (Enters methods) leads = absurd leads
  as_call e (Exits n) leads = leads
  as_call e (Faults s) leads = leads

  as_step : (e : Effect) (actions : List Action) (starts : Option ℕ) (next : Next) → CallLeads p f i after e next
      → StepLeads p f i after (record e { starts = starts; actions = actions }) next
  as_step e actions starts Falls leads = leads
  as_step e actions starts (Jumps n) leads = leads
  as_step e actions starts (JumpsIfSame same) leads = leads
  as_step e actions starts (Calls target) leads = leads
  as_step e actions starts (Returns n) leads = leads
  as_step e actions starts (Throws s) leads = leads
  as_step e actions starts (Enters methods) leads = absurd leads
  as_step e actions starts (Exits n) leads = leads
  as_step e actions starts (Faults s) leads = leads

  methods_lead : (classes : List ℕ) (e : Effect) (methods : List ℕ) → AllByRecursion (StartsClass p) methods → CallLeads p f i after e e.next
      → StepLeads p f i after (after_methods p.outline classes e methods) (after_methods p.outline classes e methods).next
  methods_lead classes e [] each leads = as_step e (start_actions p.outline classes ++ e.actions) None e.next leads
  methods_lead classes e (m ∷ methods) each leads = each

  pub class_leads : (started : List Bool) (e : Effect) (class : Option ℕ) → CallLeads p f i after e e.next
      → StepLeads p f i after (for_class p.outline started e class) (for_class p.outline started e class).next
  class_leads started e None leads = as_step e e.actions e.starts e.next leads
  class_leads started e (Some class) leads =
      let classes : List ℕ = to_start p.outline started class in
      methods_lead classes e (start_methods p.outline classes) (starts_are_methods p ready.calls classes) leads

-- ---- states

-- what holds of a state but for its frames
record IsSoundBeside (o : Outline) (x : State) : Type 0 where
  areas : AreasAreSound o x.areas

-- ---- the frames after a step

module _ (p : Program) (typings : Typings) (ready : StepsAreResolved p) (typed : AreTyped p typings) (y : State) (beside : IsSoundBeside p.outline y) where
  sound_with : (frames : List Frame) → Stand p typings frames → 0 < length frames → length frames ≤ y.depth
      → IsSoundBy p typings (record y { frames = frames })
  sound_with frames stand some few = record {
    typed = typed;
    areas = beside.areas;
    frames = stand;
    running = λ running. some;
    within = few;
  }

  sound_stopped : Stand p typings y.frames → length y.frames ≤ y.depth → (e : Ended) → IsSoundBy p typings (stopped y e)
  sound_stopped stand few e = record {
    typed = typed;
    areas = beside.areas;
    frames = stand;
    running = λ running. absurd (cc);
    within = few;
  }

  either_sound : (b : Bool) (one other : List Frame) → Stand p typings (cond b (record y { frames = one }) (record y { frames = other })).frames
      → 0 < length one → 0 < length other → length one ≤ y.depth → length other ≤ y.depth
      → IsSoundBy p typings (cond b (record y { frames = one }) (record y { frames = other }))
  either_sound true one other stand first second few fewer = sound_with one stand first few
  either_sound false one other stand first second few fewer = sound_with other stand second fewer

  module _ (f : Frame) (still : Stand p typings y.frames) (deep : length y.frames ≤ y.depth) where
    returned_sound : (callers : List Frame) → StandBelow p typings f callers → length (f ∷ callers) ≤ y.depth → (n : ℕ)
        → HaveKinds (result_words p.outline f.method) (take n f.stack) → IsSoundBy p typings (returned p n f callers y)
    returned_sound [] below few n has = sound_stopped still deep end.Returned
    returned_sound (g ∷ callers) below few n has =
        either_sound (is_start p.outline f.method) (g ∷ callers) (record g { item = g.item + 1; stack = take n f.stack ++ g.stack } ∷ callers)
        (returned_stand p typings ready.tree typed ready.calls.constructors f g callers below n has y) (omega arith) (omega arith)
        (omega (arith, few)) (omega (arith, few))

    thrown_sound : (callers : List Frame) → StandsWithout p typings 0 f → StandBelow p typings f callers → length (f ∷ callers) ≤ y.depth
        → (t : TypeRef) (v : Value) → IsReference v → (c : Caught) → caught p t v (f ∷ callers) ≡ c → IsSoundBy p typings (thrown_by y c)
    thrown_sound callers stands below few t v reference (InFrames frames) is =
        let many = caught_length p t v (f ∷ callers) frames is in
        let fewer = many.1 in
        sound_with frames (caught_stand p typings typed f callers 0 stands below t v reference frames is) many.0 (omega (arith, few, fewer))
    thrown_sound callers stands below few t v reference (Leaves e) is = sound_stopped still deep e

    module _ (callers : List Frame) (i : Insn) (after : TypeState) (h : StandsAtRow p typings f i after) (kinds : FrameHasKinds h.known f.locals f.stack) (stands : StandsWithout p typings 0 f) (below : StandBelow p typings f callers) (few : length (f ∷ callers) ≤ y.depth) (e : Effect) (areas : Areas) (made : List ℕ) (statics : HaveKinds (static_slots p.outline) areas.statics) where
      next_sound : (next : Next) → StepLeads p f i after e next → length (f ∷ callers) + frames_needed next ≤ y.depth
          → IsSoundBy p typings (continued p (sources_of f areas made) (record e { next = next }) f callers y)
      unfolding continued
      next_sound Falls leads room =
          sound_with _ (going_stand p typings ready.tree typed f callers i after h below (record e { next = Falls }) tt leads areas made statics y)
          (omega arith) few
      next_sound (Jumps n) leads room =
          sound_with _ (going_stand p typings ready.tree typed f callers i after h below (record e { next = Jumps n }) tt leads areas made statics y)
          (omega arith) few
      next_sound (JumpsIfSame same) leads room =
          sound_with _ (going_stand p typings ready.tree typed f callers i after h below (record e { next = JumpsIfSame same }) tt leads areas made statics y)
          (omega arith) few
      next_sound (Calls target) leads room =
          sound_with _ (called_stand p typings typed f callers i after h kinds below target e.takes leads) (omega arith) (omega (arith, room))
      next_sound (Returns n) leads room = returned_sound callers below few n leads
      next_sound (Throws source) leads room =
          let v : Value = value_of (sources_of f areas made) source in
          thrown_sound callers stands below few (type_at p.outline y.areas.store v) v (leads areas made)
          (caught p (type_at p.outline y.areas.store v) v (f ∷ callers)) refl
      next_sound (Enters methods) leads room =
          let count = length-append (start_frames p methods) (f ∷ callers) in
          let each = length-map methods (λ method. new_frame p method []) in
          sound_with _ (started_stand p typings typed methods leads f callers (stands, below)) (omega (arith, count)) (omega (arith, count, each, room))
      next_sound (Exits n) leads room = sound_stopped still deep (end.Exit n)
      next_sound (Faults source) leads room = sound_stopped still deep _

-- ---- a step

-- there is room for the frames that come on top
room_for : (x : State) (next : Next) → is_deep x next ≡ false → length x.frames ≤ x.depth → length x.frames + frames_needed next ≤ x.depth
room_for x (Calls m) shallow few = grind (arith, nat_tests, shallow)
room_for x (Enters methods) shallow few = grind (arith, nat_tests, shallow)
room_for x Falls shallow few = omega (arith, few)
room_for x (Jumps n) shallow few = omega (arith, few)
room_for x (JumpsIfSame same) shallow few = omega (arith, few)
room_for x (Returns n) shallow few = omega (arith, few)
room_for x (Throws source) shallow few = omega (arith, few)
room_for x (Exits n) shallow few = omega (arith, few)
room_for x (Faults source) shallow few = omega (arith, few)

pub moved_by : (P : State → Type 0) (b : Bool) (one other : Moved) → (b ≡ true → P one.state) → (b ≡ false → P other.state) → P (cond b one other).state
moved_by P true one other first second = first refl
moved_by P false one other first second = second refl

module _ (p : Program) (typings : Typings) (ready : StepsAreResolved p) (choose : Choose) (z : State) (f : Frame) (callers : List Frame) where
  -- the state, with its frames
  abbrev x : State
  x = record z { frames = f ∷ callers }

  module _ (sound : IsSoundBy p typings x) (not_ended : z.ended ≡ None) where
    abbrev stands : StandsWithout p typings 0 f
    stands = sound.frames.0

    typing : IsTypingOf p f.method stands.code (typings f.method)
    typing = typing_of p typings sound.typed f.method stands.code stands.code_is

    meets : MeetsItem p f.method stands.code (typings f.method) f.item stands.known
    meets = typing.items f.item stands.known stands.at

    kinds : FrameHasKinds stands.known f.locals f.stack
    kinds = record { in_locals = stands.locals; in_stack = stands.stack }

    module _ (i : Insn) (after : TypeState) (insn_is : insn_of stands.code f.item ≡ Some i) (row : row_after p.outline f.method f.item (made_at p f.method stands.code) (use_by p f.method i) i stands.known ≡ Some after) where
      abbrev at_row : StandsAtRow p typings f i after
      at_row = record {
        code = stands.code;
        code_is = stands.code_is;
        insn_is = insn_is;
        known = stands.known;
        at = stands.at;
        row = row;
        targets = ready.targets f.method stands.code f.item i stands.code_is insn_is;
      }

      abbrev own : Effect
      own = effect_of p.outline f.method (use_by p f.method i) i (slice_get z.input 0) (sights p.outline z.areas.store f.stack)

      own_leads : (b : Bool) → is_call i ≡ b → CallLeads p f i after own own.next
      own_leads true call = calls_lead p typings sound.typed ready.calls f i after at_row kinds call z.areas sound.areas (slice_get z.input 0)
      own_leads false call =
          as_call p ready f i after own own.next
          (effect_leads p.outline stands.known f kinds after i (use_by p f.method i) (made_at p f.method stands.code) (slice_get z.input 0)
          (sights p.outline z.areas.store f.stack) meets.whole
          (ready.fields f.method i (use_by p f.method i)
          (record { code = stands.code; code_is = stands.code_is; item = f.item; insn_is = insn_is; use_is = refl })) call row)

      found_insn : next_insn p f ≡ Some i
      found_insn = ap (λ o. option_and_then (λ (c : Code). insn_of c f.item) o) stands.code_is ∙ insn_is

      step_leads : StepLeads p f i after (next_effect p x) (next_effect p x).next
      unfolding next_effect
      step_leads =
          subst (λ e. StepLeads p f i after (with_start p.outline z.areas.started e) (with_start p.outline z.areas.started e).next)
          (sym (ap (effect_by p x f) found_insn))
          (class_leads p ready f i after z.areas.started own own.starts (own_leads (is_call i) refl))

      finished_sound : (price : ℕ) → is_deep x (next_effect p x).next ≡ false → (result : Performed) → LeavesSound p.outline result
          → IsSoundBy p typings (finished p price (next_effect p x) x result)
      finished_sound price shallow (Did areas made) kept =
          next_sound p typings ready sound.typed _ (record { areas = kept }) f sound.frames sound.within callers i after at_row
          kinds stands sound.frames.1 sound.within (next_effect p x) areas made kept.statics (next_effect p x).next step_leads
          (room_for x (next_effect p x).next shallow sound.within)
      finished_sound price shallow (FullAt areas needed) kept =
          sound_stopped p typings ready sound.typed (record x { areas = areas }) (record { areas = kept }) sound.frames sound.within _
      finished_sound price shallow (LostAt v) kept =
          sound_stopped p typings ready sound.typed x (record { areas = sound.areas }) sound.frames sound.within _

      attempt_sound : (is_over p.outline z.areas (next_effect p x).actions ≡ false → ActsFit p.outline z.areas.store f [] (next_effect p x).actions)
          → IsSoundBy p typings (attempted p (lawful choose) x (next_effect p x)).state
      attempt_sound fit =
          let beside : IsSoundBeside p.outline x = record { areas = sound.areas } in
          moved_by (IsSoundBy p typings) (is_deep x (next_effect p x).next) _ _
          (λ deep. sound_stopped p typings ready sound.typed x beside sound.frames sound.within _)
          (λ shallow. moved_by (IsSoundBy p typings) (is_over p.outline z.areas (next_effect p x).actions) _ _
          (λ over. sound_stopped p typings ready sound.typed x beside sound.frames sound.within _)
          (λ within. finished_sound (max 1 (objects_made (next_effect p x).actions)) shallow
          (performed p.outline (lawful choose) f.locals f.stack (next_effect p x).actions z.areas [])
          (actions_keep p.outline ready.calls.runnable.sizes (lawful choose) (λ s request. lawful_choice-may s request (choose s request)) f z.areas
          (next_effect p x).actions sound.areas (fit within))))

    frame_sound : (is_over p.outline z.areas (next_effect p x).actions ≡ false → ActsFit p.outline z.areas.store f [] (next_effect p x).actions)
        → IsSoundBy p typings (attempted p (lawful choose) x (next_effect p x)).state
    frame_sound fit =
        let met = met_row p typings f stands.code stands.known meets in attempt_sound met.insn met.after met.insn_is met.row fit

by_frames : (p : Program) (typings : Typings) → StepsAreResolved p → (choose : Choose) (z : State) (frames : List Frame)
    → IsSoundBy p typings (record z { frames = frames }) → z.ended ≡ None
    → ((f : Frame) (callers : List Frame) → frames ≡ f ∷ callers → is_over p.outline z.areas (next_effect p (record z { frames = frames })).actions ≡ false
    → ActsFit p.outline z.areas.store f [] (next_effect p (record z { frames = frames })).actions)
    → IsSoundBy p typings (attempted p (lawful choose) (record z { frames = frames }) (next_effect p (record z { frames = frames }))).state
by_frames p typings ready choose z [] sound not_ended fit = let some = sound.running not_ended in absurd (omega (arith, some))
by_frames p typings ready choose z (f ∷ callers) sound not_ended fit = frame_sound p typings ready choose z f callers sound not_ended (fit f callers refl)

pub step_sound : (p : Program) (typings : Typings) → StepsAreResolved p → (choose : Choose) (x : State) → IsSoundBy p typings x
    → (x.ended ≡ None → NextActsFit p x) → IsSoundBy p typings (step p (lawful choose) x).state
unfolding step
step_sound p typings ready choose x sound fit = by_end x.ended refl where
  moved_with : Option Ended → Moved
  moved_with (Some e) = record { state = x; printed = [] }
  moved_with None = attempted p (lawful choose) x (next_effect p x)

  by_end : (ended : Option Ended) → x.ended ≡ ended → IsSoundBy p typings (moved_with ended).state
  by_end (Some e) is = sound
  by_end None is = by_frames p typings ready choose x x.frames sound is (λ f callers frames. fit is f callers frames)
