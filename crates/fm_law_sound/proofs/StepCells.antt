-- A step leads to no cell but to those to which the state led, and those that are held after it.
use Rattle.std.proofs.Common.{◌≡◌, ℕ, ◌+◌, ◌-◌, max, Bool, true, false, cond, List, [], ◌∷◌, ◌++◌, length, map, take, drop, reverse, replicate, Option, Some, None, refl, sym, ◌∙◌, ap, subst, slice_set, slice_index_or, arith}
use Rattle.std.specs.List.{All, AllByRecursion}
use Rattle.std.proofs.lemmas.List.{get_or-reverse, length-reverse}
use Rattle.std.proofs.lemmas.List.Elements.{All-append, All-cons, All-drop, All-from_recursion, All-head, All-map, All-nil, All-replicate, All-set, All-tail, All-take, All-weaker}
use Rattle.fm_base.specs.declared.kinds.TypeRef.{TypeRef}
use Rattle.fm_cells.proofs.Choices.{lawful_choice-may}
use Rattle.fm_cells.specs.Choices.{lawful}
use Rattle.fm_cells.specs.Soundness.{CellsFit}
use Rattle.fm_world.specs.Programs.{Outline, Program}
use Rattle.fm_frames.specs.Acts.{Choose, Did, FullAt, LostAt, performed, Performed, Sources, value_of}
use Rattle.fm_frames.specs.Effects.{Effect, Next, Falls, Jumps, JumpsIfSame, Calls, Returns, Throws, Enters, Exits, Faults, Source}
use Rattle.fm_frames.specs.States.{Areas, Frame, Moved, State}
use Rattle.fm_frames.specs.Steps.{attempted, caught, caught_in, Caught, continued, finished, InFrames, input_after, is_deep, is_done, is_over, is_start, Leaves, max_locals_of, new_frame, next_effect, objects_made, returned, start_frames, step, stopped, thrown_by, type_at, went, written}
use Rattle.fm_frames.specs.Steps as steps
use Rattle.fm_frames.specs.declared.ends.Ended.{Ended}
use Rattle.fm_frames.specs.declared.values.Value.{Value}
use Rattle.fm_frames.specs.declared.values.Value.TheVariants as value
use Rattle.fm_law_sound.specs.HeldCells.{AreasLeadWithin, FrameLeadsWithin, HoldsCells, LeadsWithin}
use Rattle.fm_law_sound.specs.Leading.{sources_of}
use Rattle.fm_law_sound.specs.Making.{MakesAreResolved, MakesFew}
use Rattle.fm_law_sound.specs.Placing.{PlacesAgree, ReadAgrees, thrown_in}
use Rattle.fm_law_sound.specs.Resolved.{StepsAreResolved}
use Rattle.fm_law_sound.specs.Sound.{IsSoundBy, Typings}
use Rattle.fm_law_sound.proofs.CellsKeep.{actions_hold, FitsHeld, LeadWithin, source_within}
use Rattle.fm_law_sound.proofs.Following.{continued_is, followed, followed_areas}
use Rattle.fm_law_sound.proofs.HiddenFields.{text_first}
use Rattle.fm_law_sound.proofs.NextActs.{next_acts_fit}
use Rattle.fm_law_sound.proofs.NextPlaces.{next_agrees}
use Rattle.fm_law_sound.proofs.StartActs.{all_after}
use Rattle.fm_law_sound.proofs.StepsSound.{moved_by}

-- ---- frames

reversed_within : (words : List Value) → All LeadsWithin words → All LeadsWithin (reverse words)
reversed_within words all n d inside =
    let long : length (reverse words) ≡ length words = length-reverse words in
    subst LeadsWithin (sym (get_or-reverse words n d (omega (arith, inside, long)))) (all (length words - 1 - n) d (omega (arith, inside, long)))

-- the frame of a method
pub new_frame_within : (p : Program) (method : ℕ) (arguments : List Value) → All LeadsWithin arguments → FrameLeadsWithin (new_frame p method arguments)
new_frame_within p method arguments all =
    let empty : LeadsWithin value.Top = omega arith in
    record {
      locals = All-append LeadsWithin arguments (replicate (max_locals_of p method - length arguments) value.Top) all
          (All-replicate LeadsWithin (max_locals_of p method - length arguments) value.Top empty);
      stack = All-nil LeadsWithin;
    }

pub start_frames_within : (p : Program) (methods : List ℕ) → All FrameLeadsWithin (start_frames p methods)
start_frames_within p methods =
    All-map FrameLeadsWithin (λ method. new_frame p method []) methods
    (λ n d inside. new_frame_within p (slice_index_or methods n d) [] (All-nil LeadsWithin))

-- the frames after an exception that one of them catches
caught_within : (p : Program) (t : TypeRef) (v : Value) → LeadsWithin v → (frames after : List Frame) → All FrameLeadsWithin frames
    → caught p t v frames ≡ InFrames after → All FrameLeadsWithin after
unfolding caught
caught_within p t v fits [] after all is = absurd (cc)
caught_within p t v fits (f ∷ callers) after all is =
    by_handler (steps.handler_of p f t) (caught p t v callers) is (caught_within p t v fits callers after (All-tail FrameLeadsWithin f callers all)) where
      by_start : (b : Bool) (left : Ended) (below : Caught) → cond b (Leaves left) below ≡ InFrames after
          → (below ≡ InFrames after → All FrameLeadsWithin after) → All FrameLeadsWithin after
      by_start true left below e later = absurd (cc)
      by_start false left below e later = later e

      by_handler : (found : Option ℕ) (below : Caught) → caught_in p v f callers found below ≡ InFrames after
          → (below ≡ InFrames after → All FrameLeadsWithin after) → All FrameLeadsWithin after
      by_handler (Some handler) below e later =
          let same : record f { item = handler; stack = v ∷ [] } ∷ callers ≡ after = cc in
          let first : FrameLeadsWithin f = All-head FrameLeadsWithin f callers all in
          subst (All FrameLeadsWithin) same
          (All-cons FrameLeadsWithin (record f { item = handler; stack = v ∷ [] }) callers
          (record { locals = first.locals; stack = All-cons LeadsWithin v [] fits (All-nil LeadsWithin) })
          (All-tail FrameLeadsWithin f callers all))
      by_handler None below e later = by_start (is_start p.outline f.method) _ below e later

-- the locals after writes
written_within : (from : Sources) (P : Source → Type 0) → ((s : Source) → P s → LeadsWithin (value_of from s)) → (writes : List (ℕ × Source))
    → AllByRecursion P (map (λ (w : ℕ × Source). w.1) writes) → (locals : List Value) → All LeadsWithin locals → All LeadsWithin (written from writes locals)
written_within from P fits [] reads locals all = all
written_within from P fits (w ∷ writes) reads locals all =
    written_within from P fits writes reads.1 (slice_set locals w.0 (value_of from w.1))
    (All-set LeadsWithin locals w.0 (value_of from w.1) (fits w.1 reads.0) all)

pub all_before : (P : Source → Type 0) (xs ys : List Source) → AllByRecursion P (xs ++ ys) → AllByRecursion P xs
all_before P [] ys all = tt
all_before P (x ∷ xs) ys all = (all.0, all_before P xs ys all.1)

-- ---- what comes next

module _ (p : Program) (from : Sources) (P : Source → Type 0) (fits : (s : Source) → P s → LeadsWithin (value_of from s)) (e : Effect) (writes : AllByRecursion P (map (λ (w : ℕ × Source). w.1) e.writes)) (gives : AllByRecursion P e.gives) (f : Frame) (callers : List Frame) (within : FrameLeadsWithin f) (below : All FrameLeadsWithin callers) (y : State) (frames : All FrameLeadsWithin y.frames) (leads : AreasLeadWithin p.outline y.areas) where
  with_frames : (others : List Frame) → All FrameLeadsWithin others → HoldsCells p (record y { frames = others })
  with_frames others all = record { frames = all; areas = leads }

  stays : (ended : Ended) → HoldsCells p (stopped y ended)
  stays ended = record { frames = frames; areas = leads }

  went_within : (item : ℕ) → All FrameLeadsWithin (went from e f item ∷ callers)
  went_within item =
      All-cons FrameLeadsWithin (went from e f item) callers (record {
        locals = written_within from P fits e.writes writes f.locals within.locals;
        stack = All-append LeadsWithin (map (value_of from) e.gives) (drop e.takes f.stack)
            (All-map LeadsWithin (value_of from) e.gives (All-weaker P (λ s. LeadsWithin (value_of from s)) fits e.gives (All-from_recursion P e.gives gives)))
            (All-drop LeadsWithin e.takes f.stack within.stack);
      }) below

  returned_within : (n : ℕ) (others : List Frame) → All FrameLeadsWithin others → HoldsCells p (returned p n f others y)
  returned_within n [] all = stays _
  returned_within n (g ∷ others) all = by_start (is_start p.outline f.method) where
    first : FrameLeadsWithin g
    first = All-head FrameLeadsWithin g others all

    by_start : (b : Bool)
        → HoldsCells p (cond b (record y { frames = g ∷ others })
        (record y { frames = record g { item = g.item + 1; stack = take n f.stack ++ g.stack } ∷ others }))
    by_start true = with_frames (g ∷ others) all
    by_start false =
        with_frames (record g { item = g.item + 1; stack = take n f.stack ++ g.stack } ∷ others)
        (All-cons FrameLeadsWithin (record g { item = g.item + 1; stack = take n f.stack ++ g.stack }) others (record {
          locals = first.locals;
          stack = All-append LeadsWithin (take n f.stack) g.stack (All-take LeadsWithin n f.stack within.stack) first.stack;
        }) (All-tail FrameLeadsWithin g others all))

  thrown_within : (v : Value) → LeadsWithin v → (c : Caught) → caught p (type_at p.outline y.areas.store v) v (f ∷ callers) ≡ c → HoldsCells p (thrown_by y c)
  thrown_within v small (InFrames others) is =
      with_frames others
      (caught_within p (type_at p.outline y.areas.store v) v small (f ∷ callers) others (All-cons FrameLeadsWithin f callers within below) is)
  thrown_within v small (Leaves ended) is = stays ended

  pub next_holds : (next : Next) → AllByRecursion P (thrown_in next) → HoldsCells p (followed p from e f callers y next)
  next_holds Falls thrown = with_frames _ (went_within (f.item + 1))
  next_holds (Jumps n) thrown = with_frames _ (went_within _)
  next_holds (JumpsIfSame same) thrown = with_frames _ (went_within _)
  next_holds (Calls m) thrown =
      with_frames _
      (All-cons FrameLeadsWithin (new_frame p m (reverse (take e.takes f.stack))) (record f { stack = drop e.takes f.stack } ∷ callers)
      (new_frame_within p m (reverse (take e.takes f.stack)) (reversed_within (take e.takes f.stack) (All-take LeadsWithin e.takes f.stack within.stack)))
      (All-cons FrameLeadsWithin (record f { stack = drop e.takes f.stack }) callers
      (record { locals = within.locals; stack = All-drop LeadsWithin e.takes f.stack within.stack }) below))
  next_holds (Returns n) thrown = returned_within n callers below
  next_holds (Throws source) thrown = thrown_within (value_of from source) (fits source thrown.0) _ refl
  next_holds (Enters methods) thrown =
      with_frames _
      (All-append FrameLeadsWithin (start_frames p methods) (f ∷ callers) (start_frames_within p methods) (All-cons FrameLeadsWithin f callers within below))
  next_holds (Exits n) thrown = stays _
  next_holds (Faults source) thrown = stays _

-- ---- a step

-- where what is held has cells within the range, the state leads to such cells
abbrev pub Holds : Program → State → Type 0
Holds p y = CellsFit y.areas.store → HoldsCells p y

module _ (p : Program) (typings : Typings) (ready : StepsAreResolved p) (made : MakesAreResolved p) (choose : Choose) (z : State) (f : Frame) (callers : List Frame) where
  -- the state, with its frames
  abbrev x : State
  x = record z { frames = f ∷ callers }

  abbrev o : Outline
  o = p.outline

  module _ (sound : IsSoundBy p typings x) (makes : MakesFew p x) (holds : HoldsCells p x) where
    abbrev e : Effect
    e = next_effect p x

    within : FrameLeadsWithin f
    within = All-head FrameLeadsWithin f callers holds.frames

    agrees : PlacesAgree o z.areas.store f.stack e
    agrees = next_agrees p typings ready (text_first p made.makeable.runnable made.makeable.tree) z f callers sound.frames.0

    abbrev R : Source → Type 0
    R s = ReadAgrees o z.areas.store f.stack s

    -- once all actions are done
    done_holds : (y : State) → y.frames ≡ f ∷ callers → (cells : List ℕ) → LeadWithin o z.areas.store (Did y.areas cells)
        → HoldsCells p (continued p (sources_of f y.areas cells) e f callers y)
    done_holds y same cells leads =
        let from : Sources = sources_of f y.areas cells in
        let front : AllByRecursion R (thrown_in e.next ++ map (λ (w : ℕ × Source). w.1) e.writes) =
        all_before R (thrown_in e.next ++ map (λ (w : ℕ × Source). w.1) e.writes) e.gives agrees.reads in
        subst (HoldsCells p) (sym (continued_is p from e f callers y))
        (next_holds p from R (source_within o z.areas.store f within y.areas cells leads.0 leads.1 leads.2) e
        (all_after R (thrown_in e.next) (map (λ (w : ℕ × Source). w.1) e.writes) front)
        (all_after R (thrown_in e.next ++ map (λ (w : ℕ × Source). w.1) e.writes) e.gives agrees.reads)
        f callers within (All-tail FrameLeadsWithin f callers holds.frames) y (subst (All FrameLeadsWithin) (sym same) holds.frames) leads.0
        e.next (all_before R (thrown_in e.next) (map (λ (w : ℕ × Source). w.1) e.writes) front))

    -- the state after all actions are done, before what comes next
    abbrev done : ℕ → Areas → State
    done price areas = record x { areas = areas; input = input_after e.reads z.input; steps = cond (is_done e.next) (z.steps + price) z.steps }

    areas_are : (price : ℕ) (areas : Areas) (cells : List ℕ) → (finished p price e x (Did areas cells)).areas ≡ areas
    areas_are price areas cells =
        let from : Sources = sources_of f areas cells in
        ap (λ (y : State). y.areas) (continued_is p from e f callers (done price areas)) ∙ followed_areas p from e f callers (done price areas) e.next

    finished_holds : (price : ℕ) (result : Performed) → (FitsHeld result → LeadWithin o z.areas.store result) → Holds p (finished p price e x result)
    finished_holds price (Did areas cells) leads fits =
        done_holds (done price areas) refl cells (leads (subst (λ (y : Areas). CellsFit y.store) (areas_are price areas cells) fits))
    finished_holds price (FullAt areas needed) leads fits = record { frames = holds.frames; areas = leads fits }
    finished_holds price (LostAt v) leads fits = record { frames = holds.frames; areas = holds.areas }

    as_it_was : (ended : Ended) → HoldsCells p (stopped x ended)
    as_it_was ended = record { frames = holds.frames; areas = holds.areas }

    frame_holds : Holds p (attempted p (lawful choose) x e).state
    frame_holds =
        moved_by (Holds p) (is_deep x e.next) _ _ (λ deep fits. as_it_was _)
        (λ shallow. moved_by (Holds p) (is_over o z.areas e.actions) _ _ (λ over fits. as_it_was _)
        (λ few. finished_holds (max 1 (objects_made e.actions)) (performed o (lawful choose) f.locals f.stack e.actions z.areas [])
        (actions_hold o ready.calls.runnable.sizes (lawful choose) (λ s request. lawful_choice-may s request (choose s request)) f within z.areas
        e.actions sound.areas (next_acts_fit p typings ready made x sound makes f callers refl few) agrees.puts holds.areas)))

by_frames : (p : Program) (typings : Typings) → StepsAreResolved p → MakesAreResolved p → (choose : Choose) (z : State) (frames : List Frame)
    → IsSoundBy p typings (record z { frames = frames }) → MakesFew p (record z { frames = frames }) → HoldsCells p (record z { frames = frames })
    → z.ended ≡ None
    → Holds p (attempted p (lawful choose) (record z { frames = frames }) (next_effect p (record z { frames = frames }))).state
by_frames p typings ready made choose z [] sound makes holds running = let some = sound.running running in absurd (omega (arith, some))
by_frames p typings ready made choose z (f ∷ callers) sound makes holds running = frame_holds p typings ready made choose z f callers sound makes holds

pub step_holds : (p : Program) (typings : Typings) → StepsAreResolved p → MakesAreResolved p → (choose : Choose) (x : State) → IsSoundBy p typings x
    → MakesFew p x → HoldsCells p x → CellsFit (step p (lawful choose) x).state.areas.store → HoldsCells p (step p (lawful choose) x).state
unfolding step
step_holds p typings ready made choose x sound makes holds = by_end x.ended refl where
  moved_with : Option Ended → Moved
  moved_with (Some ended) = record { state = x; printed = [] }
  moved_with None = attempted p (lawful choose) x (next_effect p x)

  by_end : (ended : Option Ended) → x.ended ≡ ended → Holds p (moved_with ended).state
  by_end (Some ended) is = λ fits. holds
  by_end None is = by_frames p typings ready made choose x x.frames sound makes holds is
