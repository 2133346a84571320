-- The machine doesn't look at which classes are made: a step and a run of a narrowed program are those of the program.
use Rattle.std.proofs.Common.{◌≡◌, ℕ, zero, suc, ◌+◌, ◌-◌, ◌++◌, cond, drop, max, not, Bool, List, [], ◌∷◌, length, replicate, reverse, take, Option, Some, None, option_and_then, refl, sym, ◌∙◌, ap, slice_get, slice_index_or}
use Rattle.fm_base.specs.declared.kinds.TypeRef.{TypeRef}
use Rattle.fm_cells.specs.Stores.{live_words, Store}
use Rattle.fm_code.specs.declared.code_array.Code.{Code}
use Rattle.fm_code.specs.declared.code_array.Handler.{Handler}
use Rattle.fm_code.specs.declared.instructions.Insn.{Insn}
use Rattle.fm_frames.proofs.StepCounts.{step_is, stepped}
use Rattle.fm_frames.specs.Acts.{cell_of, Choose, Did, FullAt, LostAt, performed, Performed, same_cell, Sources, value_of}
use Rattle.fm_frames.specs.Effects.{Action, Calls, Effect, Enters, Exits, Falls, Faults, Jumps, JumpsIfSame, Next, Returns, Throws}
use Rattle.fm_frames.specs.Rows.{effect_of}
use Rattle.fm_frames.specs.Runs.{after, after_action, first_areas, framed, Job, opened_by, opening, opening_actions, opening_frames, unopened, with_streams}
use Rattle.fm_frames.specs.Sights.{sights}
use Rattle.fm_frames.specs.Starts.{start_actions, start_methods, to_start, with_start}
use Rattle.fm_frames.specs.States.{Frame, Moved, ref, State, word_at}
use Rattle.fm_frames.specs.Steps.{attempted, caught, Caught, caught_in, catches, cost, effect_at, effect_by, fault_of, finished, halted, handler_among, handler_of, input_after, is_deep, is_done, is_over, locals_of, max_locals_of, new_frame, next_effect, next_insn, objects_made, offset_at, printed_by, returned, stack_of, start_frames, step, stopped, target_at, thrown_by, type_at, words_made}
use Rattle.fm_frames.specs.Steps as steps
use Rattle.fm_frames.specs.declared.ends.Ended.{Ended}
use Rattle.fm_frames.specs.declared.ends.Ended.TheVariants as end
use Rattle.fm_frames.specs.declared.values.Value.{Value}
use Rattle.fm_frames.specs.declared.values.Value.TheVariants as value
use Rattle.fm_law_reached.specs.Laws.{NarrowedCostsAreSame, NarrowedRunsAreSame, NarrowedStepsAreSame}
use Rattle.fm_law_sound.proofs.Following.{continued_is, followed}
use Rattle.fm_law_sound.proofs.FramesStand.{target_in}
use Rattle.fm_place.proofs.SameTypings.{used_same}
use Rattle.fm_place.specs.Safe.{narrowed_to}
use Rattle.fm_world.specs.Programs.{code_at, Program}

-- how many locals a method has, by its code
abbrev locals_in : Program → ℕ → Option Code → ℕ
locals_in p method None = 0
locals_in p method (Some code) = code.max_locals

-- a fault in the topmost of these frames
abbrev fault_in : Program → State → Value → List Frame → Ended
fault_in p x v [] = end.Fault (record { 0 = 0 }) 0 (cell_of v)
fault_in p x v (f ∷ callers) = end.Fault (record { 0 = f.method }) (offset_at p f) (cell_of v)

module _ (p : Program) (made : Option (List Bool)) where
  abbrev q : Program
  q = narrowed_to p made

  -- ---- the next effect

  effect_same : (x : State) (f : Frame) (found : Option Insn) → effect_by q x f found ≡ effect_by p x f found
  effect_same x f None = refl
  effect_same x f (Some i) =
      ap (λ u. effect_of p.outline f.method u i (slice_get x.input 0) (sights p.outline x.areas.store f.stack)) (used_same p q refl refl f.method i)

  topmost_same : (y : State) (frames : List Frame) → effect_at q (record y { frames = frames }) ≡ effect_at p (record y { frames = frames })
  topmost_same y [] = refl
  topmost_same y (f ∷ callers) = effect_same (record y { frames = f ∷ callers }) f (next_insn p f)

  next_same : (x : State) → next_effect q x ≡ next_effect p x
  unfolding next_effect
  next_same x = ap (with_start p.outline x.areas.started) (topmost_same x x.frames)

  -- ---- exceptions

  among_same : (f : Frame) (t : TypeRef) (handlers : List Handler) → handler_among q f t handlers ≡ handler_among p f t handlers
  among_same f t [] = refl
  among_same f t (h ∷ handlers) = ap (cond (catches p f t h) (Some h.handler)) (among_same f t handlers)

  handler_same : (f : Frame) (t : TypeRef) → handler_of q f t ≡ handler_of p f t
  handler_same f t = by_code (code_at p f.method) where
    by_code : (found : Option Code)
        → option_and_then (λ (code : Code). handler_among q f t code.handlers) found
        ≡ option_and_then (λ (code : Code). handler_among p f t code.handlers) found
    by_code None = refl
    by_code (Some code) = among_same f t code.handlers

  in_same : (v : Value) (f : Frame) (callers : List Frame) (found : Option ℕ) (below : Caught)
      → caught_in q v f callers found below ≡ caught_in p v f callers found below
  in_same v f callers None below = refl
  in_same v f callers (Some handler) below = refl

  caught_same : (t : TypeRef) (v : Value) (frames : List Frame) → caught q t v frames ≡ caught p t v frames
  unfolding caught
  caught_same t v [] = refl
  caught_same t v (f ∷ callers) =
      ap (λ found. caught_in q v f callers found (caught q t v callers)) (handler_same f t)
      ∙ in_same v f callers (handler_of p f t) (caught q t v callers) ∙ ap (caught_in p v f callers (handler_of p f t)) (caught_same t v callers)

  -- ---- frames

  pub locals_same : (method : ℕ) → max_locals_of q method ≡ max_locals_of p method
  locals_same method = by_code (code_at p method) where
    by_code : (found : Option Code) → locals_in q method found ≡ locals_in p method found
    by_code None = refl
    by_code (Some code) = refl

  frame_same : (method : ℕ) (arguments : List Value) → new_frame q method arguments ≡ new_frame p method arguments
  frame_same method arguments = ap made_of (locals_same method) where
    made_of : ℕ → Frame
    made_of count = record {
      method = method;
      item = 0;
      locals = arguments ++ replicate (count - length arguments) value.Top;
      stack = [];
    }

  starts_same : (methods : List ℕ) → start_frames q methods ≡ start_frames p methods
  starts_same [] = refl
  starts_same (m ∷ methods) = λ j. frame_same m [] j ∷ starts_same methods j

  returned_same : (n : ℕ) (f : Frame) (callers : List Frame) (x : State) → returned q n f callers x ≡ returned p n f callers x
  returned_same n f [] x = refl
  returned_same n f (g ∷ callers) x = refl

  fault_same : (x : State) (v : Value) → fault_of q x v ≡ fault_of p x v
  fault_same x v = by_frames x.frames where
    by_frames : (frames : List Frame) → fault_in q x v frames ≡ fault_in p x v frames
    by_frames [] = refl
    by_frames (f ∷ callers) = refl

  target_same : (f : Frame) (n : ℕ) → target_at q f n ≡ target_at p f n
  target_same f n =
      let one : target_at q f n ≡ target_in n f.item (next_insn p f) = refl in
      let other : target_at p f n ≡ target_in n f.item (next_insn p f) = refl in
      one ∙ sym other

  followed_same : (from : Sources) (e : Effect) (f : Frame) (callers : List Frame) (x : State) (nx : Next)
      → followed q from e f callers x nx ≡ followed p from e f callers x nx
  followed_same from e f callers x Falls = refl
  followed_same from e f callers x (Jumps n) = ap (λ item. record x { frames = steps.went from e f item ∷ callers }) (target_same f n)
  followed_same from e f callers x (JumpsIfSame same) =
      let is_same : Bool = same_cell (word_at f.stack 0) (word_at f.stack 1) in
      ap (λ item. record x { frames = steps.went from e f (cond (cond same is_same (not is_same)) item (f.item + 1)) ∷ callers }) (target_same f 0)
  followed_same from e f callers x (Calls m) =
      ap (λ g. record x { frames = g ∷ record f { stack = drop e.takes f.stack } ∷ callers }) (frame_same m (reverse (take e.takes f.stack)))
  followed_same from e f callers x (Returns n) = returned_same n f callers x
  followed_same from e f callers x (Throws source) =
      ap (thrown_by x) (caught_same (type_at p.outline x.areas.store (value_of from source)) (value_of from source) (f ∷ callers))
  followed_same from e f callers x (Enters methods) = ap (λ frames. record x { frames = frames ++ f ∷ callers }) (starts_same methods)
  followed_same from e f callers x (Exits n) = refl
  followed_same from e f callers x (Faults source) = ap (stopped x) (fault_same x (value_of from source))

  -- ---- a step

  finished_same : (price : ℕ) (e : Effect) (y : State) (frames : List Frame) (r : Performed)
      → finished q price e (record y { frames = frames }) r ≡ finished p price e (record y { frames = frames }) r
  finished_same price e y frames (FullAt areas needed) = refl
  finished_same price e y frames (LostAt v) = ap (stopped (record y { frames = frames })) (fault_same (record y { frames = frames }) v)
  finished_same price e y [] (Did areas cells) = refl
  finished_same price e y (f ∷ callers) (Did areas cells) =
      let x : State = record (record y { frames = f ∷ callers }) {
        areas = areas;
        input = input_after e.reads y.input;
        steps = cond (is_done e.next) (y.steps + price) y.steps;
      } in
      let from : Sources = record { locals = f.locals; stack = f.stack; areas = areas; made = cells } in
      continued_is q from e f callers x ∙ followed_same from e f callers x e.next ∙ sym (continued_is p from e f callers x)

  attempted_same : (choose : Choose) (x : State) (e : Effect) → attempted q choose x e ≡ attempted p choose x e
  attempted_same choose x e =
      let result : Performed = performed p.outline choose (locals_of x) (stack_of x) e.actions x.areas [] in
      let over : Moved = halted x (end.Exhausted (live_words x.areas.store) (words_made p.outline x.areas e.actions)) in
      ap (λ (state : State). cond (is_deep x e.next) (halted x (end.TooDeep (length x.frames)))
      (cond (is_over p.outline x.areas e.actions) over (record { state = state; printed = printed_by e result })))
      (finished_same (max 1 (objects_made e.actions)) e x x.frames result)

  stepped_same : (choose : Choose) (x : State) (ended : Option Ended) → stepped q choose x ended ≡ stepped p choose x ended
  stepped_same choose x (Some e) = refl
  stepped_same choose x None = ap (attempted q choose x) (next_same x) ∙ attempted_same choose x (next_effect p x)

  step_same : (choose : Choose) (x : State) → step q choose x ≡ step p choose x
  step_same choose x = step_is q choose x ∙ stepped_same choose x x.ended ∙ sym (step_is p choose x)

  -- ---- the opening

  action_same : (x : State) (r : Performed) (one other : State → List ℕ → State) → ((y : State) (cells : List ℕ) → one y cells ≡ other y cells)
      → after_action x r one ≡ after_action x r other
  action_same x (Did areas cells) one other each = each (record x { areas = areas }) cells
  action_same x (FullAt areas needed) one other each = refl
  action_same x (LostAt v) one other each = refl

  opened_same : (choose : Choose) (actions : List Action) (x : State) (cells : List ℕ) (one other : State → List ℕ → State)
      → ((y : State) (later : List ℕ) → one y later ≡ other y later)
      → opened_by q choose actions x cells one ≡ opened_by p choose actions x cells other
  opened_same choose [] x cells one other each = each x cells
  opened_same choose (action ∷ more) x cells one other each =
      ap (cond (is_over p.outline x.areas (action ∷ [])) (stopped x (end.Exhausted (live_words x.areas.store) (words_made p.outline x.areas (action ∷ [])))))
      (action_same x (performed p.outline choose [] [] (action ∷ []) x.areas cells) (λ y later. opened_by q choose more y later one)
      (λ y later. opened_by p choose more y later other) (λ y later. opened_same choose more y later one other each))

  frames_same : (methods : List ℕ) (cell : ℕ) → opening_frames q methods cell ≡ opening_frames p methods cell
  frames_same methods cell = λ j. starts_same methods j ++ frame_same p.outline.main (ref cell ∷ []) j ∷ []

  opening_same : (choose : Choose) (job : Job) (store : Store) → opening q choose job store ≡ opening p choose job store
  unfolding opening
  opening_same choose job store =
      let classes : List ℕ = to_start p.outline (first_areas p.outline store).started p.outline.main_class in
      ap moved
      (opened_same choose (opening_actions p.outline job) (unopened p job (first_areas p.outline store)) [] (main_started q choose classes)
      (main_started p choose classes)
      (λ x cells. opened_same choose (start_actions p.outline classes) (record x { areas = with_streams x.areas cells }) cells (last_frames q classes cells)
      (last_frames p classes cells)
      (λ y later. ap (framed y) (frames_same (start_methods p.outline classes) (slice_index_or cells 2 0))))) where
        moved : State → Moved
        moved state = record { state = state; printed = [] }

        last_frames : Program → List ℕ → List ℕ → State → List ℕ → State
        last_frames r classes cells y later = framed y (opening_frames r (start_methods r.outline classes) (slice_index_or cells 2 0))

        main_started : Program → Choose → List ℕ → State → List ℕ → State
        main_started r choose classes x cells =
            opened_by r choose (start_actions r.outline classes) (record x { areas = with_streams x.areas cells }) cells (last_frames r classes cells)

  -- ---- a run

  after_same : (choose : Choose) (k : ℕ) (x : Moved) → after q choose k x ≡ after p choose k x
  unfolding after
  after_same choose zero x = refl
  after_same choose (suc k) x = ap (onto q) (after_same choose k x) ∙ moved_same (after p choose k x) where
    onto : Program → Moved → Moved
    onto r before = record { state = (step r choose before.state).state; printed = before.printed ++ (step r choose before.state).printed }

    moved_same : (before : Moved) → onto q before ≡ onto p before
    moved_same before =
        ap (λ (next : Moved). record { state = next.state; printed = before.printed ++ next.printed }) (step_same choose before.state)

pub steps_same : NarrowedStepsAreSame
steps_same p made choose x = step_same p made choose x

pub costs_same : NarrowedCostsAreSame
unfolding cost
costs_same p made x = ap (λ (e : Effect). max 1 (objects_made e.actions)) (next_same p made x)

pub runs_same : NarrowedRunsAreSame
runs_same p made choose job store k =
    ap (after (narrowed_to p made) choose k) (opening_same p made choose job store) ∙ after_same p made choose k (opening p choose job store)
