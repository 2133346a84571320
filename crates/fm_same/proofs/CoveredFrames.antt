-- While a called method runs, it stays among the targets of its call: the frames after a step are covered where those before it were.
use Rattle.std.proofs.Common.{◌≡◌, ℕ, ◌+◌, max, nat_lt, length, slice_index_or, Bool, true, false, cond, List, [], ◌∷◌, ◌++◌, take, Option, Some, None, refl, sym, ◌∙◌, ap, subst}
use Rattle.std.specs.List.{AllByRecursion}
use Rattle.std.proofs.lemmas.Bool.{false≢true}
use Rattle.std.proofs.lemmas.Option.{same_Some}
use Rattle.fm_base.specs.declared.kinds.TypeRef.{TypeRef}
use Rattle.fm_cells.specs.Stores.{live_words, Store}
use Rattle.fm_code.specs.Edges.{insn_of}
use Rattle.fm_conn.specs.Facts.{Facts}
use Rattle.fm_conn.specs.Pairs.{call_of}
use Rattle.fm_world.specs.Programs.{Program}
use Rattle.fm_frames.specs.Acts.{Choose, Did, FullAt, LostAt, performed, Performed, Sources, value_of}
use Rattle.fm_frames.specs.Effects.{Action, Calls, Effect, Enters, Exits, Falls, Faults, Jumps, JumpsIfSame, Next, Returns, Throws}
use Rattle.fm_frames.specs.Runs.{after_action, first_areas, framed, Job, opened_by, opening, opening_actions, opening_frames, unopened, with_streams}
use Rattle.fm_frames.specs.Starts.{start_actions, start_methods, to_start}
use Rattle.fm_frames.specs.States.{Frame, Moved, ref, State}
use Rattle.fm_frames.specs.Steps.{attempted, caught, Caught, caught_in, done_by, finished, halted, handler_of, locals_of, InFrames, input_after, is_deep, is_done, is_over, is_start, Leaves, new_frame, next_effect, objects_made, returned, stack_of, start_frames, step, stopped, thrown_by, type_at, words_made}
use Rattle.fm_types.specs.Named.{class_of_method}
use Rattle.fm_frames.specs.declared.ends.Ended.{Ended}
use Rattle.fm_frames.specs.declared.ends.Ended.TheVariants as end
use Rattle.fm_frames.specs.declared.values.Value.{Value}
use Rattle.fm_same.specs.Advances.{OwesAt, point_of}
use Rattle.fm_same.specs.Evenness.{EndsEvenly}
use Rattle.fm_same.specs.Standing.{method_of, Stand, StandsAt}
use Rattle.fm_same.specs.Targets.{AreCovered, AreCoveredBelow, IsTarget}
use Rattle.fm_same.proofs.Starting.{starts_are}
use Rattle.fm_frames.proofs.StepCounts.{step_is, stepped}
use Rattle.fm_law_sound.proofs.Following.{continued_is, followed}

module _ (p : Program) (facts : Facts) where
  -- of the frame above only its method is asked
  below_same : (above other : Frame) (callers : List Frame) → above.method ≡ other.method → AreCoveredBelow p facts above callers
      → AreCoveredBelow p facts other callers
  below_same above other [] same h = tt
  below_same above other (f ∷ callers) same h =
      (λ none. subst (IsTarget p facts f) same (h.0 (ap (is_start p.outline) same ∙ none)), h.1)

  -- without the topmost one
  gone_above : (above : Frame) (callers : List Frame) → AreCoveredBelow p facts above callers → AreCovered p facts callers
  gone_above above [] h = tt
  gone_above above (f ∷ callers) h = h.1

  -- ---- starts of classes

  abbrev AreStarts : List ℕ → Type 0
  AreStarts methods = AllByRecursion (λ m. is_start p.outline m ≡ true) methods

  starts_below : (above : Frame) (methods : List ℕ) (rest : List Frame) → is_start p.outline above.method ≡ true → AreStarts methods
      → AreCovered p facts rest → AreCoveredBelow p facts above (start_frames p methods ++ rest)
  starts_below above [] [] start all h = tt
  starts_below above [] (f ∷ callers) start all h = (λ none. absurd (false≢true (sym none ∙ start)), h)
  starts_below above (m ∷ methods) rest start all h =
      (λ none. absurd (false≢true (sym none ∙ start)), starts_below (new_frame p m []) methods rest all.0 all.1 h)

  pub starts_covered : (methods : List ℕ) (rest : List Frame) → AreStarts methods → AreCovered p facts rest → AreCovered p facts (start_frames p methods ++ rest)
  starts_covered [] rest all h = h
  starts_covered (m ∷ methods) rest all h = starts_below (new_frame p m []) methods rest all.0 all.1 h

  -- ---- exceptions

  caught_covered : (t : TypeRef) (v : Value) (frames next : List Frame) → AreCovered p facts frames → caught p t v frames ≡ InFrames next
      → AreCovered p facts next
  unfolding caught
  caught_covered t v [] next h is = absurd (cc)
  caught_covered t v (f ∷ callers) next h is = by_handler (handler_of p f t) is (caught_covered t v callers next (gone_above f callers h)) where
    by_start : (b : Bool)
        → cond b (Leaves (end.InitFailed (record { 0 = class_of_method p.outline f.method }))) (caught p t v callers) ≡ InFrames next → (caught p t v callers ≡ InFrames next → AreCovered p facts next)
        → AreCovered p facts next
    by_start true e later = absurd (cc)
    by_start false e later = later e

    by_handler : (o : Option ℕ) → caught_in p v f callers o (caught p t v callers) ≡ InFrames next
        → (caught p t v callers ≡ InFrames next → AreCovered p facts next) → AreCovered p facts next
    by_handler (Some handler) e later =
        let frames : record f { item = handler; stack = v ∷ [] } ∷ callers ≡ next = cc in
        subst (AreCovered p facts) frames (below_same f (record f { item = handler; stack = v ∷ [] }) callers refl h)
    by_handler None e later = by_start (is_start p.outline f.method) e later

  -- ---- whatever comes next

  module _ (f : Frame) (callers : List Frame) (at : StandsAt p facts f) (home : ℕ) (from : Sources) (e : Effect) (x : State) (frames_are : x.frames ≡ f ∷ callers) (covered : AreCoveredBelow p facts f callers) where
    target_here : (m : ℕ) → EndsEvenly p.outline (point_of p facts f at.code) home at.insn (Calls m) → IsTarget p facts f m
    target_here m ends code i call code_is insn_is is =
        let same_code : code ≡ at.code = same_Some code at.code (sym code_is ∙ at.code_is) in
        let same_insn : i ≡ at.insn = same_Some i at.insn (sym insn_is ∙ ap (λ c. insn_of c f.item) same_code ∙ at.insn_is) in
        ends call (ap (λ c. call_of (method_of p facts f c) at.insn) (sym same_code) ∙ ap (call_of (method_of p facts f code)) (sym same_insn) ∙ is)

    stays : AreCovered p facts x.frames
    stays = subst (AreCovered p facts) (sym frames_are) covered

    gone : (frames : List Frame) → AreCoveredBelow p facts f frames → (n : ℕ) → AreCovered p facts (returned p n f frames x).frames
    gone [] below n = stays
    gone (g ∷ rest) below n = by_start (is_start p.outline f.method) where
      by_start : (b : Bool)
          → AreCovered p facts
          (cond b (record x { frames = g ∷ rest }) (record x { frames = record g { item = g.item + 1; stack = take n f.stack ++ g.stack } ∷ rest })).frames
      by_start true = below.1
      by_start false = below_same g (record g { item = g.item + 1; stack = take n f.stack ++ g.stack }) rest refl below.1

    thrown : (c : Caught) → ((next : List Frame) → c ≡ InFrames next → AreCovered p facts next) → AreCovered p facts (thrown_by x c).frames
    thrown (InFrames next) each = each next refl
    thrown (Leaves ended) each = stays

    pub next_covered : (nx : Next) → EndsEvenly p.outline (point_of p facts f at.code) home at.insn nx
        → AreCovered p facts (followed p from e f callers x nx).frames
    next_covered Falls ends = below_same f _ callers refl covered
    next_covered (Jumps n) ends = below_same f _ callers refl covered
    next_covered (JumpsIfSame same) ends = below_same f _ callers refl covered
    next_covered (Calls m) ends = (λ none. target_here m ends, below_same f _ callers refl covered)
    next_covered (Returns n) ends = gone callers covered n
    next_covered (Throws s) ends =
        thrown (caught p (type_at p.outline x.areas.store (value_of from s)) (value_of from s) (f ∷ callers))
        (λ next is. caught_covered (type_at p.outline x.areas.store (value_of from s)) (value_of from s) (f ∷ callers) next covered is)
    next_covered (Enters methods) ends = starts_covered methods (f ∷ callers) ends covered
    next_covered (Exits n) ends = stays
    next_covered (Faults s) ends = stays

  -- ---- a step

  either_covered : (b : Bool) (one other : Moved) → AreCovered p facts one.state.frames → AreCovered p facts other.state.frames
      → AreCovered p facts (cond b one other).state.frames
  either_covered true one other first second = first
  either_covered false one other first second = second

  finished_covered : (y : State) (frames : List Frame) (price : ℕ) (e : Effect) (r : Performed) → Stand p facts frames → AreCovered p facts frames
      → OwesAt p facts y.areas.store e frames → AreCovered p facts (finished p price e (record y { frames = frames }) r).frames
  finished_covered y frames price e (FullAt areas needed) stand covered owes = covered
  finished_covered y frames price e (LostAt v) stand covered owes = covered
  finished_covered y [] price e (Did areas made) stand covered owes = tt
  finished_covered y (f ∷ callers) price e (Did areas made) stand covered owes =
      let x : State = record (record y { frames = f ∷ callers }) {
        areas = areas;
        input = input_after e.reads y.input;
        steps = cond (is_done e.next) (y.steps + price) y.steps;
      } in
      let from : Sources = record { locals = f.locals; stack = f.stack; areas = areas; made = made } in
      let obeys = (owes stand.0.at).0 in
      subst (λ (z : State). AreCovered p facts z.frames) (sym (continued_is p from e f callers x))
      (next_covered f callers stand.0.at obeys.home from e x refl covered e.next obeys.ends)

  attempted_covered : (choose : Choose) (y : State) (frames : List Frame) (e : Effect) → Stand p facts frames → AreCovered p facts frames
      → OwesAt p facts y.areas.store e frames → AreCovered p facts (attempted p choose (record y { frames = frames }) e).state.frames
  attempted_covered choose y frames e stand covered owes =
      let x : State = record y { frames = frames } in
      let result : Performed = performed p.outline choose (locals_of x) (stack_of x) e.actions y.areas [] in
      let over : Moved = halted x (end.Exhausted (live_words y.areas.store) (words_made p.outline y.areas e.actions)) in
      let done : Moved = done_by p (max 1 (objects_made e.actions)) e x result in
      either_covered (is_deep x e.next) (halted x (end.TooDeep (length frames))) (cond (is_over p.outline y.areas e.actions) over done) covered
      (either_covered (is_over p.outline y.areas e.actions) over done covered
      (finished_covered y frames (max 1 (objects_made e.actions)) e result stand covered owes))

  stepped_covered : (choose : Choose) (x : State) (o : Option Ended) → Stand p facts x.frames → AreCovered p facts x.frames
      → OwesAt p facts x.areas.store (next_effect p x) x.frames → AreCovered p facts (stepped p choose x o).state.frames
  stepped_covered choose x (Some ended) stand covered owes = covered
  stepped_covered choose x None stand covered owes = attempted_covered choose x x.frames (next_effect p x) stand covered owes

  -- the frames of the next state
  pub step_covered : (choose : Choose) (x : State) → Stand p facts x.frames → AreCovered p facts x.frames
      → OwesAt p facts x.areas.store (next_effect p x) x.frames → AreCovered p facts (step p choose x).state.frames
  step_covered choose x stand covered owes =
      subst (λ (m : Moved). AreCovered p facts m.state.frames) (sym (step_is p choose x)) (stepped_covered choose x x.ended stand covered owes)

  -- ---- the opening

  either_state : (b : Bool) (one other : State) → AreCovered p facts one.frames → AreCovered p facts other.frames → AreCovered p facts (cond b one other).frames
  either_state true one other first second = first
  either_state false one other first second = second

  performed_covered : (x : State) (r : Performed) (follows : State → List ℕ → State) → AreCovered p facts x.frames
      → ((y : State) (cells : List ℕ) → AreCovered p facts y.frames → AreCovered p facts (follows y cells).frames)
      → AreCovered p facts (after_action x r follows).frames
  performed_covered x (Did areas made) follows covered each = each (record x { areas = areas }) made covered
  performed_covered x (FullAt areas needed) follows covered each = covered
  performed_covered x (LostAt v) follows covered each = covered

  opened_covered : (choose : Choose) (actions : List Action) (x : State) (made : List ℕ) (follows : State → List ℕ → State) → AreCovered p facts x.frames
      → ((y : State) (cells : List ℕ) → AreCovered p facts y.frames → AreCovered p facts (follows y cells).frames)
      → AreCovered p facts (opened_by p choose actions x made follows).frames
  opened_covered choose [] x made follows covered each = each x made covered
  opened_covered choose (action ∷ more) x made follows covered each =
      either_state (is_over p.outline x.areas (action ∷ [])) (stopped x _) _ covered
      (performed_covered x (performed p.outline choose [] [] (action ∷ []) x.areas made) (λ y cells. opened_by p choose more y cells follows) covered
      (λ y cells later. opened_covered choose more y cells follows later each))

  framed_covered : (y : State) (classes : List ℕ) (cell : ℕ) → AreCovered p facts (framed y (opening_frames p (start_methods p.outline classes) cell)).frames
  framed_covered y classes cell =
      let frames : List Frame = opening_frames p (start_methods p.outline classes) cell in
      either_state (nat_lt y.depth (length frames)) (stopped (record y { frames = [] }) (end.TooDeep 1)) (record y { frames = frames }) tt
      (starts_covered (start_methods p.outline classes) (new_frame p p.outline.main (ref cell ∷ []) ∷ []) (starts_are p.outline classes) tt)

  abbrev last_frames : List ℕ → List ℕ → State → List ℕ → State
  last_frames classes made y cells = framed y (opening_frames p (start_methods p.outline classes) (slice_index_or made 2 0))

  abbrev main_started : Choose → List ℕ → State → List ℕ → State
  main_started choose classes x made =
      opened_by p choose (start_actions p.outline classes) (record x { areas = with_streams x.areas made }) made (last_frames classes made)

  pub opening_covered : (choose : Choose) (job : Job) (store : Store) → AreCovered p facts (opening p choose job store).state.frames
  unfolding opening
  opening_covered choose job store =
      let classes : List ℕ = to_start p.outline (first_areas p.outline store).started p.outline.main_class in
      opened_covered choose (opening_actions p.outline job) (unopened p job (first_areas p.outline store)) [] (main_started choose classes) tt
      (λ x made covered. opened_covered choose (start_actions p.outline classes) (record x { areas = with_streams x.areas made }) made (last_frames classes made)
      covered (λ y cells later. framed_covered y classes (slice_index_or made 2 0)))
