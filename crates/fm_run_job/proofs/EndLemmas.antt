-- The class or the method that the end of a run names is there.
use Rattle.std.proofs.Common.{◌≡◌, ◌<◌, ◌≤◌, ℕ, zero, suc, ◌+◌, ◌==◌, max, Bool, true, false, List, [], ◌∷◌, ◌++◌, Option, Some, None, IfSome, if◌then◌else◌, length, take, nat_lt, unwrap_or, codes, refl, sym, ap, subst, arith, length-append}
use Rattle.std.specs.List.{slice_get, slice_index_or}
use Rattle.fm_base.specs.declared.kinds.Base.{Base}
use Rattle.fm_base.specs.declared.kinds.Base.TheVariants as base
use Rattle.fm_base.specs.declared.kinds.TypeRef.{TypeRef}
use Rattle.fm_base.specs.declared.limits.TheConstants.{MAX_LIVE_WORDS}
use Rattle.fm_cells.specs.Choices.{lawful}
use Rattle.fm_cells.specs.Objects.{Object}
use Rattle.fm_cells.specs.Stores.{live_words, object_at, opened, Store}
use Rattle.fm_code.specs.declared.code_array.Code.{Code}
use Rattle.fm_world.proofs.Completions.{count_is}
use Rattle.fm_types.specs.Named.{class_of_method, throwable_type}
use Rattle.fm_world.specs.BuiltIns.{built_in, built_in_classes}
use Rattle.fm_world.specs.Members.{methods_of}
use Rattle.fm_world.specs.Numbers.{type_of_class}
use Rattle.fm_world.specs.Programs.{IsTypeIn, Program}
use Rattle.fm_frames.proofs.BuiltInTypes.{named_class, throwable_there}
use Rattle.fm_frames.specs.Acts.{cell_of, Choose, Did, FullAt, LostAt, performed, Performed, Sources, value_of}
use Rattle.fm_frames.specs.Effects.{Action, Effect, Next, Falls, Jumps, JumpsIfSame, Calls, Returns, Throws, Enters, Exits, Faults}
use Rattle.fm_frames.specs.Runnable.{IsRunnable}
use Rattle.fm_frames.specs.Runs.{after, after_action, end_of, first_areas, framed, Job, opened_by, opening, opening_actions, opening_frames, unopened, with_streams}
use Rattle.fm_frames.specs.Sights.{type_numbered}
use Rattle.fm_frames.specs.Starts.{start_actions, start_methods, to_start}
use Rattle.fm_frames.specs.States.{Areas, Frame, Moved, State}
use Rattle.fm_frames.specs.Steps.{caught, Caught, caught_in, InFrames, Leaves, class_at_type, continued, done_by, fault_of, finished, halted, handler_of, input_after, is_deep, is_done, is_over, is_start, locals_of, next_effect, objects_made, returned, stack_of, step, stopped, thrown_by, type_at, words_made}
use Rattle.fm_frames.specs.declared.ends.Ended.{Ended}
use Rattle.fm_frames.specs.declared.ends.Ended.TheVariants as end
use Rattle.fm_frames.specs.declared.values.Value.{Value}
use Rattle.fm_exec_calls.proofs.UseSteps.{base_class}
use Rattle.fm_run_job.specs.Reports.{IsEndIn}
use Rattle.fm_law_sound.proofs.RunsSound.{runs_sound}
use Rattle.fm_law_can_step.specs.Ready.{CanRun}
use Rattle.fm_law_sound.specs.Making.{ArgumentsFit}
use Rattle.fm_law_sound.specs.Sound.{AreTyped, IsSoundBy, Stand, Typings}

-- the end, if there is one, names what is there
abbrev pub EndsIn : Program → Option Ended → Type 0
EndsIn p ended = IfSome ended (IsEndIn p)

-- what holds of each element and of a default holds of what is at an index
at_index : {X : Type 0} (P : X → Type 0) (xs : List X) (d : X) → ((n : ℕ) (x : X) → slice_get xs n ≡ Some x → P x) → P d → (n : ℕ) → P (slice_index_or xs n d)
at_index P [] d each first n = first
at_index P (x ∷ xs) d each first zero = each 0 x refl
at_index P (x ∷ xs) d each first (suc n) = at_index P xs d (λ k. each (suc k)) first n

-- what is thrown is caught, or it names what is there
abbrev CaughtAt : Program → Caught → Type 0
CaughtAt p (InFrames frames) = Unit {0}
CaughtAt p (Leaves e) = IsEndIn p e

module _ (p : Program) (runnable : IsRunnable p) where
  -- the built-in classes are there
  class_there : (class : ℕ) → class < built_in_classes → class < length p.outline.classes
  class_there class low = omega (arith, low, count_is, ap length runnable.classes, length-append built_in runnable.given)

  -- a type that has a number is of a class that is there, and so is that of what is thrown
  numbered_there : (n : ℕ) → IsTypeIn p.outline.classes (type_numbered p.outline n)
  numbered_there = at_index (IsTypeIn p.outline.classes) p.outline.types (type_of_class 0) runnable.types (class_there 0 (omega arith))

  throwable_there_too : IsTypeIn p.outline.classes (throwable_type p.outline)
  throwable_there_too =
      let is : throwable_type p.outline ≡ type_of_class 7 = named_class p (codes "java/lang/Throwable") 7 runnable throwable_there in
      subst (IsTypeIn p.outline.classes) (sym is) (class_there 7 (omega arith))

  thrown_there : (store : Store) (v : Value) → IsTypeIn p.outline.classes (type_at p.outline store v)
  thrown_there store v = of_object (object_at store (cell_of v)) refl where
    of_object : (found : Option Object) → object_at store (cell_of v) ≡ found → IsTypeIn p.outline.classes (type_at p.outline store v)
    of_object None is = rw is throwable_there_too
    of_object (Some object) is = rw is (numbered_there object.class)

  class_of_type_there : (t : TypeRef) → IsTypeIn p.outline.classes t → class_at_type t < length p.outline.classes
  class_of_type_there t there = by_dims (t.dims == 0) t.base there where
    by_dims : (flat : Bool) (b : Base) → IsTypeIn p.outline.classes (record t { base = b }) → unwrap_or (if flat then base_class b else None) 0 < length p.outline.classes
    by_dims true (base.OfClass class) inside = inside
    by_dims true b inside = class_there 0 (omega arith)
    by_dims false b inside = class_there 0 (omega arith)

  -- ---- one step

  -- what is caught goes on; what isn't ends the run in the class of what was thrown, or in one that was to start
  caught_in_there : (t : TypeRef) → IsTypeIn p.outline.classes t → (v : Value) (frames : List Frame) → CaughtAt p (caught p t v frames)
  unfolding caught
  caught_in_there t there v [] = class_of_type_there t there
  caught_in_there t there v (f ∷ callers) = by_handler (handler_of p f t) (caught_in_there t there v callers) where
    by_handler : (handler : Option ℕ) → CaughtAt p (caught p t v callers) → CaughtAt p (caught_in p v f callers handler (caught p t v callers))
    by_handler (Some handler) below = tt
    by_handler None below = by_start (is_start p.outline f.method) below where
      by_start : (starts : Bool) → CaughtAt p (caught p t v callers) → CaughtAt p (if starts then Leaves (end.InitFailed (record { 0 = class_of_method p.outline f.method })) else caught p t v callers)
      by_start true below = runnable.owners f.method
      by_start false below = below

  -- the frames, of which there is one, are of methods that are there
  record HaveMethods (frames : List Frame) : Type 0 where
    some : 0 < length frames
    there : (f : Frame) (callers : List Frame) → frames ≡ f ∷ callers → f.method < length (methods_of p.outline.classes)

  fault_there : (x : State) (v : Value) → HaveMethods x.frames → IsEndIn p (fault_of p x v)
  fault_there x v methods = by_frames x.frames methods where
    by_frames : (frames : List Frame) → HaveMethods frames → IsEndIn p (fault_of p (record x { frames = frames }) v)
    by_frames [] methods = absurd (let some = methods.some in omega arith)
    by_frames (f ∷ callers) methods = methods.there f callers refl

  thrown_by_there : (x : State) → EndsIn p x.ended → (c : Caught) → CaughtAt p c → EndsIn p (thrown_by x c).ended
  thrown_by_there x going (InFrames frames) at = going
  thrown_by_there x going (Leaves e) at = at

  returned_there : (n : ℕ) (f : Frame) (callers : List Frame) (x : State) → EndsIn p x.ended → EndsIn p (returned p n f callers x).ended
  returned_there n f [] x going = tt
  returned_there n f (caller ∷ callers) x going = by_start (is_start p.outline f.method) where
    by_start : (starts : Bool) → EndsIn p (if starts then record x { frames = caller ∷ callers }
        else record x { frames = record caller { item = caller.item + 1; stack = take n f.stack ++ caller.stack } ∷ callers }).ended
    by_start true = going
    by_start false = going

  continued_there : (from : Sources) (e : Effect) (f : Frame) (callers : List Frame) (x : State) → EndsIn p x.ended → HaveMethods x.frames → EndsIn p (continued p from e f callers x).ended
  unfolding continued
  continued_there from e f callers x going methods = by_next e.next where
    by_next : (n : Next) → EndsIn p (continued p from (record e { next = n }) f callers x).ended
    by_next Falls = going
    by_next (Jumps n) = going
    by_next (JumpsIfSame same) = going
    by_next (Calls m) = going
    by_next (Returns n) = returned_there n f callers x going
    by_next (Throws source) =
        let v = value_of from source in
        let t = type_at p.outline x.areas.store v in
        thrown_by_there x going (caught p t v (f ∷ callers)) (caught_in_there t (thrown_there x.areas.store v) v (f ∷ callers))
    by_next (Enters methods) = going
    by_next (Exits n) = tt
    by_next (Faults source) = fault_there x (value_of from source) methods

  finished_there : (price : ℕ) (e : Effect) (x : State) → EndsIn p x.ended → HaveMethods x.frames → (result : Performed) → EndsIn p (finished p price e x result).ended
  finished_there price e x going methods (FullAt areas needed) = tt
  finished_there price e x going methods (LostAt v) = fault_there x v methods
  finished_there price e x going methods (Did areas made) = by_frames x.frames methods where
    by_frames : (frames : List Frame) → HaveMethods frames → EndsIn p (finished p price e (record x { frames = frames }) (Did areas made)).ended
    by_frames [] methods = going
    by_frames (f ∷ callers) methods = continued_there (record { locals = f.locals; stack = f.stack; areas = areas; made = made }) e f callers
        (record x { frames = f ∷ callers; areas = areas; input = input_after e.reads x.input; steps = (if is_done e.next then x.steps + price else x.steps) }) going methods

  -- an end that is there stays there, and a step that ends the run names what is there
  step_there : (choose : Choose) (x : State) → (x.ended ≡ None → HaveMethods x.frames) → EndsIn p x.ended → EndsIn p (step p choose x).state.ended
  unfolding step
  step_there choose x methods going = by_end x.ended methods going where
    by_end : (ended : Option Ended) → (ended ≡ None → HaveMethods x.frames) → EndsIn p ended → EndsIn p (step p choose (record x { ended = ended })).state.ended
    by_end (Some e) methods going = going
    by_end None methods going = by_room (is_deep y e.next) (is_over p.outline y.areas e.actions) where
      y : State
      y = record x { ended = None }

      e : Effect
      e = next_effect p y

      by_room : (deep over : Bool) → EndsIn p (if deep then halted y (end.TooDeep (length y.frames)) else
          if over then halted y (end.Exhausted (live_words y.areas.store) (words_made p.outline y.areas e.actions)) else
          done_by p (max 1 (objects_made e.actions)) e y (performed p.outline choose (locals_of y) (stack_of y) e.actions y.areas [])).state.ended
      by_room true over = tt
      by_room false true = tt
      by_room false false = finished_there (max 1 (objects_made e.actions)) e y tt (methods refl) (performed p.outline choose (locals_of y) (stack_of y) e.actions y.areas [])

  -- ---- the opening

  opened_there : (choose : Choose) (actions : List Action) (x : State) (made : List ℕ) (follows : State → List ℕ → State) → EndsIn p x.ended
      → ((y : State) (cells : List ℕ) → EndsIn p y.ended → EndsIn p (follows y cells).ended) → EndsIn p (opened_by p choose actions x made follows).ended
  opened_there choose [] x made follows going rest = rest x made going
  opened_there choose (action ∷ more) x made follows going rest =
      by_room (is_over p.outline x.areas (action ∷ [])) (performed p.outline choose [] [] (action ∷ []) x.areas made)
      (λ areas cells. opened_there choose more (record x { areas = areas }) cells follows going rest) where
        Onward : Type 0
        Onward = (areas : Areas) (cells : List ℕ) → EndsIn p (opened_by p choose more (record x { areas = areas }) cells follows).ended

        by_action : (result : Performed) → Onward → EndsIn p (after_action x result (λ y cells. opened_by p choose more y cells follows)).ended
        by_action (Did areas cells) onward = onward areas cells
        by_action (FullAt areas needed) onward = tt
        by_action (LostAt v) onward = going

        by_room : (over : Bool) (result : Performed) → Onward
            → EndsIn p (if over then stopped x (end.Exhausted (live_words x.areas.store) (words_made p.outline x.areas (action ∷ [])))
            else after_action x result (λ y cells. opened_by p choose more y cells follows)).ended
        by_room true result onward = tt
        by_room false result onward = by_action result onward

  framed_there : (x : State) (frames : List Frame) → EndsIn p x.ended → EndsIn p (framed x frames).ended
  framed_there x frames going = by_depth (nat_lt x.depth (length frames)) where
    by_depth : (deep : Bool) → EndsIn p (if deep then stopped (record x { frames = [] }) (end.TooDeep 1) else record x { frames = frames }).ended
    by_depth true = tt
    by_depth false = going

  opening_there : (choose : Choose) (job : Job) (store : Store) → EndsIn p (opening p choose job store).state.ended
  unfolding opening
  opening_there choose job store =
      let o = p.outline in
      let classes = to_start o (first_areas o store).started o.main_class in
      opened_there choose (opening_actions o job) (unopened p job (first_areas o store)) [] _ tt
      (λ x made going. opened_there choose (start_actions o classes) (record x { areas = with_streams x.areas made }) made _ going
      (λ y cells still. framed_there y (opening_frames p (start_methods o classes) (slice_index_or made 2 0)) still))

  -- ---- the run

  run_there : (choose : Choose) (opened : Moved) → EndsIn p opened.state.ended → ((k : ℕ) → (after p choose k opened).state.ended ≡ None → HaveMethods (after p choose k opened).state.frames)
      → (k : ℕ) → EndsIn p (after p choose k opened).state.ended
  unfolding after
  run_there choose opened first methods zero = first
  run_there choose opened first methods (suc k) = step_there choose (after p choose k opened).state (methods k) (run_there choose opened first methods k)

  end_there : (x : State) → EndsIn p x.ended → IsEndIn p (end_of x)
  end_there x going = by_end x.ended going where
    by_end : (ended : Option Ended) → EndsIn p ended → IsEndIn p (unwrap_or ended end.Running)
    by_end None going = tt
    by_end (Some e) going = going

-- a method that has code is there
in_codes : (codes : List (Option Code)) (n : ℕ) (code : Code) → slice_index_or codes n None ≡ Some code → n < length codes
in_codes [] n code is = absurd cc
in_codes (c ∷ codes) zero code is = omega arith
in_codes (c ∷ codes) (suc n) code is = let rest = in_codes codes n code is in omega arith

-- frames as the laws require are of methods that have code
stand_there : (p : Program) (runnable : IsRunnable p) (typings : Typings) (x : State) → IsSoundBy p typings x → x.ended ≡ None → HaveMethods p runnable x.frames
stand_there p runnable typings x sound going = record { some = sound.running going; there = there } where
  there : (f : Frame) (callers : List Frame) → x.frames ≡ f ∷ callers → f.method < length (methods_of p.outline.classes)
  there f callers are =
      let stands : Stand p typings (f ∷ callers) = subst (Stand p typings) are sound.frames in
      let inside : f.method < length p.codes = in_codes p.codes f.method stands.0.code stands.0.code_is in
      omega (arith, inside, runnable.codes)

-- each state of a run from its opening on
pub ends_there : (p : Program) (typings : Typings) → AreTyped p typings → CanRun p → (choose : Choose) (job : Job)
    → ArgumentsFit job.arguments → (budget : ℕ) (limit : Option ℕ) (free : List (List ℕ)) → budget ≤ MAX_LIVE_WORDS → (k : ℕ)
    → IsEndIn p (end_of (after p (lawful choose) k (opening p (lawful choose) job (opened budget limit free))).state)
ends_there p typings typed can choose job given budget limit free few k =
    let ready = can.steps in
    let sound = runs_sound p typings typed ready can.makes can.main choose job given budget limit free few in
    let runnable = ready.calls.runnable in
    let start = opening p (lawful choose) job (opened budget limit free) in
    end_there p runnable (after p (lawful choose) k start).state
    (run_there p runnable (lawful choose) start (opening_there p runnable (lawful choose) job (opened budget limit free))
    (λ n. stand_there p runnable typings (after p (lawful choose) n start).state (sound n)) k)
