-- A step that ends for want of words or of room prints nothing and isn't counted.
use Rattle.std.proofs.Common.{◌≡◌, ℕ, ◌+◌, Bool, true, false, cond, List, [], ◌∷◌, ◌++◌, max, take, Option, Some, None, refl, sym, ap, subst, ◌∙◌}
use Rattle.std.proofs.lemmas.Bool.{false≢true}
use Rattle.std.proofs.lemmas.Option.{none-some, same_Some}
use Rattle.fm_base.specs.declared.kinds.TypeRef.{TypeRef}
use Rattle.fm_frames.proofs.StepCounts.{step_going}
use Rattle.fm_frames.specs.Acts.{Did, FullAt, LostAt, performed, Performed, Sources, value_of}
use Rattle.fm_frames.specs.Effects.{Calls, Effect, Enters, Exits, Falls, Faults, Jumps, JumpsIfSame, Next, Returns, Throws}
use Rattle.fm_frames.specs.States.{Frame, Moved, State}
use Rattle.fm_frames.specs.Steps.{caught, Caught, caught_in, done_by, fault_of, handler_of, InFrames, input_after, is_deep, is_done, is_over, is_start, Leaves, locals_of, next_effect, objects_made, returned, stack_of, stopped, thrown_by, type_at}
use Rattle.fm_frames.specs.declared.ends.Ended.{Ended}
use Rattle.fm_frames.specs.declared.ends.Ended.TheVariants as end
use Rattle.fm_frames.specs.declared.values.Value.{Value}
use Rattle.fm_law_lockstep.specs.Stepping.{is_want, WantingStepsDoNothing}
use Rattle.fm_law_sound.proofs.Following.{continued_is, followed}
use Rattle.fm_types.specs.Named.{class_of_method}
use Rattle.fm_world.specs.Programs.{Program}

-- ---- what comes next is no want

abbrev WantsNothing : State → Type 0
WantsNothing y = (e : Ended) → y.ended ≡ Some e → is_want e ≡ true → ⊥

going_on : (y : State) → y.ended ≡ None → WantsNothing y
going_on y going e is want = none-some e (sym going ∙ is)

ended_else : (y : State) (d : Ended) → y.ended ≡ Some d → is_want d ≡ false → WantsNothing y
ended_else y d ended other e is want = false≢true (sym other ∙ ap is_want (same_Some d e (sym ended ∙ is)) ∙ want)

returned_wants : (p : Program) (n : ℕ) (f : Frame) (callers : List Frame) (x : State) → x.ended ≡ None → WantsNothing (returned p n f callers x)
returned_wants p n f [] x going = ended_else (stopped x end.Returned) end.Returned refl refl
returned_wants p n f (g ∷ callers) x going = by_start (is_start p.outline f.method) where
  by_start : (b : Bool)
      → WantsNothing (cond b (record x { frames = g ∷ callers }) (record x { frames = record g { item = g.item + 1; stack = take n f.stack ++ g.stack } ∷ callers }))
  by_start true = going_on x going
  by_start false = going_on x going

abbrev LeavesElse : Caught → Type 0
LeavesElse (InFrames frames) = Unit {0}
LeavesElse (Leaves e) = is_want e ≡ false

-- a frame that catches nothing leaves it to those below, or ends the start of its class
left_else : (b : Bool) (d : Ended) (below : Caught) → is_want d ≡ false → LeavesElse below → LeavesElse (cond b (Leaves d) below)
left_else true d below other rest = other
left_else false d below other rest = rest

caught_in_else : (p : Program) (v : Value) (f : Frame) (callers : List Frame) (handler : Option ℕ) (below : Caught) → LeavesElse below
    → LeavesElse (caught_in p v f callers handler below)
caught_in_else p v f callers (Some handler) below rest = tt
caught_in_else p v f callers None below rest =
    left_else (is_start p.outline f.method) (end.InitFailed (record { 0 = class_of_method p.outline f.method })) below refl rest

caught_else : (p : Program) (t : TypeRef) (v : Value) (frames : List Frame) → LeavesElse (caught p t v frames)
unfolding caught
caught_else p t v [] = refl
caught_else p t v (f ∷ callers) = caught_in_else p v f callers (handler_of p f t) (caught p t v callers) (caught_else p t v callers)

thrown_wants : (x : State) (c : Caught) → x.ended ≡ None → LeavesElse c → WantsNothing (thrown_by x c)
thrown_wants x (InFrames frames) going other = going_on x going
thrown_wants x (Leaves e) going other = ended_else (stopped x e) e refl other

fault_else : (p : Program) (x : State) (v : Value) (frames : List Frame) → is_want (fault_of p (record x { frames = frames }) v) ≡ false
fault_else p x v [] = refl
fault_else p x v (f ∷ callers) = refl

followed_wants : (p : Program) (from : Sources) (e : Effect) (f : Frame) (callers : List Frame) (x : State) → x.ended ≡ None → (next : Next)
    → WantsNothing (followed p from e f callers x next)
followed_wants p from e f callers x going Falls = going_on x going
followed_wants p from e f callers x going (Jumps n) = going_on x going
followed_wants p from e f callers x going (JumpsIfSame same) = going_on x going
followed_wants p from e f callers x going (Calls method) = going_on x going
followed_wants p from e f callers x going (Returns n) = returned_wants p n f callers x going
followed_wants p from e f callers x going (Throws source) =
    let v = value_of from source in
    thrown_wants x (caught p (type_at p.outline x.areas.store v) v (f ∷ callers)) going
    (caught_else p (type_at p.outline x.areas.store v) v (f ∷ callers))
followed_wants p from e f callers x going (Enters methods) = going_on x going
followed_wants p from e f callers x going (Exits n) = ended_else (stopped x (end.Exit n)) (end.Exit n) refl refl
followed_wants p from e f callers x going (Faults source) =
    ended_else (stopped x (fault_of p x (value_of from source))) (fault_of p x (value_of from source)) refl (fault_else p x (value_of from source) x.frames)

-- ---- a step

-- if the step ends in want, nothing is printed or counted
abbrev Idle : ℕ → Moved → Type 0
Idle n m = (e : Ended) → m.state.ended ≡ Some e → is_want e ≡ true → (m.printed ≡ []) × (m.state.steps ≡ n)

finished_idle : (p : Program) (price : ℕ) (e : Effect) (x : State) → x.ended ≡ None → (frames : List Frame) (result : Performed)
    → Idle x.steps (done_by p price e (record x { frames = frames }) result)
finished_idle p price e x going frames (FullAt areas needed) d is want = (refl, refl)
finished_idle p price e x going frames (LostAt v) d is want = (refl, refl)
finished_idle p price e x going [] (Did areas made) d is want = absurd (none-some d (sym going ∙ is))
finished_idle p price e x going (f ∷ callers) (Did areas made) d is want =
    absurd (followed_wants p from e f callers before going e.next d (ap (λ (s : State). s.ended) (sym (continued_is p from e f callers before)) ∙ is) want) where
      from : Sources
      from = record { locals = f.locals; stack = f.stack; areas = areas; made = made }

      before : State
      before = record x { frames = f ∷ callers; areas = areas; input = input_after e.reads x.input; steps = cond (is_done e.next) (x.steps + price) x.steps }

either_idle : (n : ℕ) (b : Bool) (one other : Moved) → Idle n one → Idle n other → Idle n (cond b one other)
either_idle n true one other first second = first
either_idle n false one other first second = second

pub wanting_steps_do_nothing : WantingStepsDoNothing
wanting_steps_do_nothing p choose x going =
    subst (Idle x.steps) (sym (step_going p choose x going))
    (either_idle x.steps (is_deep x e.next) _ _ (λ d is want. (refl, refl))
    (either_idle x.steps (is_over p.outline x.areas e.actions) _ _ (λ d is want. (refl, refl))
    (finished_idle p (max 1 (objects_made e.actions)) e x going x.frames
    (performed p.outline choose (locals_of x) (stack_of x) e.actions x.areas [])))) where
      e : Effect
      e = next_effect p x
