-- A step of a run that goes on: what it is, and that it adds its cost to the steps.
use Rattle.std.proofs.Common.{◌≡◌, ℕ, ◌+◌, ◌≤◌, Bool, true, false, List, [], ◌∷◌, ◌++◌, length, take, Option, Some, None, refl, sym, ◌∙◌, ap, subst, max, if◌then◌else◌, arith}
use Rattle.fm_cells.specs.Stores.{live_words}
use Rattle.fm_frames.specs.Acts.{Choose, performed, Performed, Did, FullAt, LostAt, Sources, value_of}
use Rattle.fm_frames.specs.Effects.{Effect, Next, Falls, Jumps, JumpsIfSame, Calls, Returns, Throws, Enters, Exits, Faults}
use Rattle.fm_frames.specs.States.{Areas, Frame, Moved, State}
use Rattle.fm_frames.specs.Steps.{attempted, Caught, InFrames, Leaves, caught, continued, cost, done_by, finished, halted, input_after, is_deep, is_done, is_over, is_start, locals_of, next_effect, objects_made, returned, stack_of, step, stopped, thrown_by, type_at, words_made}
use Rattle.fm_frames.specs.declared.ends.Ended.{Ended}
use Rattle.fm_frames.specs.declared.ends.Ended.TheVariants as end
use Rattle.fm_world.specs.Programs.{Program}

-- ---- what a step is

-- by the end
abbrev pub stepped : Program → Choose → State → Option Ended → Moved
stepped p choose x (Some e) = record { state = x; printed = [] }
stepped p choose x None = attempted p choose x (next_effect p x)

pub step_is : (p : Program) (choose : Choose) (x : State) → step p choose x ≡ stepped p choose x x.ended
unfolding step
step_is p choose x = refl

pub step_ended : (p : Program) (choose : Choose) (x : State) (e : Ended) → x.ended ≡ Some e → step p choose x ≡ record { state = x; printed = [] }
step_ended p choose x e is = step_is p choose x ∙ ap (stepped p choose x) is

pub step_going : (p : Program) (choose : Choose) (x : State) → x.ended ≡ None → step p choose x ≡ attempted p choose x (next_effect p x)
step_going p choose x going = step_is p choose x ∙ ap (stepped p choose x) going

-- ---- what it costs

-- if the run goes on, this many steps were done
abbrev Counts : ℕ → State → Type 0
Counts n y = y.ended ≡ None → y.steps ≡ n

stopped-counts : (n : ℕ) (y : State) (e : Ended) → Counts n (stopped y e)
stopped-counts n y e h = absurd (cc)

returned-counts : (p : Program) (words : ℕ) (f : Frame) (callers : List Frame) (y : State) → Counts y.steps (returned p words f callers y)
returned-counts p words f [] y = stopped-counts y.steps y end.Returned
returned-counts p words f (caller ∷ callers) y = by_start (is_start p.outline f.method) where
  by_start : (b : Bool)
      → Counts y.steps (if b then record y { frames = caller ∷ callers }
      else record y { frames = record caller { item = caller.item + 1; stack = take words f.stack ++ caller.stack } ∷ callers })
  by_start true h = refl
  by_start false h = refl

thrown-counts : (y : State) (c : Caught) → Counts y.steps (thrown_by y c)
thrown-counts y (InFrames frames) = λ h. refl
thrown-counts y (Leaves e) = stopped-counts y.steps y e

-- the state before what follows is done, by what follows
abbrev begun : ℕ → Effect → State → Areas → Next → State
begun price e x areas next =
    record x { areas = areas; input = input_after e.reads x.input; steps = (if is_done next then x.steps + price else x.steps) }

continued-counts : (p : Program) (price : ℕ) (from : Sources) (e : Effect) (f : Frame) (callers : List Frame) (x : State) (areas : Areas) (next : Next)
    → Counts (x.steps + price) (continued p from (record e { next = next }) f callers (begun price e x areas next))
unfolding continued
continued-counts p price from e f callers x areas Falls = λ h. refl
continued-counts p price from e f callers x areas (Jumps n) = λ h. refl
continued-counts p price from e f callers x areas (JumpsIfSame same) = λ h. refl
continued-counts p price from e f callers x areas (Calls m) = λ h. refl
continued-counts p price from e f callers x areas (Returns n) = returned-counts p n f callers (begun price e x areas (Returns n))
continued-counts p price from e f callers x areas (Throws source) =
    let y = begun price e x areas (Throws source) in
    let v = value_of from source in
    thrown-counts y (caught p (type_at p.outline y.areas.store v) v (f ∷ callers))
continued-counts p price from e f callers x areas (Enters methods) = λ h. refl
continued-counts p price from e f callers x areas (Exits n) = stopped-counts (x.steps + price) (begun price e x areas (Exits n)) (end.Exit n)
continued-counts p price from e f callers x areas (Faults source) = λ h. absurd (cc)

finished-counts : (p : Program) (price : ℕ) (e : Effect) (x : State) (f : Frame) (callers : List Frame) (result : Performed)
    → Counts (x.steps + price) (finished p price e (record x { frames = f ∷ callers }) result)
finished-counts p price e x f callers (Did areas made) =
    continued-counts p price (record { locals = f.locals; stack = f.stack; areas = areas; made = made }) e f callers (record x { frames = f ∷ callers }) areas e.next
finished-counts p price e x f callers (FullAt areas needed) = λ h. absurd (cc)
finished-counts p price e x f callers (LostAt v) = λ h. absurd (cc)

attempted-counts : (p : Program) (choose : Choose) (e : Effect) (x : State) (f : Frame) (callers : List Frame)
    → Counts (x.steps + max 1 (objects_made e.actions)) (attempted p choose (record x { frames = f ∷ callers }) e).state
attempted-counts p choose e x f callers = by_room (is_deep y e.next) (is_over p.outline y.areas e.actions) where
  y : State
  y = record x { frames = f ∷ callers }

  price : ℕ
  price = max 1 (objects_made e.actions)

  by_room : (deep over : Bool)
      → Counts (x.steps + price) (if deep then halted y (end.TooDeep (length y.frames)) else
      if over then halted y (end.Exhausted (live_words y.areas.store) (words_made p.outline y.areas e.actions)) else
      done_by p price e y (performed p.outline choose (locals_of y) (stack_of y) e.actions y.areas [])).state
  by_room true over = stopped-counts (x.steps + price) y (end.TooDeep (length y.frames))
  by_room false true = stopped-counts (x.steps + price) y (end.Exhausted (live_words y.areas.store) (words_made p.outline y.areas e.actions))
  by_room false false = finished-counts p price e x f callers (performed p.outline choose (locals_of y) (stack_of y) e.actions y.areas [])

by-frames : (p : Program) (choose : Choose) (e : Effect) (x : State) (f : Frame) (callers frames : List Frame) → frames ≡ f ∷ callers
    → Counts (x.steps + max 1 (objects_made e.actions)) (attempted p choose (record x { frames = frames }) e).state
by-frames p choose e x f callers frames is =
    subst (λ frames. Counts (x.steps + max 1 (objects_made e.actions)) (attempted p choose (record x { frames = frames }) e).state) (sym is)
    (attempted-counts p choose e x f callers)

pub steps-after : (p : Program) (choose : Choose) (x : State) (f : Frame) (callers : List Frame) → x.frames ≡ f ∷ callers → x.ended ≡ None
    → (step p choose x).state.ended ≡ None → (step p choose x).state.steps ≡ x.steps + cost p x
unfolding cost
steps-after p choose x f callers is goes =
    subst (λ (m : Moved). Counts (x.steps + max 1 (objects_made (next_effect p x).actions)) m.state) (sym (step_going p choose x goes))
    (by-frames p choose (next_effect p x) x f callers x.frames is)

-- each step costs something
pub costs_some : (p : Program) (x : State) → 1 ≤ cost p x
unfolding cost
costs_some p x = let most : 1 ≤ max 1 (objects_made (next_effect p x).actions) = omega arith in most
