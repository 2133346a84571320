-- What a step does doesn't depend on how many steps were counted before.
use Rattle.std.proofs.Common.{◌≡◌, ℕ, ◌+◌, Bool, true, false, cond, List, [], ◌∷◌, length, max, take, ◌++◌, Option, Some, None, refl, sym, ap, subst, ◌∙◌, arith}
use Rattle.std.proofs.lemmas.Bool.{false≢true}
use Rattle.fm_cells.specs.Stores.{live_words}
use Rattle.fm_code.specs.declared.instructions.Insn.{Insn}
use Rattle.fm_frames.proofs.StepCounts.{step_going}
use Rattle.fm_frames.specs.Acts.{Choose, Did, FullAt, LostAt, performed, Performed, Sources, value_of}
use Rattle.fm_frames.specs.Effects.{Calls, Effect, Enters, Exits, Falls, Faults, Jumps, JumpsIfSame, Next, Returns, Throws}
use Rattle.fm_frames.specs.States.{Areas, Frame, Moved, State}
use Rattle.fm_frames.specs.Starts.{with_start}
use Rattle.fm_frames.specs.Steps.{attempted, caught, Caught, continued, done_by, effect_by, fault_of, finished, halted, InFrames, input_after, is_deep, is_done, is_over, is_start, Leaves, locals_of, next_effect, next_insn, objects_made, returned, stack_of, step, stopped, thrown_by, type_at, words_made}
use Rattle.fm_frames.specs.declared.ends.Ended.{Ended}
use Rattle.fm_frames.specs.declared.ends.Ended.TheVariants as end
use Rattle.fm_frames.specs.declared.values.Value.{Value}
use Rattle.fm_law_lockstep.specs.Stepping.{IsCountedFrom, StepsAreUncounted}
use Rattle.fm_law_sound.proofs.Following.{continued_is, followed}
use Rattle.fm_world.specs.Programs.{Program}

-- ---- what comes next

returned_counted : (p : Program) (n : ℕ) (f : Frame) (callers : List Frame) (x : State) (m : ℕ)
    → returned p n f callers (record x { steps = m }) ≡ record (returned p n f callers x) { steps = m }
returned_counted p n f [] x m = refl
returned_counted p n f (g ∷ callers) x m = by_start (is_start p.outline f.method) where
  by_start : (b : Bool)
      → cond b (record x { frames = g ∷ callers; steps = m }) (record x { frames = record g { item = g.item + 1; stack = take n f.stack ++ g.stack } ∷ callers; steps = m })
      ≡ record (cond b (record x { frames = g ∷ callers }) (record x { frames = record g { item = g.item + 1; stack = take n f.stack ++ g.stack } ∷ callers })) { steps = m }
  by_start true = refl
  by_start false = refl

thrown_counted : (x : State) (m : ℕ) (c : Caught) → thrown_by (record x { steps = m }) c ≡ record (thrown_by x c) { steps = m }
thrown_counted x m (InFrames frames) = refl
thrown_counted x m (Leaves e) = refl

fault_counted : (p : Program) (x : State) (m : ℕ) (v : Value) (frames : List Frame)
    → fault_of p (record x { frames = frames; steps = m }) v ≡ fault_of p (record x { frames = frames }) v
fault_counted p x m v [] = refl
fault_counted p x m v (f ∷ callers) = refl

followed_counted : (p : Program) (from : Sources) (e : Effect) (f : Frame) (callers : List Frame) (x : State) (m : ℕ) (next : Next)
    → followed p from e f callers (record x { steps = m }) next ≡ record (followed p from e f callers x next) { steps = m }
followed_counted p from e f callers x m Falls = refl
followed_counted p from e f callers x m (Jumps n) = refl
followed_counted p from e f callers x m (JumpsIfSame same) = refl
followed_counted p from e f callers x m (Calls method) = refl
followed_counted p from e f callers x m (Returns n) = returned_counted p n f callers x m
followed_counted p from e f callers x m (Throws source) =
    let v = value_of from source in thrown_counted x m (caught p (type_at p.outline x.areas.store v) v (f ∷ callers))
followed_counted p from e f callers x m (Enters methods) = refl
followed_counted p from e f callers x m (Exits n) = refl
followed_counted p from e f callers x m (Faults source) =
    ap (λ d. record x { steps = m; ended = Some d }) (fault_counted p x m (value_of from source) x.frames)

-- ---- a result

abbrev Counted : ℕ → ℕ → State → State → Type 0
Counted n m x y = (rise : ℕ) × (x.steps ≡ n + rise) × (y ≡ record x { steps = m + rise })

-- nothing is counted
none_counted : (x : State) (n m : ℕ) → x.steps ≡ n → Counted n m x (record x { steps = m })
none_counted x n m is = (0, omega (arith, is), ap (λ k. record x { steps = k }) (let more : m ≡ m + 0 = omega arith in more))

priced : (n price : ℕ) (done : Bool) → cond done (n + price) n ≡ n + cond done price 0
priced n price true = refl
priced n price false = omega arith

module _ (p : Program) (price : ℕ) (e : Effect) (x : State) (m : ℕ) where
  -- the state once all actions are done, before what comes next
  abbrev begun : List Frame → Areas → State
  begun frames areas = record x { frames = frames; areas = areas; input = input_after e.reads x.input; steps = cond (is_done e.next) (x.steps + price) x.steps }

  abbrev rise : ℕ
  rise = cond (is_done e.next) price 0

  abbrev total : ℕ
  total = cond (is_done e.next) (m + price) m

  followed_from : (from : Sources) (f : Frame) (callers : List Frame) (areas : Areas)
      → Counted x.steps m (continued p from e f callers (begun (f ∷ callers) areas)) (continued p from e f callers (record (begun (f ∷ callers) areas) { steps = total }))
  followed_from from f callers areas =
      let before = begun (f ∷ callers) areas in
      let here = continued_is p from e f callers before in
      let there = continued_is p from e f callers (record before { steps = total }) in
      let own = followed_counted p from e f callers before (cond (is_done e.next) (x.steps + price) x.steps) e.next in
      let steps : (continued p from e f callers before).steps ≡ x.steps + rise =
      ap (λ (s : State). s.steps) (here ∙ own) ∙ priced x.steps price (is_done e.next) in (
        rise,
        steps,
        there ∙ followed_counted p from e f callers before total e.next ∙ ap (λ (s : State). record s { steps = total }) (sym here)
            ∙ ap (λ k. record (continued p from e f callers before) { steps = k }) (priced m price (is_done e.next)),
      )

  finished_from : (frames : List Frame) (result : Performed)
      → Counted x.steps m (finished p price e (record x { frames = frames }) result) (finished p price e (record x { frames = frames; steps = m }) result)
  finished_from frames (FullAt areas needed) = none_counted (finished p price e (record x { frames = frames }) (FullAt areas needed)) x.steps m refl
  finished_from [] (LostAt v) = none_counted (finished p price e (record x { frames = [] }) (LostAt v)) x.steps m refl
  finished_from (f ∷ callers) (LostAt v) = none_counted (finished p price e (record x { frames = f ∷ callers }) (LostAt v)) x.steps m refl
  finished_from [] (Did areas made) = (
    rise,
    priced x.steps price (is_done e.next),
    ap (λ k. record (begun [] areas) { steps = k }) (priced m price (is_done e.next)),
  )
  finished_from (f ∷ callers) (Did areas made) =
      followed_from (record { locals = f.locals; stack = f.stack; areas = areas; made = made }) f callers areas

-- ---- the whole step

deep_counted : (x : State) (m : ℕ) (next : Next) → is_deep (record x { steps = m }) next ≡ is_deep x next
deep_counted x m Falls = refl
deep_counted x m (Jumps n) = refl
deep_counted x m (JumpsIfSame same) = refl
deep_counted x m (Calls method) = refl
deep_counted x m (Returns n) = refl
deep_counted x m (Throws source) = refl
deep_counted x m (Enters methods) = refl
deep_counted x m (Exits n) = refl
deep_counted x m (Faults source) = refl

-- two tests that agree
by_same : (P : Moved → Moved → Type 0) (b d : Bool) (a c u v : Moved) → d ≡ b → P a u → P c v → P (cond b a c) (cond d u v)
by_same P true true a c u v is one other = one
by_same P true false a c u v is one other = absurd (false≢true is)
by_same P false true a c u v is one other = absurd (false≢true (sym is))
by_same P false false a c u v is one other = other

-- the same is printed, and the states are counted apart
as_moved : (n m : ℕ) (one other : Moved) → other.printed ≡ one.printed → Counted n m one.state other.state → IsCountedFrom n m one other
as_moved n m one other printed h = record { rise = h.0; steps = h.1; printed = printed; state = h.2 }

-- a step that isn't done
halted_counted : (y : State) (m : ℕ) (d : Ended) → IsCountedFrom y.steps m (halted y d) (halted (record y { steps = m }) d)
halted_counted y m d =
    as_moved y.steps m (halted y d) (halted (record y { steps = m }) d) refl (none_counted (stopped y d) y.steps m refl)

attempted_counted : (p : Program) (choose : Choose) (x : State) (frames : List Frame) (e : Effect) (m : ℕ)
    → IsCountedFrom x.steps m (attempted p choose (record x { frames = frames }) e) (attempted p choose (record x { frames = frames; steps = m }) e)
attempted_counted p choose x frames e m =
    by_same (IsCountedFrom x.steps m) (is_deep y e.next) (is_deep (record y { steps = m }) e.next) _ _ _ _ (deep_counted y m e.next)
    (halted_counted y m (end.TooDeep (length frames)))
    (by_same (IsCountedFrom x.steps m) (is_over p.outline x.areas e.actions) (is_over p.outline x.areas e.actions) _ _ _ _ refl
    (halted_counted y m (end.Exhausted (live_words x.areas.store) (words_made p.outline x.areas e.actions))) (by_frames frames)) where
      y : State
      y = record x { frames = frames }

      price : ℕ
      price = max 1 (objects_made e.actions)

      by_frames : (fs : List Frame)
          → IsCountedFrom x.steps m
          (done_by p (max 1 (objects_made e.actions)) e (record x { frames = fs })
          (performed p.outline choose (locals_of (record x { frames = fs })) (stack_of (record x { frames = fs })) e.actions x.areas []))
          (done_by p (max 1 (objects_made e.actions)) e (record x { frames = fs; steps = m })
          (performed p.outline choose (locals_of (record x { frames = fs; steps = m })) (stack_of (record x { frames = fs; steps = m })) e.actions x.areas []))
      by_frames [] =
          let result = performed p.outline choose [] [] e.actions x.areas [] in
          as_moved x.steps m (done_by p price e (record x { frames = [] }) result) (done_by p price e (record x { frames = []; steps = m }) result) refl
          (finished_from p price e x m [] result)
      by_frames (f ∷ callers) =
          let result = performed p.outline choose f.locals f.stack e.actions x.areas [] in
          as_moved x.steps m (done_by p price e (record x { frames = f ∷ callers }) result)
          (done_by p price e (record x { frames = f ∷ callers; steps = m }) result) refl (finished_from p price e x m (f ∷ callers) result)

frame_counted : (p : Program) (x : State) (m : ℕ) (f : Frame) (o : Option Insn) → effect_by p (record x { steps = m }) f o ≡ effect_by p x f o
frame_counted p x m f None = refl
frame_counted p x m f (Some i) = refl

pub effect_counted : (p : Program) (x : State) (m : ℕ) (frames : List Frame) → next_effect p (record x { frames = frames; steps = m }) ≡ next_effect p (record x { frames = frames })
unfolding next_effect
effect_counted p x m [] = refl
effect_counted p x m (f ∷ callers) =
    ap (with_start p.outline x.areas.started) (frame_counted p (record x { frames = f ∷ callers }) m f (next_insn p f))

pub steps_are_uncounted : StepsAreUncounted
steps_are_uncounted p choose x m going =
    subst (λ other. IsCountedFrom x.steps m (step p choose x) other)
    (sym (step_going p choose (record x { steps = m }) going ∙ ap (attempted p choose (record x { steps = m })) (effect_counted p x m x.frames)))
    (subst (λ one. IsCountedFrom x.steps m one (attempted p choose (record x { steps = m }) (next_effect p x))) (sym (step_going p choose x going))
    (attempted_counted p choose x x.frames (next_effect p x) m))
