-- A step that is done: what it leaves where its instruction goes on to the next item, and where the topmost frame returns.
use Rattle.std.proofs.Common.{◌≡◌, ℕ, ◌+◌, Bool, false, cond, List, [], ◌∷◌, ◌++◌, length, max, take, Option, Some, None, refl, sym, ◌∙◌, ap, subst, slice_get}
use Rattle.fm_cells.specs.Stores.{live_words}
use Rattle.fm_code.specs.declared.instructions.Insn.{Insn}
use Rattle.fm_types.specs.Typed.{use_by}
use Rattle.fm_world.specs.Programs.{Outline, Program}
use Rattle.fm_frames.proofs.StepCounts.{step_going}
use Rattle.fm_frames.specs.Acts.{Choose, Did, FullAt, LostAt, performed, Performed}
use Rattle.fm_frames.specs.Effects.{Effect, Enters, Falls, Next, nothing, Returns}
use Rattle.fm_frames.specs.Rows.{effect_of}
use Rattle.fm_frames.specs.Sights.{sights}
use Rattle.fm_frames.specs.Starts.{start_actions, start_methods, to_start, with_start}
use Rattle.fm_frames.specs.States.{Areas, Frame, Moved, State}
use Rattle.fm_frames.specs.Steps.{attempted, continued, done_by, effect_by, halted, input_after, is_deep, is_done, is_over, is_start, next_effect, next_insn, objects_made, returned, step, went, words_made}
use Rattle.fm_frames.specs.declared.ends.Ended.TheVariants as end
use Rattle.fm_law_sound.proofs.Following.{continued_is, followed, followed_areas}
use Rattle.fm_law_sound.proofs.StartActs.{for_class}
use Rattle.fm_law_sound.proofs.StepsSound.{moved_by}
use Rattle.fm_law_sound.specs.Leading.{sources_of}

-- ---- what the start of a class makes of an effect

-- either the frame gets what it got without, or methods that start classes are entered
pub data Begins (d e : Effect) : Type 0 where
  IsSame : e.next ≡ d.next → e.gives ≡ d.gives → e.writes ≡ d.writes → Begins d e
  EntersFirst : (methods : List ℕ) → e.next ≡ Enters methods → Begins d e

module _ (o : Outline) (started : List Bool) (d : Effect) where
  abbrev with_methods : List ℕ → List ℕ → Effect
  with_methods classes [] = record d { starts = None; actions = start_actions o classes ++ d.actions }
  with_methods classes (m ∷ methods) = record nothing { actions = start_actions o classes; next = Enters (m ∷ methods) }

  methods_begin : (classes methods : List ℕ) → Begins d (with_methods classes methods)
  methods_begin classes [] = IsSame refl refl refl
  methods_begin classes (m ∷ methods) = EntersFirst (m ∷ methods) refl

  class_begins : (class : Option ℕ) → Begins d (for_class o started d class)
  class_begins None = IsSame refl refl refl
  class_begins (Some class) = methods_begin (to_start o started class) (start_methods o (to_start o started class))

  pub begins : Begins d (with_start o started d)
  begins = class_begins d.starts

-- ---- a step that is done

module _ (p : Program) (choose : Choose) (z : State) (f : Frame) (callers : List Frame) where
  abbrev y : State
  y = record z { frames = f ∷ callers }

  abbrev e : Effect
  e = next_effect p y

  -- the effect of the frame's own instruction
  pub own_begins : (i : Insn) → next_insn p f ≡ Some i
      → Begins (effect_of p.outline f.method (use_by p f.method i) i (slice_get z.input 0) (sights p.outline z.areas.store f.stack)) (next_effect p y)
  unfolding next_effect
  own_begins i found =
      let d : Effect = effect_of p.outline f.method (use_by p f.method i) i (slice_get z.input 0) (sights p.outline z.areas.store f.stack) in
      subst (λ own. Begins d (with_start p.outline z.areas.started own)) (sym (ap (effect_by p y f) found)) (begins p.outline z.areas.started d)

  -- all its actions were done, and what comes next follows
  pub record IsDoneTo (s : State) : Type 0 where
    pub areas : Areas
    pub made : List ℕ
    pub did : performed p.outline choose f.locals f.stack e.actions z.areas [] ≡ Did areas made
    pub input : List ℕ
    pub steps : ℕ
    pub after : s ≡ continued p (sources_of f areas made) e f callers (record y { areas = areas; input = input; steps = steps })

  abbrev Goes : State → Type 0
  Goes s = s.ended ≡ None → IsDoneTo s

  abbrev result : Performed
  result = performed p.outline choose f.locals f.stack e.actions z.areas []

  done_goes : (price : ℕ) (r : Performed) → result ≡ r → Goes (done_by p price e y r).state
  done_goes price (Did areas made) is goes = record {
    areas = areas;
    made = made;
    did = is;
    input = input_after e.reads z.input;
    steps = cond (is_done e.next) (z.steps + price) z.steps;
    after = refl;
  }
  done_goes price (FullAt areas needed) is goes = absurd (cc)
  done_goes price (LostAt v) is goes = absurd (cc)

  attempt_goes : Goes (attempted p choose y e).state
  attempt_goes =
      let price : ℕ = max 1 (objects_made e.actions) in
      moved_by Goes (is_deep y e.next) (halted y (end.TooDeep (length (f ∷ callers))))
      (cond (is_over p.outline z.areas e.actions) (halted y (end.Exhausted (live_words z.areas.store) (words_made p.outline z.areas e.actions)))
      (done_by p price e y result))
      (λ deep goes. absurd (cc))
      (λ shallow. moved_by Goes (is_over p.outline z.areas e.actions)
      (halted y (end.Exhausted (live_words z.areas.store) (words_made p.outline z.areas e.actions))) (done_by p price e y result)
      (λ over goes. absurd (cc))
      (λ within. done_goes price result refl))

  -- where the run goes on before the step and after it
  pub step_done : z.ended ≡ None → (step p choose y).state.ended ≡ None → IsDoneTo (step p choose y).state
  step_done going goes = subst (λ (m : Moved). Goes m.state) (sym (step_going p choose y going)) attempt_goes goes

  -- ---- the state then

  module _ (s : State) (d : IsDoneTo s) where
    abbrev before : State
    before = record y { areas = d.areas; input = d.input; steps = d.steps }

    pub follows : s ≡ followed p (sources_of f d.areas d.made) e f callers before e.next
    follows = d.after ∙ continued_is p (sources_of f d.areas d.made) e f callers before

    pub done_areas : s.areas ≡ d.areas
    done_areas = ap (λ (t : State). t.areas) follows ∙ followed_areas p (sources_of f d.areas d.made) e f callers before e.next

    frames_by : (next : Next) → e.next ≡ next → s.frames ≡ (followed p (sources_of f d.areas d.made) e f callers before next).frames
    frames_by next is = ap (λ (t : State). t.frames) follows ∙ ap (λ n. (followed p (sources_of f d.areas d.made) e f callers before n).frames) is

    -- the frame goes on
    pub falls_frames : e.next ≡ Falls → s.frames ≡ went (sources_of f d.areas d.made) e f (f.item + 1) ∷ callers
    falls_frames falls = frames_by Falls falls

    returned_frames : (g : Frame) (rest : List Frame) (n : ℕ) → is_start p.outline f.method ≡ false
        → (returned p n f (g ∷ rest) before).frames ≡ record g { item = g.item + 1; stack = take n f.stack ++ g.stack } ∷ rest
    returned_frames g rest n no_start =
        ap (λ b. (cond b (record before { frames = g ∷ rest })
        (record before { frames = record g { item = g.item + 1; stack = take n f.stack ++ g.stack } ∷ rest })).frames) no_start

    -- or the one below it
    pub returns_frames : (g : Frame) (rest : List Frame) (n : ℕ) → callers ≡ g ∷ rest → e.next ≡ Returns n → is_start p.outline f.method ≡ false
        → s.frames ≡ record g { item = g.item + 1; stack = take n f.stack ++ g.stack } ∷ rest
    returns_frames g rest n below is no_start =
        frames_by (Returns n) is ∙ ap (λ cs. (returned p n f cs before).frames) below ∙ returned_frames g rest n no_start
