-- After a step of both that go on the second run goes through what is inserted there, and the states go together again.
use Rattle.std.proofs.Common.{◌≡◌, ◌≤◌, ◌+◌, ℕ, List, [], ◌∷◌, ◌++◌, map, take, None, unwrap_or, refl, sym, ap, subst, ◌∙◌, arith}
use Rattle.fm_base.specs.declared.limits.TheConstants.{MAX_LIVE_WORDS}
use Rattle.fm_cells.specs.Choices.{lawful}
use Rattle.fm_frames.specs.Acts.{Choose}
use Rattle.fm_frames.specs.States.{Frame, State}
use Rattle.fm_frames.specs.Steps.{max_locals_of, step}
use Rattle.fm_frames.specs.declared.values.Value.{Value}
use Rattle.fm_law_chained.specs.Called.{with_frame}
use Rattle.fm_law_held_objects.specs.Laws.{frees_of}
use Rattle.fm_law_lockstep.proofs.Ahead.{ahead_is, first_ahead, freed_ahead, given_ahead}
use Rattle.fm_law_lockstep.proofs.AheadHeld.{before_frees, CatchLaws, following_of, IsReady, middle, next_of, ready}
use Rattle.fm_law_lockstep.proofs.FoundTodos.{areas_both, lost_behind}
use Rattle.fm_law_lockstep.proofs.FreedTogether.{BeforeFrees, freed_together, nothing_lost, state_freed}
use Rattle.fm_law_lockstep.specs.Both.{Both}
use Rattle.fm_law_lockstep.specs.Composing.{ProgramsCatchUp}
use Rattle.fm_law_lockstep.specs.Known.{IsKnownOn, IsLinked}
use Rattle.fm_law_lockstep.specs.Stepping.{AreWithin}
use Rattle.fm_law_lockstep.specs.Together.{CatchesUpAt, GoTogetherAt}
use Rattle.fm_law_same_runs.specs.Beside.{kept_item}
use Rattle.fm_law_sound.proofs.Budgets.{step_budget}
use Rattle.fm_law_sound.proofs.CallsStand.{max_locals_in}
use Rattle.fm_law_sound.specs.Sound.{IsSoundBy}
use Rattle.fm_law_two_memories.specs.Pairing.{StatesPaired}
use Rattle.fm_law_unwoven.proofs.TodoLocals.{after_both, old_after}
use Rattle.fm_law_unwoven.specs.Doing.{all_areas_after, all_locals_after, all_steps_to, IsPassed}
use Rattle.fm_law_unwoven.specs.Kept.{FramesGo, IsAtKept, old_frame, StatesGo}
use Rattle.fm_law_unwoven.specs.Laid.{Todo}
use Rattle.fm_law_unwoven.specs.Reached.{AllReached, IsReached, jumps_ahead, OneMissed, Reached, state_reached}
use Rattle.fm_law_unwoven.specs.WovenFrom.{inserted_by, IsWovenFrom}
use Rattle.fm_place.specs.Insertions.{Insertions}

module _ (laws : CatchLaws) (b : Both) (from : IsWovenFrom b.one b.other b.facts b.plans b.marks) (linked : IsLinked b.one b.facts) (first second : Choose) (x y : State)
    (t : GoTogetherAt b x y) (on : IsKnownOn b.one b.facts x (step b.one (lawful first) x).state t.colour t.made)
    (going : (step b.one (lawful first) x).state.ended ≡ None) (other_going : (step b.other (lawful second) y).state.ended ≡ None)
    (within : AreWithin b.one x y (step b.one (lawful first) x).state (step b.other (lawful second) y).state) where
  module _ (f g : Frame) (callers below : List Frame) (news : (following_of b second y).frames ≡ g ∷ below)
      (paired : StatesPaired t.gone b.one.outline (next_of b first x) (record (following_of b second y) { frames = f ∷ callers; steps = (next_of b first x).steps }))
      (go : FramesGo b.one b.other b.facts b.plans b.marks y f g callers below) where
    abbrev plan : Insertions
    plan = inserted_by (b.plans g.method)

    -- ---- the state at the kept item

    module _ (todos : List Todo) (given hs : List ℕ) (jumps : ℕ)
        (r : Reached b.one b.other b.facts b.plans b.marks (lawful second) (following_of b second y) f g below (todos ++ frees_of (inserted_by (b.plans g.method)) hs) jumps)
        (ahead : IsReady b (next_of b first x) (following_of b second y) on.fewer t.gone f g below r.code todos given hs) where
      abbrev locals : List Value
      locals = all_locals_after r.code g.stack todos g.locals

      abbrev frees : List Todo
      frees = frees_of (inserted_by (b.plans g.method)) hs

      abbrev before : State
      before =
          middle laws b from linked first second x y t on going other_going within f g callers below paired go r.code r.code_is r.number r.number_is r.width todos
          given hs ahead

      held_before : BeforeFrees b (next_of b first x) before f g callers below r.code (all_locals_after r.code g.stack todos g.locals)
      held_before =
          before_frees laws b from linked first second x y t on going other_going within f g callers below paired go r.code r.code_is r.number r.number_is r.width
          todos given hs ahead

      abbrev caught : State
      caught = state_reached r.code (following_of b second y) g below (todos ++ frees_of (inserted_by (b.plans g.method)) hs) jumps r.number

      abbrev steps : ℕ
      steps = (following_of b second y).steps + jumps + all_steps_to (todos ++ frees_of (inserted_by (b.plans g.method)) hs)

      abbrev freed : State
      freed = state_freed laws.frees b (next_of b first x) before f g callers below r.code locals held_before hs ahead.may r.number r.number_is steps

      values_same : all_locals_after r.code g.stack (todos ++ frees_of (inserted_by (b.plans g.method)) hs) g.locals
          ≡ all_locals_after r.code g.stack (frees_of (inserted_by (b.plans g.method)) hs) (all_locals_after r.code g.stack todos g.locals)
      values_same = after_both r.code g.stack todos frees g.locals

      areas_same : all_areas_after r.code g.stack (todos ++ frees_of (inserted_by (b.plans g.method)) hs) g.locals (following_of b second y).areas
          ≡ all_areas_after r.code g.stack (frees_of (inserted_by (b.plans g.method)) hs) (all_locals_after r.code g.stack todos g.locals)
          (all_areas_after r.code g.stack todos g.locals (following_of b second y).areas)
      areas_same = areas_both r.code g.stack todos frees g.locals (following_of b second y).areas

      same : caught ≡ freed
      same =
          (λ k. record (following_of b second y) {
            frames = record { method = g.method; item = r.number; locals = values_same k; stack = g.stack } ∷ below;
            areas = areas_same k;
            steps = steps;
            ended = None;
          })

      olds : map (old_frame b.one b.marks) freed.frames ≡ f ∷ callers
      olds =
          let item : unwrap_or (kept_item b.marks g.method r.number) 0 ≡ f.item = ap (λ o. unwrap_or o 0) r.number_is in
          let max : max_locals_of b.one g.method ≡ r.code.max_locals = ap max_locals_in r.code_is in
          let values : List Value = all_locals_after r.code g.stack frees locals in
          let own : take (max_locals_of b.one g.method) values ≡ f.locals =
          ap (λ n. take n values) max ∙ old_after r.code g.stack frees locals ∙ old_after r.code g.stack todos g.locals
          ∙ ap (λ n. take n g.locals) (sym max) ∙ go.locals in
          (λ k. record { method = go.method k; item = item k; locals = own k; stack = go.stack k } ∷ go.callers_are k)

      together : IsAtKept b.one b.other b.facts b.plans b.marks caught → GoTogetherAt b (next_of b first x) freed
      together kept =
          freed_together laws.frees b (next_of b first x) before f g callers below r.code locals held_before hs ahead.may r.number r.number_is steps
          (subst (IsAtKept b.one b.other b.facts b.plans b.marks) same kept) olds

      reached_by : IsReached b.one b.other b.facts b.plans b.marks (lawful second) r.code (following_of b second y) g below
          (todos ++ frees_of (inserted_by (b.plans g.method)) hs) jumps r.number
          → IsPassed b.other b.marks (lawful second) (jumps + all_steps_to (todos ++ frees_of (inserted_by (b.plans g.method)) hs)) (with_frame (following_of b second y) g below) caught
          × GoTogetherAt b (next_of b first x) freed
      reached_by (AllReached passed kept) = (passed, together kept)
      reached_by (OneMissed lost number last end fewer passed inserted printed ended) =
          absurd (nothing_lost laws.frees b (next_of b first x) before f g callers below r.code locals held_before hs ahead.may
          (lost_behind r.code g (following_of b second y).areas todos frees ahead.finds lost))

      following_is : (following_of b second y) ≡ with_frame (following_of b second y) g below
      following_is = (λ k. record (following_of b second y) { frames = news k; ended = other_going k })

      catches_up : CatchesUpAt b second (next_of b first x) (following_of b second y)
      catches_up =
          let reached = reached_by r.done in
          record {
            count = jumps + all_steps_to (todos ++ frees_of (inserted_by (b.plans g.method)) hs);
            few = r.few;
            caught = caught;
            passed = subst (λ s. IsPassed b.other b.marks (lawful second) (jumps + all_steps_to (todos ++ frees)) s caught) (sym following_is) reached.0;
            steps = omega arith;
            together = subst (GoTogetherAt b (next_of b first x)) (sym same) reached.1;
          }

    pub onwards : Reached b.one b.other b.facts b.plans b.marks (lawful second) (following_of b second y) f g below
        (first_ahead b.one b.other b.facts b.plans b.marks y (following_of b second y).areas.store f g below go.top
        ++ frees_of (inserted_by (b.plans g.method)) (freed_ahead b.one b.other b.facts b.plans b.marks y (following_of b second y).areas.store f g below go.top))
        (jumps_ahead b.one b.other b.facts b.plans b.marks y f g below go.top)
        → CatchesUpAt b second (next_of b first x) (following_of b second y)
    onwards r =
        catches_up (first_ahead b.one b.other b.facts b.plans b.marks y (following_of b second y).areas.store f g below go.top)
        (given_ahead b.one b.other b.facts b.plans b.marks y (following_of b second y).areas.store f g below go.top)
        (freed_ahead b.one b.other b.facts b.plans b.marks y (following_of b second y).areas.store f g below go.top)
        (jumps_ahead b.one b.other b.facts b.plans b.marks y f g below go.top) r
        (ready laws b from linked first second x y t on going other_going within f g callers below paired go r.code r.code_is r.number r.number_is r.width go.top)

  -- ---- the frames of both

  pub both_frames : (fs gs : List Frame) → (following_of b second y).frames ≡ gs → StatesPaired t.gone b.one.outline (next_of b first x) (record (following_of b second y) { frames = fs; steps = (next_of b first x).steps })
      → IsSoundBy b.one b.facts.typing (record (following_of b second y) { frames = fs; steps = (next_of b first x).steps }) → StatesGo b.one b.other b.facts b.plans b.marks y fs gs
      → CatchesUpAt b second (next_of b first x) (following_of b second y)
  both_frames [] gs news paired sound go = absurd go
  both_frames (f ∷ callers) [] news paired sound go = absurd go
  both_frames (f ∷ callers) (g ∷ below) news paired sound go =
      onwards f g callers below news paired go
      (subst (λ todos.
      Reached b.one b.other b.facts b.plans b.marks (lawful second) (following_of b second y) f g below todos
      (jumps_ahead b.one b.other b.facts b.plans b.marks y f g below go.top))
      (ahead_is b.one b.other b.facts b.plans b.marks y (following_of b second y).areas.store f g below go.top)
      (laws.reach b.one b.other b.facts b.plans b.marks from linked.without.steps second y (following_of b second y) f g callers below go
      (record { typed = sound.typed; areas = sound.areas; frames = sound.frames; running = λ goes. omega arith; within = sound.within })
      (subst (λ n. n ≤ MAX_LIVE_WORDS) (sym (step_budget b.other (lawful second) y)) t.kept.words)))

pub programs_catch_up : CatchLaws → ProgramsCatchUp
programs_catch_up laws b from linked first second x y t on frames going other_going within paired sound go =
    both_frames laws b from linked first second x y t on going other_going within frames (step b.other (lawful second) y).state.frames refl paired sound go
