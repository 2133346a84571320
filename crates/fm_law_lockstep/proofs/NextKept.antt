-- Two runs that go together go on from one kept item to the next: what holds wherever a frame reaches one, holds of the state that is there.
use Rattle.std.proofs.Common.{◌≡◌, ◌⊎◌, inl, inr, ℕ, suc, ◌+◌, ◌<◌, ◌≤◌, true, List, [], ◌∷◌, ◌++◌, None, refl, sym, ap, subst, ◌∙◌, arith, ⊎_elim}
use Rattle.std.proofs.lemmas.Bool.{cases_lt, false≢true}
use Rattle.std.proofs.lemmas.Option.{none-some}
use Rattle.fm_base.specs.declared.limits.TheConstants.{MAX_LIVE_WORDS}
use Rattle.fm_cells.specs.Choices.{lawful, never_choice}
use Rattle.fm_frames.specs.Acts.{Choose}
use Rattle.fm_frames.specs.Runs.{Job}
use Rattle.fm_frames.specs.States.{Frame, Moved, State}
use Rattle.fm_frames.specs.Steps.{step}
use Rattle.fm_frames.specs.declared.ends.Ended.TheVariants as end
use Rattle.fm_law_chained.specs.Called.{with_frame}
use Rattle.fm_law_held_objects.specs.Laws.{frees_of}
use Rattle.fm_law_lockstep.proofs.Ahead.{ahead_is, first_ahead, freed_ahead, given_ahead}
use Rattle.fm_law_lockstep.proofs.AheadHeld.{before_frees, before_gone, CatchLaws, following_of, IsReady, next_of, ready}
use Rattle.fm_law_lockstep.proofs.FreedTogether.{BeforeFrees}
use Rattle.fm_law_lockstep.proofs.Paced.{at_kept, first_goes, inserted, is_kept, reached, second_goes, second_goes_on}
use Rattle.fm_law_lockstep.proofs.StepsTogether.{goes, known}
use Rattle.fm_law_lockstep.specs.Both.{Both}
use Rattle.fm_law_lockstep.specs.Composing.{BothCatchUp}
use Rattle.fm_law_lockstep.specs.Known.{IsKnownOn, IsLinked, StepsStayKnown}
use Rattle.fm_law_lockstep.specs.Limits.{ShallowStepsCost}
use Rattle.fm_law_lockstep.specs.Stepping.{AreWithin, BothEnd, BothGo, KeptStepGoes, KeptStepsGoTogether, SecondIsFull, SecondLacks}
use Rattle.fm_law_lockstep.specs.Together.{GoTogetherAt, GoTogetherIn}
use Rattle.fm_law_same_runs.specs.Beside.{Beside, is_at_kept, runs_of}
use Rattle.fm_law_same_runs.specs.Paces.{CatchesUp}
use Rattle.fm_law_sound.proofs.Budgets.{step_budget}
use Rattle.fm_law_sound.specs.Sound.{IsSoundBy}
use Rattle.fm_law_two_memories.specs.Pairing.{StatesPaired}
use Rattle.fm_law_two_memories.specs.Runs.{LacksWords}
use Rattle.fm_law_unwoven.specs.Doing.{all_areas_after, all_locals_after, all_steps_to, IsPassed}
use Rattle.fm_law_unwoven.specs.Kept.{FramesGo, StatesGo}
use Rattle.fm_law_unwoven.specs.Laid.{Todo}
use Rattle.fm_law_unwoven.specs.Reached.{AllReached, IsReached, jumps_ahead, OneMissed, Reached, state_reached}
use Rattle.fm_law_unwoven.specs.WovenFrom.{inserted_by, IsWovenFrom}

-- what a step of both rests on
pub record GoingLaws (b : Both) : Type 0 where
  pub kept_go : KeptStepsGoTogether
  pub known_on : StepsStayKnown
  pub costs : ShallowStepsCost
  pub catch_up : BothCatchUp b
  pub ahead : CatchLaws

-- ---- a frame on its way to the next kept item

-- Both go on from states that go together, and the topmost frame reaches its next kept item.
pub record GoesToKept (b : Both) (choose : Choose) (x y : State) (t : GoTogetherAt b x y) : Type 0 where
  pub on : IsKnownOn b.one b.facts x (next_of b never_choice x) t.colour t.made
  pub going : (next_of b never_choice x).ended ≡ None
  pub other_going : (following_of b choose y).ended ≡ None
  pub within : AreWithin b.one x y (next_of b never_choice x) (following_of b choose y)
  pub f : Frame
  pub g : Frame
  pub callers : List Frame
  pub below : List Frame
  pub news : (following_of b choose y).frames ≡ g ∷ below
  pub paired : StatesPaired t.gone b.one.outline (next_of b never_choice x)
      (record (following_of b choose y) { frames = f ∷ callers; steps = (next_of b never_choice x).steps })
  pub go : FramesGo b.one b.other b.facts b.plans b.marks y f g callers below
  pub reached : Reached b.one b.other b.facts b.plans b.marks (lawful choose) (following_of b choose y) f g below
      (first_ahead b.one b.other b.facts b.plans b.marks y (following_of b choose y).areas.store f g below go.top
      ++ frees_of (inserted_by (b.plans g.method)) (freed_ahead b.one b.other b.facts b.plans b.marks y (following_of b choose y).areas.store f g below go.top))
      (jumps_ahead b.one b.other b.facts b.plans b.marks y f g below go.top)

module _ (b : Both) (choose : Choose) (x y : State) (t : GoTogetherAt b x y) (s : GoesToKept b choose x y t) where
  -- what is done before anything is freed, what gets what a site gave, and what is freed
  abbrev pub first_of : List Todo
  first_of = first_ahead b.one b.other b.facts b.plans b.marks y (following_of b choose y).areas.store s.f s.g s.below s.go.top

  abbrev pub given_of : List ℕ
  given_of = given_ahead b.one b.other b.facts b.plans b.marks y (following_of b choose y).areas.store s.f s.g s.below s.go.top

  abbrev pub freed_of : List ℕ
  freed_of = freed_ahead b.one b.other b.facts b.plans b.marks y (following_of b choose y).areas.store s.f s.g s.below s.go.top

  -- the state at the kept item
  abbrev pub state_at_kept : State
  state_at_kept =
      state_reached s.reached.code (following_of b choose y) s.g s.below
      (first_ahead b.one b.other b.facts b.plans b.marks y (following_of b choose y).areas.store s.f s.g s.below s.go.top
      ++ frees_of (inserted_by (b.plans s.g.method)) (freed_ahead b.one b.other b.facts b.plans b.marks y (following_of b choose y).areas.store s.f s.g s.below s.go.top))
      (jumps_ahead b.one b.other b.facts b.plans b.marks y s.f s.g s.below s.go.top) s.reached.number

  module _ (laws : CatchLaws) (from : IsWovenFrom b.one b.other b.facts b.plans b.marks) (linked : IsLinked b.one b.facts) where
    -- what is known before anything is freed
    pub ready_there : IsReady b (next_of b never_choice x) (following_of b choose y) s.on.fewer t.gone s.f s.g s.below s.reached.code first_of given_of freed_of
    ready_there =
        ready laws b from linked never_choice choose x y t s.on s.going s.other_going s.within s.f s.g s.callers s.below s.paired s.go s.reached.code
        s.reached.code_is s.reached.number s.reached.number_is s.reached.width s.go.top

    pub before_there : BeforeFrees b (next_of b never_choice x)
        (record (following_of b choose y) { areas = all_areas_after s.reached.code s.g.stack first_of s.g.locals (following_of b choose y).areas })
        s.f s.g s.callers s.below s.reached.code (all_locals_after s.reached.code s.g.stack first_of s.g.locals)
    before_there =
        before_frees laws b from linked never_choice choose x y t s.on s.going s.other_going s.within s.f s.g s.callers s.below s.paired s.go s.reached.code
        s.reached.code_is s.reached.number s.reached.number_is s.reached.width first_of given_of freed_of ready_there

    -- what is gone then was gone before
    pub gone_there : before_there.gone ≡ t.gone
    unfolding before_there
    gone_there =
        before_gone laws b from linked never_choice choose x y t s.on s.going s.other_going s.within s.f s.g s.callers s.below s.paired s.go s.reached.code
        s.reached.code_is s.reached.number s.reached.number_is s.reached.width first_of given_of freed_of ready_there

-- ---- along the runs

module _ (b : Both) (from : IsWovenFrom b.one b.other b.facts b.plans b.marks) (linked : IsLinked b.one b.facts) (laws : GoingLaws b) (steps : ℕ) (job : Job) (choose : Choose)
    (free : List (List ℕ)) where
  abbrev runs : Beside
  runs = runs_of b.one b.other b.marks steps b.words b.other_words job choose free

  abbrev xs : ℕ → Moved
  xs = runs.xs

  abbrev ys : ℕ → Moved
  ys = runs.ys

  module _ (k l : ℕ) (pace : GoTogetherIn b runs k l) (words : ¬ LacksWords (step b.one (lawful never_choice) (xs k).state).state)
      (c : CatchesUp runs (GoTogetherIn b runs) (suc k) (suc l)) where
    abbrev x : State
    x = (xs k).state

    abbrev y : State
    y = (ys l).state

    abbrev next : State
    next = (step b.one (lawful never_choice) x).state

    abbrev following : State
    following = (step b.other (lawful choose) y).state

    abbrev z : State
    z = (ys (suc l + c.count)).state

    abbrev t : GoTogetherAt b x y
    t = pace.0

    next_is : (xs (suc k)).state ≡ next
    next_is = first_goes b steps job choose free k

    following_is : (ys (suc l)).state ≡ following
    following_is = second_goes b steps job choose free l

    together : GoTogetherAt b next z
    together = subst (λ s. GoTogetherAt b s z) next_is c.pace.0

    -- up to there the second run goes on
    goes_on : (m : ℕ) → m ≤ c.count → (ys (suc l + m)).state.ended ≡ None
    goes_on m few =
        ⊎_elim (λ (less : m < c.count). (c.inserted m less).goes_on)
        (λ (more : c.count ≤ m).
        let same : c.count ≡ m = omega (arith, few, more) in
        subst (λ n. (ys (suc l + n)).state.ended ≡ None) same (second_goes_on b next z together))
        (cases_lt m c.count)

    kept_there : is_at_kept b.marks z ≡ true
    kept_there = is_kept b next z together

    first_going : next.ended ≡ None
    first_going = together.goes_on

    other_going : following.ended ≡ None
    other_going =
        let same : suc l + 0 ≡ suc l = omega arith in
        ap (λ (s : State). s.ended) (sym following_is) ∙ ap (λ n. (ys n).state.ended) (sym same) ∙ goes_on 0 (omega arith)

    module _ (f g : Frame) (below : List Frame) (news : following.frames ≡ g ∷ below) (todos : List Todo) (jumps : ℕ)
        (r : Reached b.one b.other b.facts b.plans b.marks (lawful choose) following f g below todos jumps) where
      abbrev there : State
      there = state_reached r.code following g below todos jumps r.number

      start_is : with_frame following g below ≡ (ys (suc l)).state
      start_is = (λ i. record following { frames = sym news i; ended = sym other_going i }) ∙ sym following_is

      by_done : IsReached b.one b.other b.facts b.plans b.marks (lawful choose) r.code following g below todos jumps r.number → there ≡ z
      by_done (AllReached passed kept) = by_order (cases_lt n c.count) (cases_lt c.count n) where
        n : ℕ
        n = jumps + all_steps_to todos

        gone_on : IsPassed b.other b.marks (lawful choose) n (ys (suc l)).state there
        gone_on = subst (λ s. IsPassed b.other b.marks (lawful choose) n s there) start_is passed

        state_is : (ys (suc l + n)).state ≡ there
        state_is = (reached b steps job choose free n (suc l) there gone_on).0

        is_there_kept : is_at_kept b.marks there ≡ true
        is_there_kept = at_kept b x y t there.frames kept.frames (kept.sound.running refl)

        by_order : (n < c.count) ⊎ (c.count ≤ n) → (c.count < n) ⊎ (n ≤ c.count) → there ≡ z
        by_order (inl less) either =
            absurd (false≢true (sym (c.inserted n less).inserted ∙ ap (is_at_kept b.marks) state_is ∙ is_there_kept))
        by_order (inr more) (inl less) =
            absurd (false≢true (sym (inserted b steps job choose free n (suc l) there gone_on c.count less).inserted ∙ kept_there))
        by_order (inr more) (inr few) =
            let same : n ≡ c.count = omega (arith, more, few) in sym state_is ∙ ap (λ m. (ys (suc l + m)).state) same
      by_done (OneMissed lost m last e fewer passed at printed ended) = by_order (cases_lt m c.count) (cases_lt c.count m) where
        gone_on : IsPassed b.other b.marks (lawful choose) m (ys (suc l)).state last
        gone_on = subst (λ s. IsPassed b.other b.marks (lawful choose) m s last) start_is passed

        state_is : (ys (suc l + m)).state ≡ last
        state_is = (reached b steps job choose free m (suc l) last gone_on).0

        by_order : (m < c.count) ⊎ (c.count ≤ m) → (c.count < m) ⊎ (m ≤ c.count) → there ≡ z
        by_order (inl less) either =
            let later : suc l + suc m ≡ suc (suc l + m) = omega arith in
            absurd (none-some e (sym (goes_on (suc m) (omega (arith, less))) ∙ ap (λ i. (ys i).state.ended) later
            ∙ ap (λ (s : State). s.ended) (second_goes b steps job choose free (suc l + m))
            ∙ ap (λ (s : State). (step b.other (lawful choose) s).state.ended) state_is ∙ ended))
        by_order (inr more) (inl less) =
            absurd (false≢true (sym (inserted b steps job choose free m (suc l) last gone_on c.count less).inserted ∙ kept_there))
        by_order (inr more) (inr few) =
            let same : m ≡ c.count = omega (arith, more, few) in
            absurd (false≢true (sym at.inserted ∙ ap (is_at_kept b.marks) (sym state_is ∙ ap (λ i. (ys (suc l + i)).state) same) ∙ kept_there))

      there_is : there ≡ z
      there_is = by_done r.done

    -- ---- the step of both

    module _ (Then : State → State → Type 0)
        (each : (s : GoesToKept b choose (xs k).state (ys l).state pace.0) → Then (next_of b never_choice (xs k).state) (state_at_kept b choose (xs k).state (ys l).state pace.0 s)) where
      by_frames : (frames : List Frame) → AreWithin b.one x y next following
          → StatesPaired t.gone b.one.outline next (record following { frames = frames; steps = next.steps })
          → IsSoundBy b.one b.facts.typing (record following { frames = frames; steps = next.steps })
          → (gs : List Frame) → following.frames ≡ gs → StatesGo b.one b.other b.facts b.plans b.marks y frames gs → Then next z
      by_frames [] within paired sound gs news go = absurd go
      by_frames (f ∷ callers) within paired sound [] news go = absurd go
      by_frames (f ∷ callers) within paired sound (g ∷ below) news go = subst (Then next) same (each to_kept) where
        r : Reached b.one b.other b.facts b.plans b.marks (lawful choose) following f g below
            (first_ahead b.one b.other b.facts b.plans b.marks y following.areas.store f g below go.top
            ++ frees_of (inserted_by (b.plans g.method)) (freed_ahead b.one b.other b.facts b.plans b.marks y following.areas.store f g below go.top))
            (jumps_ahead b.one b.other b.facts b.plans b.marks y f g below go.top)
        r =
            subst (λ all. Reached b.one b.other b.facts b.plans b.marks (lawful choose) following f g below all
            (jumps_ahead b.one b.other b.facts b.plans b.marks y f g below go.top))
            (ahead_is b.one b.other b.facts b.plans b.marks y following.areas.store f g below go.top)
            (laws.ahead.reach b.one b.other b.facts b.plans b.marks from linked.without.steps choose y following f g callers below go
            (record { typed = sound.typed; areas = sound.areas; frames = sound.frames; running = λ goes. omega arith; within = sound.within })
            (subst (λ n. n ≤ MAX_LIVE_WORDS) (sym (step_budget b.other (lawful choose) y)) t.kept.words))

        to_kept : GoesToKept b choose (xs k).state (ys l).state pace.0
        to_kept = record {
          on = (known b from linked laws.kept_go laws.known_on laws.costs laws.catch_up never_choice choose x y t words within.not_over).1 t.goes_on first_going;
          going = first_going;
          other_going = other_going;
          within = within;
          f = f;
          g = g;
          callers = callers;
          below = below;
          news = news;
          paired = paired;
          go = go;
          reached = r;
        }

        same : state_reached r.code following g below
            (first_ahead b.one b.other b.facts b.plans b.marks y following.areas.store f g below go.top
            ++ frees_of (inserted_by (b.plans g.method)) (freed_ahead b.one b.other b.facts b.plans b.marks y following.areas.store f g below go.top))
            (jumps_ahead b.one b.other b.facts b.plans b.marks y f g below go.top) r.number ≡ z
        same = there_is f g below news
            (first_ahead b.one b.other b.facts b.plans b.marks y following.areas.store f g below go.top
            ++ frees_of (inserted_by (b.plans g.method)) (freed_ahead b.one b.other b.facts b.plans b.marks y following.areas.store f g below go.top))
            (jumps_ahead b.one b.other b.facts b.plans b.marks y f g below go.top) r

      by_goes : KeptStepGoes b.one b.other b.facts b.plans b.marks t.gone x y (step b.one (lawful never_choice) x) (step b.other (lawful choose) y) → Then next z
      by_goes (BothGo frames going other printed rise within paired sound go) = by_frames frames within paired sound following.frames refl go
      by_goes (BothEnd e is other_is printed none rise) = absurd (none-some e (sym first_going ∙ is))
      by_goes (SecondLacks live needed is shallow less) = absurd (none-some (end.Exhausted live needed) (sym other_going ∙ is))
      by_goes (SecondIsFull made needed is shallow small) = absurd (none-some (end.StoreFull made needed) (sym other_going ∙ is))

      -- what holds of each state that is reached, holds of the states of these numbers
      pub at_next_kept : Then (xs (suc k)).state (ys (suc l + c.count)).state
      at_next_kept =
          subst (λ s. Then s z) (sym next_is)
          (by_goes (goes b from linked laws.kept_go laws.known_on laws.costs laws.catch_up never_choice choose x y t words))
