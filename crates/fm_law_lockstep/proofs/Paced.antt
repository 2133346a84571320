-- Runs that go together keep pace.
use Rattle.std.proofs.Common.{◌≡◌, ℕ, zero, suc, ◌+◌, ◌<◌, ◌≤◌, true, List, [], ◌∷◌, ◌++◌, length, map, append-nil, Some, None, is_some, refl, sym, ap, subst, ◌∙◌, arith}
use Rattle.std.proofs.lemmas.List.Elements.{length_all_zip}
use Rattle.std.proofs.lemmas.List.{length-map}
use Rattle.fm_base.specs.declared.limits.TheConstants.{MAX_MADE_WORDS}
use Rattle.fm_cells.specs.Choices.{lawful, never_choice}
use Rattle.fm_cells.specs.Stores.{live_words, opened}
use Rattle.fm_frames.specs.Acts.{Choose}
use Rattle.fm_frames.specs.Runs.{after, Job, opening}
use Rattle.fm_frames.specs.States.{Frame, Moved, State}
use Rattle.fm_frames.specs.Steps.{step}
use Rattle.fm_frames.specs.declared.ends.Ended.{Ended}
use Rattle.fm_law_lockstep.specs.Both.{Both}
use Rattle.fm_law_lockstep.specs.Stepping.{RiseAlike}
use Rattle.fm_law_lockstep.specs.Together.{CatchesUpAt, CostsAreSame, EndsTogether, EndsWanting, GoTogetherAt, GoTogetherIn, IsWantOf, LockStep, LockstepsKeepPace, OfRoom, OfWords, OpenAtEnd, OpeningsGoTogether, OpensTogether, OpenTogether, OpenWanting, StaysTogether, StepsGoTogether}
use Rattle.fm_law_no_fault.specs.Whole.{HasNoFault}
use Rattle.fm_law_same_runs.proofs.Openings.{runs_go}
use Rattle.fm_law_same_runs.specs.Beside.{AreAtInserted, Beside, HasWords, is_at_kept, IsAtInserted, IsWant, runs_of}
use Rattle.fm_law_same_runs.specs.Beside as beside
use Rattle.fm_law_same_runs.specs.Paces.{CatchesUp, EndsAlike, EndsInWant, GoesAlong, KeepPaces, KeepsPace, Opens, OpensAtEnd, OpensInPace, OpensInWant, StaysInPace}
use Rattle.fm_law_sound.specs.Making.{ArgumentsFit}
use Rattle.fm_law_two_memories.specs.Pairing.{EndAlike, FramesPaired}
use Rattle.fm_law_two_memories.specs.Runs.{LacksWords}
use Rattle.fm_law_unwoven.specs.Doing.{IsPassed}
use Rattle.fm_law_unwoven.specs.Kept.{old_frame, StandKept}

module _ (b : Both) where
  -- ---- one pair of states

  module _ (x y : State) (t : GoTogetherAt b x y) where
    pub second_goes_on : y.ended ≡ None
    second_goes_on = subst (λ e. EndAlike t.gone x.areas.store y.areas.store e y.ended) t.goes_on t.paired.ended

    pub at_kept : (frames : List Frame) → StandKept b.one b.other b.facts b.plans b.marks frames → 0 < length (map (old_frame b.one b.marks) frames)
        → is_at_kept b.marks (record y { frames = frames }) ≡ true
    at_kept [] stands some = absurd (omega (arith, some))
    at_kept (g ∷ callers) stands some = ap is_some (stands.0).item_is

    pub is_kept : is_at_kept b.marks y ≡ true
    is_kept = at_kept y.frames t.kept.frames (t.kept.sound.running second_goes_on)

    pub same_frames : length y.frames ≡ length x.frames
    same_frames =
        sym (length-map y.frames (old_frame b.one b.marks))
        ∙ sym (length_all_zip (FramesPaired t.gone x.areas.store y.areas.store) x.frames (map (old_frame b.one b.marks) y.frames) t.paired.frames)

    pub fewer_words : live_words y.areas.store ≤ live_words x.areas.store
    fewer_words = let words = t.paired.areas.store.words in omega (arith, words)

    -- words balance: what lives in the second run, with what was freed
    pub balanced : live_words y.areas.store + y.areas.freed_words ≡ live_words x.areas.store
    balanced = ap (λ n. live_words y.areas.store + n) t.freed ∙ t.paired.areas.store.words

  -- ---- two runs

  module _ (steps : ℕ) (job : Job) (choose : Choose) (free : List (List ℕ)) where
    abbrev runs : Beside
    runs = runs_of b.one b.other b.marks steps b.words b.other_words job choose free

    abbrev xs : ℕ → Moved
    xs = runs.xs

    abbrev ys : ℕ → Moved
    ys = runs.ys

    abbrev IsPaceOf : ℕ → ℕ → Type 0
    IsPaceOf = GoTogetherIn b runs

    first_on : (k : ℕ) → (xs (suc k)).printed ≡ (xs k).printed ++ (step b.one (lawful never_choice) (xs k).state).printed
    unfolding after
    first_on k = refl

    second_on : (l : ℕ) → (ys (suc l)).printed ≡ (ys l).printed ++ (step b.other (lawful choose) (ys l).state).printed
    unfolding after
    second_on l = refl

    pub first_goes : (k : ℕ) → (xs (suc k)).state ≡ (step b.one (lawful never_choice) (xs k).state).state
    first_goes = (runs_go b.one b.other b.marks steps b.words b.other_words job choose free).first_goes

    pub second_goes : (l : ℕ) → (ys (suc l)).state ≡ (step b.other (lawful choose) (ys l).state).state
    second_goes = (runs_go b.one b.other b.marks steps b.words b.other_words job choose free).second_goes

    pub keeps_pace : CostsAreSame b → (k l : ℕ) → IsPaceOf k l → KeepsPace runs k l
    keeps_pace costs k l pace =
        let x = (xs k).state in
        let y = (ys l).state in
        record {
          first_goes_on = pace.0.goes_on;
          second_goes_on = second_goes_on x y pace.0;
          kept = is_kept x y pace.0;
          next_cost = costs x y pace.0;
          printed = pace.1;
          input = pace.0.paired.input;
          frames = same_frames x y pace.0;
          births = pace.0.paired.areas.store.births;
          words = fewer_words x y pace.0;
        }

    -- ---- inserted steps

    pub reached : (n l : ℕ) (z : State) → IsPassed b.other b.marks (lawful choose) n (ys l).state z
        → ((ys (l + n)).state ≡ z) × ((ys (l + n)).printed ≡ (ys l).printed)
    reached zero l z passed =
        let same : l + 0 ≡ l = omega arith in (ap (λ k. (ys k).state) same ∙ passed, ap (λ k. (ys k).printed) same)
    reached (suc n) l z passed =
        let same : l + suc n ≡ suc l + n = omega arith in
        let more = reached n (suc l) z (subst (λ s. IsPassed b.other b.marks (lawful choose) n s z) (sym (second_goes l)) passed.3) in
        let nothing : (ys (suc l)).printed ≡ (ys l).printed = second_on l ∙ ap (λ bytes. (ys l).printed ++ bytes) passed.1 ∙ append-nil (ys l).printed in (
          ap (λ k. (ys k).state) same ∙ more.0,
          ap (λ k. (ys k).printed) same ∙ more.1 ∙ nothing,
        )

    pub inserted : (n l : ℕ) (z : State) → IsPassed b.other b.marks (lawful choose) n (ys l).state z → AreAtInserted runs l n
    inserted zero l z passed j less = absurd (omega (arith, less))
    inserted (suc n) l z passed zero less =
        let same : l + 0 ≡ l = omega arith in subst (λ k. IsAtInserted b.marks (ys k).state) (sym same) passed.0
    inserted (suc n) l z passed (suc j) less =
        let same : l + suc j ≡ suc l + j = omega arith in
        subst (λ k. IsAtInserted b.marks (ys k).state) (sym same)
        (inserted n (suc l) z (subst (λ s. IsPassed b.other b.marks (lawful choose) n s z) (sym (second_goes l)) passed.3) j (omega (arith, less)))

    pub catches_up : (k l : ℕ) → (ys l).printed ≡ (xs k).printed → CatchesUpAt b choose (xs k).state (ys l).state → CatchesUp runs IsPaceOf k l
    catches_up k l printed c =
        let there = reached c.count l c.caught c.passed in
        record {
          count = c.count;
          few = c.few;
          inserted = inserted c.count l c.caught c.passed;
          steps = ap (λ (s : State). s.steps) there.0 ∙ c.steps;
          pace = (subst (GoTogetherAt b (xs k).state) (sym there.0) c.together, there.1 ∙ printed);
        }

    -- ---- a step of both

    pub want : (e : Ended) → IsWantOf b e → IsWant runs e
    want e (OfWords live needed is less) = beside.OfWords live needed is less
    want e (OfRoom made needed is more) = beside.OfRoom made needed is more

    pub goes_along : StepsGoTogether b → (k l : ℕ) → IsPaceOf k l → ¬ LacksWords (xs (suc k)).state → GoesAlong runs IsPaceOf k l
    goes_along steps_go k l pace words =
        by_step (steps_go never_choice choose (xs k).state (ys l).state pace.0 (subst (λ s. ¬ LacksWords s) (first_goes k) words)) where
          one : Moved
          one = step b.one (lawful never_choice) (xs k).state

          two : Moved
          two = step b.other (lawful choose) (ys l).state

          printed_on : two.printed ≡ one.printed → (ys (suc l)).printed ≡ (xs (suc k)).printed
          printed_on same = second_on l ∙ ap (λ bytes. (ys l).printed ++ bytes) same ∙ ap (λ bytes. bytes ++ one.printed) pace.1 ∙ sym (first_on k)

          counts : RiseAlike (xs k).state (ys l).state one.state two.state
              → (ys (suc l)).state.steps + (xs k).state.steps ≡ (xs (suc k)).state.steps + (ys l).state.steps
          counts rise =
              let first = ap (λ (s : State). s.steps) (first_goes k) in
              let second = ap (λ (s : State). s.steps) (second_goes l) in omega (arith, rise, first, second)

          by_step : LockStep b choose (xs k).state (ys l).state one two → GoesAlong runs IsPaceOf k l
          by_step (StaysTogether printed caught) =
              StaysInPace (catches_up (suc k) (suc l) (printed_on printed)
              (subst (λ s. CatchesUpAt b choose s (ys (suc l)).state) (sym (first_goes k))
              (subst (CatchesUpAt b choose one.state) (sym (second_goes l)) caught)))
          by_step (EndsTogether e is other_is none printed rise) =
              EndsAlike e (ap (λ (s : State). s.ended) (first_goes k) ∙ is) (ap (λ (s : State). s.ended) (second_goes l) ∙ other_is) (printed_on printed) (counts rise)
              (subst HasNoFault (sym (first_goes k)) none)
          by_step (EndsWanting e is lacks printed uncounted costs) =
              EndsInWant e (ap (λ (s : State). s.ended) (second_goes l) ∙ is) (want e lacks)
              (second_on l ∙ ap (λ bytes. (ys l).printed ++ bytes) printed ∙ append-nil (ys l).printed)
              (ap (λ (s : State). s.steps) (second_goes l) ∙ uncounted)
              (subst (λ (s : State). (xs k).state.steps < s.steps) (sym (first_goes k)) costs)

    -- ---- the opening

    pub first_printed : (xs 0).printed ≡ []
    first_printed = (runs_go b.one b.other b.marks steps b.words b.other_words job choose free).first_printed

    pub second_printed : (ys 0).printed ≡ []
    second_printed = (runs_go b.one b.other b.marks steps b.words b.other_words job choose free).second_printed

    pub opens : OpeningsGoTogether b → ArgumentsFit job.arguments → ¬ LacksWords (xs 0).state → Opens runs IsPaceOf
    unfolding after
    opens openings fits words = by_opening (openings never_choice choose job fits free words) where
      by_opening : OpensTogether b choose (opening b.one (lawful never_choice) job (opened b.words None [])).state
          (opening b.other (lawful choose) job (opened b.other_words (Some MAX_MADE_WORDS) free)).state → Opens runs IsPaceOf
      by_opening (OpenTogether caught all empty) = OpensInPace (catches_up 0 0 (second_printed ∙ sym first_printed) caught)
      by_opening (OpenAtEnd e is other_is none) = OpensAtEnd e is other_is (second_printed ∙ sym first_printed) none
      by_opening (OpenWanting e is lacks) = OpensInWant e is (want e lacks) second_printed

    pub keep_paces : CostsAreSame b → StepsGoTogether b → OpeningsGoTogether b → ArgumentsFit job.arguments → HasWords runs
        → KeepPaces runs IsPaceOf
    keep_paces costs steps_go openings fits words = record {
      paces = keeps_pace costs;
      opens = opens openings fits (words 0 (λ j less. absurd (omega (arith, less))));
      next = λ k l pace reaches has. goes_along steps_go k l pace has;
    }

pub locksteps_keep_pace : LockstepsKeepPace
locksteps_keep_pace b costs steps_go openings steps job choose free fits words =
    keep_paces b steps job choose free costs steps_go openings fits words
