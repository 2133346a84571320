-- Along two runs that go together: what the second one lacks was retired before in the first one.
use Rattle.std.proofs.Common.{◌≡◌, ◌⊎◌, ℕ, suc, ◌+◌, ◌-◌, ◌<◌, ◌≤◌, true, false, List, [], ◌∷◌, Some, None, refl, sym, ap, subst, ◌∙◌, arith, ⊎_elim}
use Rattle.std.specs.List.{AllByRecursion, AllZip}
use Rattle.std.proofs.lemmas.Bool.{cases_lt}
use Rattle.std.proofs.lemmas.Option.{slice_get_within}
use Rattle.fm_base.specs.declared.limits.TheConstants.{MAX_MADE_WORDS}
use Rattle.fm_cells.specs.Choices.{lawful, never_choice}
use Rattle.fm_cells.specs.Soundness.{IsOrderly}
use Rattle.fm_cells.specs.Stores.{opened, Store}
use Rattle.fm_chain.specs.Chained.{looped_at}
use Rattle.fm_code.specs.declared.code_array.Code.{Code}
use Rattle.fm_conn.specs.Facts.{Facts}
use Rattle.fm_conn.specs.Links.{typed_method}
use Rattle.fm_frames.specs.Acts.{Choose}
use Rattle.fm_frames.specs.Runs.{after, Job, opening}
use Rattle.fm_frames.specs.States.{Frame, Moved, State}
use Rattle.fm_frames.specs.Steps.{step}
use Rattle.fm_frames.specs.declared.ends.Ended.TheVariants as end
use Rattle.fm_frames.specs.declared.values.Value.{Value}
use Rattle.fm_law_held_objects.proofs.ContentsKept.{nothing_has}
use Rattle.fm_law_held_objects.specs.Contents.{Has}
use Rattle.fm_law_lockstep.proofs.AheadHeld.{next_of}
use Rattle.fm_law_lockstep.proofs.NextKept.{at_next_kept, before_there, GoesToKept, GoingLaws, gone_there, ready_there, state_at_kept}
use Rattle.fm_law_lockstep.proofs.NothingFreed.{FreesNothing, nothing_freed}
use Rattle.fm_law_lockstep.proofs.Paced.{first_goes, first_printed, goes_along, inserted, keeps_pace, reached, second_printed, want}
use Rattle.fm_law_lockstep.proofs.Since.{FramesSince}
use Rattle.fm_law_lockstep.proofs.StepHeld.{frees_nothing}
use Rattle.fm_law_lockstep.proofs.SinceStep.{MissingIs, TellsOn, told_on}
use Rattle.fm_law_lockstep.specs.Both.{Both}
use Rattle.fm_law_lockstep.specs.Known.{IsLinked}
use Rattle.fm_law_lockstep.specs.Together.{CatchesUpAt, CostsAreSame, GoTogetherAt, GoTogetherIn, HoldsNothing, OpenAtEnd, OpeningsGoTogether, OpensTogether, OpenTogether, OpenWanting, StepsGoTogether}
use Rattle.fm_law_same_runs.specs.Beside.{Beside, HasWords, runs_of}
use Rattle.fm_law_same_runs.specs.Paces.{CatchesUp, EndsAlike, EndsInWant, GoesAlong, KeepPaces, Opens, OpensAtEnd, OpensInPace, OpensInWant, StaysInPace}
use Rattle.fm_law_same_runs.specs.Renaming.{WasRetired}
use Rattle.fm_law_sound.specs.Making.{ArgumentsFit}
use Rattle.fm_law_two_memories.specs.Pairing.{FramesPaired}
use Rattle.fm_law_two_memories.specs.Runs.{LacksWords}
use Rattle.fm_law_unwoven.specs.WovenFrom.{inserted_by, IsWovenFrom}
use Rattle.fm_place.specs.Sites.{is_captured}
use Rattle.fm_same.specs.Laws.{SitesMakeBusy}
use Rattle.fm_same.specs.DeadRegions.{IsHeldAt, IsMethodAt, IsOver, LeadsTo}
use Rattle.fm_world.specs.Programs.{code_at}

-- ---- what holds of holders

-- the frame was there since some state in which a word or a live local of this class led to the object
pub record HeldSince (facts : Facts) (r : Beside) (k method depth class birth : ℕ) : Type 0 where
  pub first : ℕ
  pub within : first ≤ k
  pub there : (i : ℕ) → first ≤ i → i ≤ k → IsMethodAt method depth (r.xs i).state.frames
  pub from : Value
  pub held : IsHeldAt facts depth class (r.xs first).state.frames from
  pub leads : LeadsTo r.one.outline (r.xs first).state.areas.store from birth

module _ (facts : Facts) (r : Beside) (k : ℕ) where
  held_on : (method depth class birth : ℕ) → HeldSince facts r k method depth class birth → IsMethodAt method depth (r.xs (suc k)).state.frames
      → HeldSince facts r (suc k) method depth class birth
  held_on method depth class birth h now =
      let within = h.within in
      record {
        first = h.first;
        within = omega (arith, within);
        there = λ i low high.
            ⊎_elim (λ (less : i < suc k). h.there i low (omega (arith, less)))
            (λ (more : suc k ≤ i).
            let same : suc k ≡ i = omega (arith, more, high) in subst (λ n. IsMethodAt method depth (r.xs n).state.frames) same now)
            (cases_lt i (suc k));
        from = h.from;
        held = h.held;
        leads = h.leads;
      }

  held_now : (method depth class birth : ℕ) (v : Value) → IsMethodAt method depth (r.xs (suc k)).state.frames
      → IsHeldAt facts depth class (r.xs (suc k)).state.frames v → LeadsTo r.one.outline (r.xs (suc k)).state.areas.store v birth
      → HeldSince facts r (suc k) method depth class birth
  held_now method depth class birth v now held leads = record {
    first = suc k;
    within = omega arith;
    there = λ i low high. let same : suc k ≡ i = omega (arith, low, high) in subst (λ n. IsMethodAt method depth (r.xs n).state.frames) same now;
    from = v;
    held = held;
    leads = leads;
  }

  held_over : (method depth class birth : ℕ) (code : Code) → code_at r.one method ≡ Some code
      → is_captured facts (typed_method r.one facts.typing method code) class ≡ true → IsOver r.one facts method depth class (r.xs (suc k)).state.frames
      → HeldSince facts r k method depth class birth → WasRetired facts r (suc k) birth
  held_over method depth class birth code code_is captured over h =
      let within = h.within in
      let index : suc k ≡ h.first + suc (k - h.first) = omega (arith, within) in
      record {
        method = method;
        depth = depth;
        class = class;
        first = h.first;
        count = k - h.first;
        retired = record {
          code = code;
          code_is = code_is;
          captured = captured;
          stands = λ i few. h.there (h.first + i) (omega arith) (omega (arith, few, within));
          from = h.from;
          held = h.held;
          leads = h.leads;
          over = subst (λ n. IsOver r.one facts method depth class (r.xs n).state.frames) index over;
        };
        before = omega (arith, within);
      }

  retired_on : (birth : ℕ) → WasRetired facts r k birth → WasRetired facts r (suc k) birth
  retired_on birth was =
      let before = was.before in
      record {
        method = was.method;
        depth = was.depth;
        class = was.class;
        first = was.first;
        count = was.count;
        retired = was.retired;
        before = omega (arith, before);
      }

-- ---- along the runs

-- what a step of both rests on
pub record HistoryLaws (b : Both) : Type 0 where
  pub going : GoingLaws b
  pub busy : SitesMakeBusy

module _ (b : Both) (from : IsWovenFrom b.one b.other b.facts b.plans b.marks) (linked : IsLinked b.one b.facts) (laws : HistoryLaws b) (steps : ℕ) (job : Job) (choose : Choose)
    (free : List (List ℕ)) where
  abbrev pub runs : Beside
  runs = runs_of b.one b.other b.marks steps b.words b.other_words job choose free

  abbrev xs : ℕ → Moved
  xs = runs.xs

  abbrev ys : ℕ → Moved
  ys = runs.ys

  -- what the second run lacks was retired before, and what holders hold was led to by the frame
  abbrev pub HistoryAt : (k l : ℕ) → Type 0
  HistoryAt k l =
      FramesSince b.one b.facts b.plans b.marks (HeldSince b.facts runs k) (runs.ys l).state.areas.store (runs.ys l).state.frames
      × MissingIs (WasRetired b.facts runs k) (runs.xs k).state.areas.store (runs.ys l).state.areas.store

  tells : (k : ℕ) → TellsOn b (xs (suc k)).state (HeldSince b.facts runs k) (HeldSince b.facts runs (suc k)) (WasRetired b.facts runs k) (WasRetired b.facts runs (suc k))
  tells k = record {
    extends = held_on b.facts runs k;
    begins = held_now b.facts runs k;
    retires = held_over b.facts runs k;
    stays = retired_on b.facts runs k;
  }

  -- ---- one step

  module _ (k l : ℕ) (pace : GoTogetherIn b runs k l) (history : HistoryAt k l) (words : ¬ LacksWords (step b.one (lawful never_choice) (xs k).state).state)
      (c : CatchesUp runs (GoTogetherIn b runs) (suc k) (suc l)) where
    abbrev x : State
    x = (xs k).state

    abbrev y : State
    y = (ys l).state

    abbrev next : State
    next = (step b.one (lawful never_choice) x).state

    abbrev following : State
    following = (step b.other (lawful choose) y).state

    abbrev t : GoTogetherAt b x y
    t = pace.0

    abbrev Then : State → State → Type 0
    Then s w =
        FramesSince b.one b.facts b.plans b.marks (HeldSince b.facts runs (suc k)) w.areas.store w.frames
        × MissingIs (WasRetired b.facts runs (suc k)) s.areas.store w.areas.store

    -- where the topmost frame reaches its next kept item
    module _ (s : GoesToKept b choose (xs k).state (ys l).state pace.0) where
      still : FreesNothing y.areas following.areas
      still = frees_nothing b from linked never_choice choose x y t s.on s.going s.other_going s.within laws.going.ahead.alike laws.going.ahead.kept

      x_still : FreesNothing x.areas next.areas
      x_still = nothing_freed laws.going.ahead.alike b.one b.facts.typing linked.without never_choice x t.goes_on t.known.whole.sound s.going

      by_next : (fs : List Frame) → next.frames ≡ fs → AllZip (FramesPaired t.gone next.areas.store following.areas.store) fs (s.f ∷ s.callers)
          → Then next (state_at_kept b choose x y t s)
      by_next [] are pairs = absurd pairs
      by_next (fx ∷ cx) are pairs =
          told_on b from linked laws.busy laws.going.ahead.frees x y next following t x_still still s.on.fewer s.f s.g s.callers s.below s.paired s.go
          (HeldSince b.facts runs k) (HeldSince b.facts runs (suc k)) (WasRetired b.facts runs k) (WasRetired b.facts runs (suc k))
          (subst (λ s. TellsOn b s (HeldSince b.facts runs k) (HeldSince b.facts runs (suc k)) (WasRetired b.facts runs k) (WasRetired b.facts runs (suc k)))
          (first_goes b steps job choose free k) (tells k))
          history.0 history.1 (lawful choose) fx cx are s.go.top s.reached (ready_there b choose x y t s laws.going.ahead from linked)
          (before_there b choose x y t s laws.going.ahead from linked) (gone_there b choose x y t s laws.going.ahead from linked)

      told_there : Then (next_of b never_choice (xs k).state) (state_at_kept b choose (xs k).state (ys l).state pace.0 s)
      told_there = by_next next.frames refl s.paired.frames

    pub history_on : HistoryAt (suc k) (suc l + c.count)
    history_on = at_next_kept b from linked laws.going steps job choose free k l pace words c Then told_there

  -- ---- the opening

  -- where nothing is gone and no holder holds anything, it holds of nothing
  fresh_frames : (S : ℕ → ℕ → ℕ → ℕ → Type 0) (store : Store) → IsOrderly store → (frames : List Frame) → AllByRecursion (HoldsNothing b) frames
      → FramesSince b.one b.facts b.plans b.marks S store frames
  fresh_frames S store orderly [] empty = tt
  fresh_frames S store orderly (g ∷ frames) empty = (
    λ item code item_is code_is h holder is birth has.
        absurd (nothing_has (looped_at (inserted_by (b.plans g.method)) h) store birth orderly
        (subst (λ v. Has (looped_at (inserted_by (b.plans g.method)) h) store v birth)
        (empty.0 item code h item_is code_is (slice_get_within (inserted_by (b.plans g.method)).holders h holder is)) has)),
    fresh_frames S store orderly frames empty.1,
  )

  history_first : (x y : State) (c : CatchesUpAt b choose x y) → ((birth : ℕ) → c.together.gone.births birth ≡ false) → AllByRecursion (HoldsNothing b) c.caught.frames
      → FramesSince b.one b.facts b.plans b.marks (HeldSince b.facts runs 0) c.caught.areas.store c.caught.frames
      × MissingIs (WasRetired b.facts runs 0) x.areas.store c.caught.areas.store
  history_first x y c all empty = (
    fresh_frames (HeldSince b.facts runs 0) c.caught.areas.store c.together.paired.areas.store.other_orderly c.caught.frames empty,
    λ cell object held missing.
        let twin = c.together.paired.areas.store.objects cell object held (all object.birth) in absurd (missing twin.cell twin.twin twin.held twin.alike.birth),
  )

  -- ---- both runs

  abbrev pub IsPaceSince : ℕ → ℕ → Type 0
  IsPaceSince k l = GoTogetherIn b runs k l × HistoryAt k l

  goes_since : StepsGoTogether b → (k l : ℕ) → IsPaceSince k l → ¬ LacksWords (xs (suc k)).state → GoesAlong runs IsPaceSince k l
  goes_since steps_go k l pace has = by_step (goes_along b steps job choose free steps_go k l pace.0 has) where
    by_step : GoesAlong runs (GoTogetherIn b runs) k l → GoesAlong runs IsPaceSince k l
    by_step (StaysInPace c) =
        StaysInPace (record {
          count = c.count;
          few = c.few;
          inserted = c.inserted;
          steps = c.steps;
          pace = (c.pace, history_on k l pace.0 pace.1 (subst (λ s. ¬ LacksWords s) (first_goes b steps job choose free k) has) c);
        })
    by_step (EndsAlike e is other_is printed rise none) = EndsAlike e is other_is printed rise none
    by_step (EndsInWant e is lacks printed uncounted costs) = EndsInWant e is lacks printed uncounted costs

  opens_since : OpeningsGoTogether b → ArgumentsFit job.arguments → ¬ LacksWords (xs 0).state → Opens runs IsPaceSince
  unfolding after
  opens_since openings fits has = by_opening (openings never_choice choose job fits free has) where
    printed : (ys 0).printed ≡ (xs 0).printed
    printed = second_printed b steps job choose free ∙ sym (first_printed b steps job choose free)

    by_opening : OpensTogether b choose (opening b.one (lawful never_choice) job (opened b.words None [])).state
        (opening b.other (lawful choose) job (opened b.other_words (Some MAX_MADE_WORDS) free)).state → Opens runs IsPaceSince
    by_opening (OpenTogether c all empty) =
        let at = reached b steps job choose free c.count 0 c.caught c.passed in
        OpensInPace (record {
          count = c.count;
          few = c.few;
          inserted = inserted b steps job choose free c.count 0 c.caught c.passed;
          steps = ap (λ (s : State). s.steps) at.0 ∙ c.steps;
          pace = (
            (subst (GoTogetherAt b (xs 0).state) (sym at.0) c.together, at.1 ∙ printed),
            subst (λ (s : State).
                FramesSince b.one b.facts b.plans b.marks (HeldSince b.facts runs 0) s.areas.store s.frames
                × MissingIs (WasRetired b.facts runs 0) (xs 0).state.areas.store s.areas.store)
                (sym at.0) (history_first (xs 0).state (ys 0).state c all empty),
          );
        })
    by_opening (OpenAtEnd e is other_is none) = OpensAtEnd e is other_is printed none
    by_opening (OpenWanting e is lacks) = OpensInWant e is (want b steps job choose free e lacks) (second_printed b steps job choose free)

  -- runs that go together keep pace with their history
  pub keep_paces_since : CostsAreSame b → StepsGoTogether b → OpeningsGoTogether b → ArgumentsFit job.arguments → HasWords runs
      → KeepPaces runs IsPaceSince
  keep_paces_since costs steps_go openings fits has = record {
    paces = λ k l pace. keeps_pace b steps job choose free costs k l pace.0;
    opens = opens_since openings fits (has 0 (λ j less. absurd (omega (arith, less))));
    next = λ k l pace reaches lacks. goes_since steps_go k l pace lacks;
  }
