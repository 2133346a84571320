-- Each state of a run comes to a kept item by few inserted steps; so its holders are cleared, and few inserted steps follow one another.
use Rattle.std.proofs.Common.{◌≡◌, ℕ, zero, suc, ◌+◌, ◌<◌, ◌≤◌, ◌⊎◌, inl, inr, false, List, [], ◌∷◌, length, map, drop, None, is_some, sym, ap, subst, ◌∙◌, arith}
use Rattle.std.proofs.lemmas.Bool.{cases_lt, false≢true}
use Rattle.std.proofs.lemmas.Option.{none-some}
use Rattle.fm_cells.specs.Choices.{lawful}
use Rattle.fm_conn.specs.Facts.{Facts}
use Rattle.fm_frames.proofs.StepCounts.{step_ended}
use Rattle.fm_frames.specs.Acts.{Choose}
use Rattle.fm_frames.specs.States.{Frame, Moved, State}
use Rattle.fm_frames.specs.Steps.{step}
use Rattle.fm_law_same_runs.proofs.Openings.{runs_go}
use Rattle.fm_law_same_runs.specs.Beside.{IsAtInserted, is_at_kept, Marks, most_inserted_steps, reuse_run}
use Rattle.fm_law_sound.specs.Making.{MakesAreResolved}
use Rattle.fm_law_sound.specs.Resolved.{StepsAreResolved}
use Rattle.fm_law_unwoven.proofs.Cleared.{frames_cleared}
use Rattle.fm_law_unwoven.specs.Doing.{IsPassed}
use Rattle.fm_law_unwoven.specs.Kept.{IsAtKept, old_frame, StandKept}
use Rattle.fm_law_unwoven.specs.Runs.{AllRunsAreCleared, AreCleared, ComesToKept, Ends, HasEnded, Kept, KeptStatesGoOn, OpeningsComeToKept}
use Rattle.fm_law_unwoven.specs.WovenFrom.{IsWovenFrom}
use Rattle.fm_place.specs.Rewriting.{Plans}
use Rattle.fm_world.specs.Programs.{Program}

module _ (p q : Program) (facts : Facts) (plans : Plans) (marks : Marks) (from : IsWovenFrom p q facts plans marks) (choose : Choose) where
  abbrev Comes : State → Type 0
  Comes y = ComesToKept p q facts plans marks (lawful choose) y

  abbrev Clear : List Frame → Type 0
  Clear frames = AreCleared p facts plans marks frames

  -- ---- from one state to the next

  next_comes : KeptStatesGoOn → StepsAreResolved p → MakesAreResolved p → (y : State) → Comes y → Comes (step q (lawful choose) y).state
  next_comes goes ready makes y (Kept zero z few passed going at) =
      subst (λ (s : State). Comes (step q (lawful choose) s).state) (sym passed) (goes p q facts plans marks from ready makes choose z at going)
  next_comes goes ready makes y (Kept (suc n) z few passed going at) = Kept n z (omega (arith, few)) passed.3 going at
  next_comes goes ready makes y (HasEnded e is) = HasEnded e (ap (λ (m : Moved). m.state.ended) (step_ended q (lawful choose) y e is) ∙ is)
  next_comes goes ready makes y (Ends zero z e few passed at printed ends clear) =
      HasEnded e (ap (λ (s : State). (step q (lawful choose) s).state.ended) passed ∙ ends)
  next_comes goes ready makes y (Ends (suc n) z e few passed at printed ends clear) =
      Ends n z e (omega (arith, few)) passed.3 at printed ends (subst Clear (sym passed.2) clear)

  -- ---- holders

  -- a frame at an inserted item has nothing to clear
  inserted_clear : (frames : List Frame) (y : State) → is_at_kept marks (record y { frames = frames }) ≡ false → Clear (drop 1 frames) → Clear frames
  inserted_clear [] y inserted below = tt
  inserted_clear (g ∷ callers) y inserted below =
      (λ j code h holder item_is code_is is quiet. absurd (false≢true (sym inserted ∙ ap is_some item_is)), below)

  -- the frames below the topmost one stay on the way
  same_below : (n : ℕ) (y z : State) → IsPassed q marks (lawful choose) n y z → drop 1 z.frames ≡ drop 1 y.frames
  same_below zero y z passed = ap (λ (s : State). drop 1 s.frames) (sym passed)
  same_below (suc n) y z passed = same_below n (step q (lawful choose) y).state z passed.3 ∙ passed.2

  clear_below : (frames : List Frame) → Clear frames → Clear (drop 1 frames)
  clear_below [] clear = tt
  clear_below (g ∷ callers) clear = clear.1

  state_clear : (y : State) → Comes y → y.ended ≡ None → Clear y.frames
  state_clear y (Kept zero z few passed going at) running =
      subst (λ (s : State). Clear s.frames) (sym passed) (frames_cleared p q facts plans marks from z.frames at.frames)
  state_clear y (Kept (suc n) z few passed going at) running =
      inserted_clear y.frames y (passed.0).inserted
      (subst Clear (same_below (suc n) y z passed) (clear_below z.frames (frames_cleared p q facts plans marks from z.frames at.frames)))
  state_clear y (HasEnded e is) running = absurd (none-some e (sym running ∙ is))
  state_clear y (Ends zero z e few passed at printed ends clear) running =
      inserted_clear y.frames y (subst (IsAtInserted marks) (sym passed) at).inserted clear
  state_clear y (Ends (suc n) z e few passed at printed ends clear) running = inserted_clear y.frames y (passed.0).inserted clear

  -- ---- inserted steps

  -- a state at a kept item isn't at an inserted one
  not_inserted : (z : State) → IsAtKept p q facts plans marks z → z.ended ≡ None → IsAtInserted marks z → ⊥
  not_inserted z at going inserted = by_frames z.frames inserted.inserted at.frames (at.sound.running going) where
    by_frames : (frames : List Frame) → is_at_kept marks (record z { frames = frames }) ≡ false → StandKept p q facts plans marks frames
        → 0 < length (map (old_frame p marks) frames) → ⊥
    by_frames [] test stands some = absurd (omega (arith, some))
    by_frames (g ∷ callers) test stands some = false≢true (sym test ∙ ap is_some (stands.0).item_is)

  module _ (ys : ℕ → Moved) (by_steps : (l : ℕ) → (ys (suc l)).state ≡ (step q (lawful choose) (ys l).state).state) where
    -- the run reaches what steps lead to
    reached : (n l : ℕ) (z : State) → IsPassed q marks (lawful choose) n (ys l).state z → (ys (l + n)).state ≡ z
    reached zero l z passed = let same : l + 0 ≡ l = omega arith in ap (λ k. (ys k).state) same ∙ passed
    reached (suc n) l z passed =
        let same : l + suc n ≡ suc l + n = omega arith in
        ap (λ k. (ys k).state) same ∙ reached n (suc l) z (subst (λ s. IsPassed q marks (lawful choose) n s z) (sym (by_steps l)) passed.3)

    run_comes : KeptStatesGoOn → StepsAreResolved p → MakesAreResolved p → Comes (ys 0).state → (l : ℕ) → Comes (ys l).state
    run_comes goes ready makes first zero = first
    run_comes goes ready makes first (suc l) =
        subst Comes (sym (by_steps l)) (next_comes goes ready makes (ys l).state (run_comes goes ready makes first l))

    abbrev AreInserted : ℕ → ℕ → Type 0
    AreInserted l count = (k : ℕ) → k < count → IsAtInserted marks (ys (l + k)).state

    few_follow : (l count : ℕ) → Comes (ys l).state → AreInserted l count → count ≤ most_inserted_steps p q
    few_follow l count (Kept n z few passed going at) inserted = by_order (cases_lt n count) where
      by_order : (n < count) ⊎ (count ≤ n) → count ≤ most_inserted_steps p q
      by_order (inl less) = absurd (not_inserted z at going (subst (IsAtInserted marks) (reached n l z passed) (inserted n less)))
      by_order (inr within) = omega (arith, few, within)
    few_follow l count (HasEnded e is) inserted = by_order (cases_lt 0 count) where
      by_order : (0 < count) ⊎ (count ≤ 0) → count ≤ most_inserted_steps p q
      by_order (inl less) =
          let same : l + 0 ≡ l = omega arith in
          absurd (none-some e (sym (inserted 0 less).goes_on ∙ ap (λ k. (ys k).state.ended) same ∙ is))
      by_order (inr within) = omega (arith, within)
    few_follow l count (Ends n z e few passed at printed ends clear) inserted = by_order (cases_lt (suc n) count) where
      by_order : (suc n < count) ⊎ (count ≤ suc n) → count ≤ most_inserted_steps p q
      by_order (inl less) =
          let same : l + suc n ≡ suc (l + n) = omega arith in
          absurd (none-some e (sym (inserted (suc n) less).goes_on ∙ ap (λ k. (ys k).state.ended) same
          ∙ ap (λ (s : State). s.ended) (by_steps (l + n)) ∙ ap (λ (s : State). (step q (lawful choose) s).state.ended) (reached n l z passed) ∙ ends))
      by_order (inr within) = omega (arith, few, within)

pub runs_cleared : KeptStatesGoOn → OpeningsComeToKept → AllRunsAreCleared
runs_cleared goes opens p q facts plans marks from typed ready makes main choose job given words within free = record {
  cleared = λ l running. state_clear p q facts plans marks from choose (ys l).state (comes l) running;
  few = λ l count inserted. few_follow p q facts plans marks from choose ys by_steps l count (comes l) inserted;
} where
  ys : ℕ → Moved
  ys = reuse_run q choose job words free

  by_steps : (l : ℕ) → (ys (suc l)).state ≡ (step q (lawful choose) (ys l).state).state
  by_steps = (runs_go p q marks 0 0 words job choose free).second_goes

  comes : (l : ℕ) → ComesToKept p q facts plans marks (lawful choose) (ys l).state
  comes =
      run_comes p q facts plans marks from choose ys by_steps goes ready makes
      (opens p q facts plans marks from typed ready makes main choose job given words within free)
