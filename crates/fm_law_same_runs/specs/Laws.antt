-- The laws that are proved of runs beside each other.
use Rattle.std.specs.Prelude.{◌≡◌, ℕ, suc, List, [], Option, Some}
use Rattle.fm_cells.specs.Choices.{lawful, never_choice}
use Rattle.fm_world.specs.Programs.{Program}
use Rattle.fm_frames.specs.Acts.{Choose}
use Rattle.fm_frames.specs.Runs.{Job}
use Rattle.fm_frames.specs.Steps.{step}
use Rattle.fm_law_same_runs.specs.Beside.{AreMatched, Beside, EndedBefore, FewAreInserted, GoTogether, HasWords, IsWithoutFault, Marks, runs_of, StandsFor}
use Rattle.fm_law_same_runs.specs.Paces.{KeepPaces}

-- each state of the first run is the step of the one before
abbrev pub FirstGoesOn : Beside → Choose → Type 0
FirstGoesOn b choose = (k : ℕ) → (b.xs (suc k)).state ≡ (step b.one choose (b.xs k).state).state

-- each state of the second run is the step of the one before
abbrev pub SecondGoesOn : Beside → Choose → Type 0
SecondGoesOn b choose = (l : ℕ) → (b.ys (suc l)).state ≡ (step b.other choose (b.ys l).state).state

-- two states that match one state are one
abbrev pub MatchesAreOne : Type 0
MatchesAreOne = (b : Beside) (choose : Choose) → SecondGoesOn b choose → (k l m : ℕ) → StandsFor b k l → StandsFor b k m → l ≡ m

-- where the second run ended before it got so far, no state of it matches
abbrev pub EndedHasNoMatch : Type 0
EndedHasNoMatch = (b : Beside) (choose : Choose) → SecondGoesOn b choose → (k l : ℕ) → EndedBefore b k → ¬ StandsFor b k l

-- ---- runs that go by steps

-- both runs go on by steps, and nothing is counted or printed at first
pub record GoBySteps (b : Beside) (first second : Choose) : Type 0 where
  pub first_goes : FirstGoesOn b first
  pub second_goes : SecondGoesOn b second
  pub first_steps : (b.xs 0).state.steps ≡ 0
  pub second_steps : (b.ys 0).state.steps ≡ 0
  pub first_printed : (b.xs 0).printed ≡ []
  pub second_printed : (b.ys 0).printed ≡ []

-- so do the runs of one job
abbrev pub RunsGoBySteps : Type 0
RunsGoBySteps =
    (one other : Program) (marks : Marks) (steps words other_words : ℕ) (job : Job) (choose : Choose) (free : List (List ℕ))
    → GoBySteps (runs_of one other marks steps words other_words job choose free) (lawful never_choice) (lawful choose)

-- ---- runs that keep pace

-- Both go by steps, the first one has words enough, and they keep pace: with the k-th state of the first run, that of the second one whose number a table has.
pub record ArePaced (b : Beside) : Type 0 where
  pub first : Choose
  pub second : Choose
  pub by_steps : GoBySteps b first second
  pub has_words : HasWords b
  pub places : ℕ → Option ℕ
  pub paces : KeepPaces b (λ k l. places k ≡ Some l)

-- runs that keep pace go together, where few inserted steps follow one another
abbrev pub PacedRunsGoTogether : Type 0
PacedRunsGoTogether = (b : Beside) → ArePaced b → FewAreInserted b → GoTogether b

-- only states that keep pace are matched
abbrev pub MatchesKeepPace : Type 0
MatchesKeepPace = (b : Beside) (paced : ArePaced b) (k l : ℕ) → AreMatched b k l → paced.places k ≡ Some l

-- of runs that keep pace the second one has no fault before it does more kept steps than the first one
abbrev pub PacedRunsHaveNoFault : Type 0
PacedRunsHaveNoFault = (b : Beside) → ArePaced b → IsWithoutFault b
