-- Runs that keep pace do alike.
use Rattle.std.proofs.Common.{◌≡◌, ℕ, Some}
use Rattle.fm_cells.specs.Choices.{lawful, never_choice}
use Rattle.fm_frames.specs.Acts.{Choose}
use Rattle.fm_law_headline.specs.InStep.{AreInStep, DoAlike, RunsInStepDoAlike}
use Rattle.fm_law_same_runs.proofs.Openings.{runs_go}
use Rattle.fm_law_same_runs.proofs.Paces.{go_together, matches_keep_pace, no_fault}
use Rattle.fm_law_same_runs.specs.Beside.{AreMatched, Beside, GoTogether, HasWords, InAllRuns, IsWithoutFault, Marks, runs_of}
use Rattle.fm_law_same_runs.specs.Laws.{GoBySteps}
use Rattle.fm_law_same_runs.specs.Programs.{WordsAreBalanced}
use Rattle.fm_world.specs.Programs.{Program}

-- ---- two runs

module _ (b : Beside) (first second : Choose) (by_steps : GoBySteps b first second) (has_words : HasWords b) (IsPace : ℕ → ℕ → Type 0) (step : AreInStep b IsPace) where
  pub step_together : GoTogether b
  step_together = go_together b first second by_steps has_words IsPace step.paces step.few_inserted

  pub step_faultless : IsWithoutFault b
  step_faultless = no_fault b first second by_steps has_words IsPace step.paces

  -- what holds of all that keep pace holds of matched states
  pub step_matched : (Holds : ℕ → ℕ → Type 0) → ((k l : ℕ) → IsPace k l → Holds k l) → (k l : ℕ) → AreMatched b k l → Holds k l
  step_matched Holds each k l matched = each k l (matches_keep_pace b first second by_steps has_words IsPace step.paces k l matched)

  pub step_balanced : (k l : ℕ) → AreMatched b k l → WordsAreBalanced b k l
  step_balanced = step_matched (WordsAreBalanced b) step.balanced

-- ---- all runs of two programs

module _ (one other : Program) (marks : Marks) (IsPace : Beside → ℕ → ℕ → Type 0) (step : InAllRuns one other marks (λ b. AreInStep b (IsPace b))) where
  pub do_alike : DoAlike one other marks
  do_alike = record {
    same = λ job fits steps words other_words few other_few choose free has_words.
        let b = runs_of one other marks steps words other_words job choose free in
        step_together b (lawful never_choice) (lawful choose) (runs_go one other marks steps words other_words job choose free) has_words (IsPace b)
        (step job fits steps words other_words few other_few choose free has_words);
    faultless = λ job fits steps words other_words few other_few choose free has_words.
        let b = runs_of one other marks steps words other_words job choose free in
        step_faultless b (lawful never_choice) (lawful choose) (runs_go one other marks steps words other_words job choose free) has_words (IsPace b)
        (step job fits steps words other_words few other_few choose free has_words);
    balanced = λ job fits steps words other_words few other_few choose free has_words.
        let b = runs_of one other marks steps words other_words job choose free in
        step_balanced b (lawful never_choice) (lawful choose) (runs_go one other marks steps words other_words job choose free) has_words (IsPace b)
        (step job fits steps words other_words few other_few choose free has_words);
  }

pub in_step : RunsInStepDoAlike
in_step one other marks places step = do_alike one other marks (λ b k l. places b k ≡ Some l) step
