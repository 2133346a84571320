-- What follows of runs that keep pace: they do the same, words are balanced, and the second one has no fault.
use Rattle.std.specs.Prelude.{◌≡◌, ℕ, Option, Some}
use Rattle.fm_world.specs.Programs.{Program}
use Rattle.fm_law_same_runs.specs.Beside.{AreMatched, Beside, FewAreInserted, InAllRuns, IsWithoutFault, Marks, Same}
use Rattle.fm_law_same_runs.specs.Paces.{KeepPaces}
use Rattle.fm_law_same_runs.specs.Programs.{WordsAreBalanced}

-- the runs keep pace by a relation on the numbers of states, by which words are balanced, and few inserted steps follow one another
pub record AreInStep (b : Beside) (IsPace : ℕ → ℕ → Type 0) : Type 0 where
  pub paces : KeepPaces b IsPace
  pub few_inserted : FewAreInserted b
  pub balanced : (k l : ℕ) → IsPace k l → WordsAreBalanced b k l

-- what two programs then do beside one another
pub record DoAlike (one other : Program) (marks : Marks) : Type 0 where
  pub same : Same one other marks
  pub faultless : InAllRuns one other marks IsWithoutFault
  pub balanced : InAllRuns one other marks (λ b. (k l : ℕ) → AreMatched b k l → WordsAreBalanced b k l)

-- all runs of two programs that are in step, each by a table of the states that keep pace, do alike
abbrev pub RunsInStepDoAlike : Type 0
RunsInStepDoAlike =
    (one other : Program) (marks : Marks) (places : Beside → ℕ → Option ℕ)
    → InAllRuns one other marks (λ b. AreInStep b (λ k l. places b k ≡ Some l)) → DoAlike one other marks
