-- What the parts of reading a request say.
use Rattle.std.specs.Prelude.{ℕ, List, Option, codes}
use Rattle.clap.specs.Words.{Row, first_of}
use Rattle.fm_base.specs.declared.limits.TheConstants.{MAX_STEPS, DEFAULT_STEPS, MAX_LIVE_WORDS, DEFAULT_LIVE_WORDS, MAX_FRAMES, DEFAULT_FRAMES}
use Rattle.fm_cli_requests.specs.FmrunRequest.{IsBudget}
use Rattle.fm_cli_requests.specs.declared.fmrun_request.AskedBudgets.{AskedBudgets}

-- there is no budget
abbrev pub IsNoBudget : Option (List ℕ) → ℕ → ℕ → ℕ → Type 0
IsNoBudget text least most default = (n : ℕ) → ¬ IsBudget text least most default n

-- what was matched has these budgets
pub record HasBudgets (matches : List Row) (b : AskedBudgets) : Type 0 where
  pub steps : IsBudget (first_of (codes "steps") matches) 0 MAX_STEPS DEFAULT_STEPS b.steps
  pub words : IsBudget (first_of (codes "words") matches) 0 MAX_LIVE_WORDS DEFAULT_LIVE_WORDS b.words
  pub frames : IsBudget (first_of (codes "frames") matches) 1 MAX_FRAMES DEFAULT_FRAMES b.frames

-- or none
abbrev pub HasNoBudgets : List Row → Type 0
HasNoBudgets matches = (b : AskedBudgets) → ¬ HasBudgets matches b
