-- Attempts counted from 1, some of which are to fail.
use Rattle.std.specs.Prelude.{ℕ, ◌+◌, ◌-◌, ◌^◌, min, List, Contains}

-- how many attempts there were, and the numbers of those that are to fail
pub record Attempts : Type 0 where
  pub made : ℕ
  pub failing : List ℕ

-- no attempt yet
abbrev pub no_attempts : List ℕ → Attempts
no_attempts failing = record { made = 0; failing = failing }

-- the number of the next attempt. It stays at the greatest `u64`, which no list of `u32` has
abbrev pub next_attempt : Attempts → ℕ
next_attempt attempts = min (attempts.made + 1) (2 ^ 64 - 1)

-- the next attempt is among those that are to fail
abbrev pub IsToFail : Attempts → Type 0
IsToFail attempts = Contains attempts.failing (next_attempt attempts)

-- after one more attempt
abbrev pub after_attempt : Attempts → Attempts
after_attempt attempts = record attempts { made = next_attempt attempts }
