-- What digits say where they write no number.
use Rattle.std.specs.Prelude.{ℕ, List}
use Rattle.fm_cli_requests.specs.Values.{IsNumber}

-- the digits write no number within these limits
abbrev pub IsNoNumber : ℕ → List ℕ → ℕ → ℕ → Type 0
IsNoNumber width digits least most = (n : ℕ) → ¬ IsNumber width digits least most n
