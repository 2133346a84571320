-- When a status comes.
use Rattle.std.specs.Prelude.{◌≡◌, ℕ, List, ◌∷◌, Contains}

-- the status comes only with what it says, and where its cause holds, no status comes but this one and those that may come instead
pub record ComesExactly (status : ℕ) (instead : List ℕ) (result : ℕ) (said cause : Type 0) : Type 0 where
  pub only : result ≡ status → said
  pub there : cause → Contains (status ∷ instead) result
