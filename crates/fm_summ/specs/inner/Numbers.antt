-- Numbers that pairs make one.
use Rattle.std.specs.Prelude.{◌≡◌, ◌==◌, ◌≤◌, ℕ, List, [], ◌∷◌, Contains, slice_index, if◌then◌else◌}
use Rattle.fm_base.specs.Graph.{AreJoined}

-- the two numbers of a pair become one, numbers that become one are joined by pairs, and none rises
pub record Merges (pairs : List (ℕ × ℕ)) (f : ℕ → ℕ) : Type 0 where
  pub same : (a b : ℕ) → Contains pairs (a, b) → f a ≡ f b
  pub only : (a b : ℕ) → f a ≡ f b → AreJoined pairs a b
  pub down : (n : ℕ) → f n ≤ n

-- what is at a number's place in the second list; the number itself, where the first one hasn't it
abbrev pub number_in : List ℕ → List ℕ → ℕ → ℕ
number_in [] values n = n
number_in (name ∷ names) [] n = n
number_in (name ∷ names) (value ∷ values) n = if name == n then value else number_in names values n

-- a pair of places as one of numbers
abbrev pub named : List ℕ → ℕ × ℕ → ℕ × ℕ
named names places = (slice_index names places.0, slice_index names places.1)
