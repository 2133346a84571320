-- Nodes that pairs join. A pair joins its two nodes in both directions.
use Rattle.std.specs.Prelude.{◌≡◌, ℕ, ◌≤◌, ◌<◌, ◌⊎◌, List, [], ◌∷◌, length, All, Contains, slice_index}

-- each pair names two of the nodes below n
abbrev pub AreNodes : ℕ → List (ℕ × ℕ) → Type 0
AreNodes n pairs = All (λ pair. (pair.0 < n) × (pair.1 < n)) pairs

-- some pair names the two nodes, in one order or the other
abbrev pub ArePaired : List (ℕ × ℕ) → ℕ → ℕ → Type 0
ArePaired pairs a b = Contains pairs (a, b) ⊎ Contains pairs (b, a)

-- the nodes lead from one end to the other, each paired with the next
abbrev pub IsPath : List (ℕ × ℕ) → ℕ → List ℕ → ℕ → Type 0
IsPath pairs a [] b = a ≡ b
IsPath pairs a (next ∷ rest) b = ArePaired pairs a next × IsPath pairs next rest b

-- a path of pairs leads from the one node to the other; the empty path from each node to itself
abbrev pub AreJoined : List (ℕ × ℕ) → ℕ → ℕ → Type 0
AreJoined pairs a b = (path : List ℕ) × IsPath pairs a path b

-- the least of all nodes that are joined with a
pub record IsLeastJoined (pairs : List (ℕ × ℕ)) (a least : ℕ) : Type 0 where
  pub joined : AreJoined pairs a least
  pub no_less : (b : ℕ) → AreJoined pairs a b → least ≤ b

-- for each of the n nodes the least node that is joined with it
pub record AreLeastJoined (pairs : List (ℕ × ℕ)) (n : ℕ) (least : List ℕ) : Type 0 where
  pub one_each : length least ≡ n
  pub each : (a : ℕ) → a < n → IsLeastJoined pairs a (slice_index least a)
