-- The forest of the nodes of a graph: each node leads to one that isn't greater.
use Rattle.std.specs.Prelude.{◌≡◌, ℕ, ◌≤◌, ◌<◌, List, length, slice_index}
use Rattle.fm_base.specs.Graph.{AreJoined}

-- each of the nodes below n leads to itself
pub record LeadToThemselves (n : ℕ) (above : List ℕ) : Type 0 where
  pub nodes : length above ≡ n
  pub each : (a : ℕ) → a < n → slice_index above a ≡ a

-- each node leads to one that isn't greater
abbrev pub Falls : List ℕ → Type 0
Falls above = (a : ℕ) → a < length above → slice_index above a ≤ a

-- the number of each node is that of the one to which it leads
abbrev pub IsSameAlong : List ℕ → (ℕ → ℕ) → Type 0
IsSameAlong above number = (a : ℕ) → a < length above → number (slice_index above a) ≡ number a

-- each node is joined with the one to which it leads
abbrev pub AreStepsIn : List (ℕ × ℕ) → List ℕ → Type 0
AreStepsIn pairs above = (a : ℕ) → a < length above → AreJoined pairs a (slice_index above a)

-- nodes lead further than before, along the same ways: those that led to themselves still do
pub record Shortens (old new : List ℕ) : Type 0 where
  pub nodes : length new ≡ length old
  pub falls : Falls new
  pub roots : (a : ℕ) → slice_index old a ≡ a → slice_index new a ≡ a
  pub steps : (pairs : List (ℕ × ℕ)) → AreStepsIn pairs old → AreStepsIn pairs new
  pub same : (number : ℕ → ℕ) → IsSameAlong new number → IsSameAlong old number

-- the node leads to the root at last, which leads to itself
pub record LeadsTo (old new : List ℕ) (node root : ℕ) : Type 0 where
  pub below : root ≤ node
  pub is_root : slice_index new root ≡ root
  pub joined : (pairs : List (ℕ × ℕ)) → AreStepsIn pairs old → AreJoined pairs node root
  pub same : (number : ℕ → ℕ) → IsSameAlong new number → number node ≡ number root

-- the two nodes lead to one at last, and others as before
pub record Joins (a b : ℕ) (old new : List ℕ) : Type 0 where
  pub nodes : length new ≡ length old
  pub falls : Falls new
  pub steps : (pairs : List (ℕ × ℕ)) → AreStepsIn pairs old → AreJoined pairs a b → AreStepsIn pairs new
  pub same : (number : ℕ → ℕ) → IsSameAlong new number → IsSameAlong old number × (number a ≡ number b)

-- what a node leads to leads to itself
abbrev pub IsSettled : List ℕ → Type 0
IsSettled above = (a : ℕ) → a < length above → slice_index above (slice_index above a) ≡ slice_index above a
