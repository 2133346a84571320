-- The items that wait.
use Rattle.std.specs.Prelude.{◌≡◌, ℕ, ◌-◌, ◌%◌, Bool, true, false, List, Contains, slice_set}
use Rattle.std.specs.List.{slice_index_or}

-- the item of a key: what is left of its lower half up to the greatest number of that half
abbrev pub item_of : ℕ → ℕ
item_of key = 4294967295 - key % 4294967296

-- each item that waits has a key
abbrev pub HaveKeys : (marks : List Bool) → (keys : List ℕ) → Type 0
HaveKeys marks keys = (j : ℕ) → slice_index_or marks j false ≡ true → (key : ℕ) × Contains keys key × (item_of key ≡ j)

-- the item waited, and does no longer
pub record Leaves (item : ℕ) (old new : List Bool) : Type 0 where
  pub waited : slice_index_or old item false ≡ true
  pub marks : new ≡ slice_set old item false
