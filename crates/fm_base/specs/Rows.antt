-- A row of bits, seen as the list of its bits: a set of numbers below the row's length.
use Rattle.std.specs.Prelude.{◌≡◌, ℕ, Bool, true, false, List, [], ◌∷◌, length, slice_set, ◌||◌}
use Rattle.std.specs.List.{slice_index_or}

-- whether bit i is set; no bit past the end is
abbrev pub has : List Bool → ℕ → Bool
has row i = slice_index_or row i false

-- the row with the bits of the numbers set too; a number past the end sets none
abbrev pub marked : List Bool → List ℕ → List Bool
marked row [] = row
marked row (i ∷ numbers) = marked (slice_set row i true) numbers

-- the new row has the old one's length, and the bits of both rows
pub record IsUnion (old other new : List Bool) : Type 0 where
  pub same_length : length new ≡ length old
  pub members : (i : ℕ) → has new i ≡ (has old i || has other i)

-- some bit is set in the new row and not in the old one
abbrev pub AddsBit : List Bool → List Bool → Type 0
AddsBit old new = (i : ℕ) × ((has old i ≡ false) × (has new i ≡ true))
