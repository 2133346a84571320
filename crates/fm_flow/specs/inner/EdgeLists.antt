-- How lists lie in one vector.
use Rattle.std.specs.Prelude.{◌≡◌, ℕ, ◌+◌, ◌-◌, ◌<◌, ◌≤◌, List, length, map, slice_index}
use Rattle.std.specs.List.{range_with_len, slice_range}

-- the list that starts at the j-th start, and ends where the next one starts
abbrev pub list_at : List ℕ → List ℕ → ℕ → List ℕ
list_at items starts j = slice_range items (slice_index starts j) (slice_index starts (j + 1))

-- as many lists as there are starts, but for the last start, which is the end
unfoldable pub lists_of : List ℕ → List ℕ → List (List ℕ)
lists_of items starts = map (list_at items starts) (range_with_len 0 (length starts - 1))

-- no list starts after the next one, and the last start is the end of the last list
pub record AreStarts (items starts : List ℕ) : Type 0 where
  pub not_empty : 0 < length starts
  pub rising : (j : ℕ) → j + 1 < length starts → slice_index starts j ≤ slice_index starts (j + 1)
  pub within : (j : ℕ) → slice_index starts j ≤ length items
  pub last : slice_index starts (length starts - 1) ≡ length items
