-- Which locals are live at each item of a code.
use Rattle.std.specs.Prelude.{◌≡◌, ℕ, ◌<◌, ◌↔◌, Bool, true, List, [], length}
use Rattle.std.specs.List.{slice_index_or}
use Rattle.fm_base.specs.Rows.{has}
use Rattle.fm_code.specs.Live.{Live}
use Rattle.fm_code.specs.declared.code_array.Code.{Code}
use Rattle.fm_flow.specs.declared.live_rows.LiveRows.{LiveRows}

-- the number of locals of the rows
abbrev pub local_count : LiveRows → ℕ
local_count live = length live.rows.items

-- the number of items of a local's row
abbrev pub item_count : LiveRows → ℕ → ℕ
item_count live k = length (slice_index_or live.rows.items k [])

-- whether the rows say that a local is live at an item
abbrev pub is_live : LiveRows → ℕ → ℕ → Bool
is_live live k j = has (slice_index_or live.rows.items k []) j

-- the rows have a bit for each item, one row for each local, set where the local is live
pub record AreLiveOf (code : Code) (rows : List (List Bool)) : Type 0 where
  pub one_each : length rows ≡ code.max_locals
  pub bits : (k : ℕ) → k < code.max_locals → length (slice_index_or rows k []) ≡ length code.items
  pub each : (k j : ℕ) → (has (slice_index_or rows k []) j ≡ true) ↔ (Live code k j)

-- the rows hold the live locals of the code
abbrev pub IsLiveRowsOf : Code → LiveRows → Type 0
IsLiveRowsOf code live = AreLiveOf code live.rows.items
