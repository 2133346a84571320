-- Tables of a code: the edges of each item, and which items are reachable.
use Rattle.std.specs.Prelude.{◌≡◌, ℕ, ◌<◌, ◌^◌, ◌↔◌, Bool, true, List, [], ◌++◌, length, Contains}
use Rattle.std.specs.List.{slice_index_or}
use Rattle.fm_base.specs.Rows.{has}
use Rattle.fm_code.specs.Edges.{IsEdge, IsReachable}
use Rattle.fm_code.specs.declared.code_array.Code.{Code}
use Rattle.fm_flow.specs.declared.edge_tables.EdgeTables.{EdgeTables}

-- the ends of the edges from an item: those of its instruction, and then the handlers of its run
abbrev pub ends_of : EdgeTables → ℕ → List ℕ
ends_of edges j = slice_index_or edges.own j [] ++ slice_index_or edges.caught (slice_index_or edges.runs.items j 0) []

-- each item has a run, and all ends are items
pub record AreWithin (edges : EdgeTables) : Type 0 where
  pub one_each : length edges.runs.items ≡ length edges.own
  pub few : length edges.caught < 2 ^ 32
  pub each_run : (j : ℕ) → j < length edges.own → slice_index_or edges.runs.items j 0 < length edges.caught
  pub ends : (j x : ℕ) → j < length edges.own → Contains (ends_of edges j) x → x < length edges.own

-- the tables have the edges of each item of the code
pub record AreEdgesOf (code : Code) (edges : EdgeTables) : Type 0 where
  pub one_each : length edges.own ≡ length code.items
  pub within : AreWithin edges
  pub each : (j x : ℕ) → j < length code.items → Contains (ends_of edges j) x ↔ IsEdge code j x

-- the set bits of the row are the items of the code that are reachable
pub record AreReachableOf (code : Code) (reached : List Bool) : Type 0 where
  pub one_each : length reached ≡ length code.items
  pub each : (j : ℕ) → (has reached j ≡ true) ↔ (IsReachable code j)
