-- Runs of items that have the same handlers, as the tables of edges are made.
use Rattle.std.specs.Prelude.{◌≡◌, ℕ, ◌+◌, ◌-◌, ◌<◌, ◌≤◌, ◌↔◌, List, [], length, Contains}
use Rattle.std.specs.List.{Any, slice_index_or}
use Rattle.fm_code.specs.Edges.{Catches}
use Rattle.fm_code.specs.declared.code_array.Code.{Code}

-- the last list has the handlers of item j
pub record HasHandlers (code : Code) (j : ℕ) (caught : List (List ℕ)) : Type 0 where
  pub some : 0 < length caught
  pub each : (x : ℕ) → Contains (slice_index_or caught (length caught - 1) []) x ↔ Any (Catches j x) code.handlers

-- the last list has the handlers of item j; the lists that were there are as before
pub record OpensRun (code : Code) (j : ℕ) (old new : List (List ℕ)) : Type 0 where
  pub last : HasHandlers code j new
  pub kept : (r : ℕ) → r < length old → slice_index_or new r [] ≡ slice_index_or old r []
  pub grown : length old ≤ length new
  pub few : length new ≤ length old + 1
