-- Where the edges to an item come from: lists of items by item, and runs of items that have the same handlers.
use Rattle.std.specs.Prelude.{◌≡◌, ℕ, ◌+◌, ◌-◌, ◌<◌, ◌≤◌, ◌↔◌, Bool, false, List, [], ◌∷◌, ◌++◌, length, Contains, slice_set}
use Rattle.std.specs.List.{flat_map, Any}
use Rattle.fm_base.specs.Rows.{has}
use Rattle.fm_code.specs.Edges.{Catches, IsNormalEdge}
use Rattle.fm_code.specs.declared.code_array.Code.{Code}
use Rattle.fm_flow.specs.declared.sources.Sources.{Sources}
use Rattle.fm_flow.specs.inner.LiveWalks.{AddsToEach, AreListsBy, list_of}
use Rattle.fm_flow.specs.inner.Walks.{AreHandlersAt}
use Rattle.fm_flow.specs.Marking.{Covers, Marks}

-- item j has the handler
abbrev pub HasHandler : Code → ℕ → ℕ → Type 0
HasHandler code j handler = Any (Catches j handler) code.handlers

-- a number more in the last list
abbrev pub with_last : List (List ℕ) → ℕ → List (List ℕ)
with_last lists j = slice_set lists (length lists - 1) (list_of lists (length lists - 1) ++ j ∷ [])

-- ---- runs

-- a run more: it has no items so far, and is among those of each handler of item j
pub record BeginsRun (code : Code) (j : ℕ) (old_by_handler old_items by_handler items : List (List ℕ)) : Type 0 where
  pub handlers : List ℕ
  pub are : AreHandlersAt code j handlers
  pub adds : AddsToEach handlers (length old_items) old_by_handler by_handler
  pub pushed : items ≡ old_items ++ [] ∷ []

-- the runs of the items below j: an item below j has the handlers whose run it is in, and no others
pub record HasRuns (code : Code) (by_handler items : List (List ℕ)) (j : ℕ) : Type 0 where
  pub one_each : length by_handler ≡ length code.items
  pub within : (handler run : ℕ) → Contains (list_of by_handler handler) run → run < length items
  pub below : (run x : ℕ) → Contains (list_of items run) x → x < j
  pub sound : (handler run x : ℕ) → Contains (list_of by_handler handler) run → Contains (list_of items run) x → HasHandler code x handler
  pub complete : (handler x : ℕ) → x < j → HasHandler code x handler →
      (run : ℕ) × Contains (list_of by_handler handler) run × Contains (list_of items run) x

-- the last run has the handlers of item j
pub record IsOpen (code : Code) (by_handler items : List (List ℕ)) (j : ℕ) : Type 0 where
  pub some : 0 < length items
  pub few : length items ≤ j + 1
  pub each : (handler : ℕ) → HasHandler code j handler ↔ Contains (list_of by_handler handler) (length items - 1)

-- item j may be put into the last run
pub record IsOpened (code : Code) (by_handler items : List (List ℕ)) (j : ℕ) : Type 0 where
  pub runs : HasRuns code by_handler items j
  pub ready : IsOpen code by_handler items j

-- the runs so far, and whether item j may be put into the last one
pub record Running (code : Code) (ends : List Bool) (by_handler items : List (List ℕ)) (j : ℕ) : Type 0 where
  pub runs : HasRuns code by_handler items j
  pub few : length items ≤ j
  pub ready : 0 < j → has ends j ≡ false → IsOpen code by_handler items j

-- the runs of all items
pub record AreRunsOf (code : Code) (by_handler items : List (List ℕ)) : Type 0 where
  pub runs : HasRuns code by_handler items (length code.items)
  pub few : length items ≤ length code.items

-- ---- sources

-- the sources of all edges
pub record AreSourcesOf (code : Code) (s : Sources) : Type 0 where
  pub own : AreListsBy (length code.items) (λ next j. IsNormalEdge code j next) s.own.items
  pub runs : AreRunsOf code s.runs.by_handler.items s.runs.items.items

-- the items of these runs
abbrev pub items_of : List (List ℕ) → List ℕ → List ℕ
items_of items runs = flat_map (list_of items) runs

-- the items from which an edge leads to item j
abbrev pub came_from : Sources → ℕ → List ℕ
came_from s j = list_of s.own.items j ++ items_of s.runs.items.items (list_of s.runs.by_handler.items j)

-- ---- the walk

-- the items of runs are marked, and what is done still covers
pub record MarksRuns (items : List (List ℕ)) (runs : List ℕ) (old new : List Bool) (old_waiting waiting : List ℕ) (done : List Bool) : Type 0 where
  pub marks : Marks (items_of items runs) old new old_waiting waiting
  pub covers : Covers items done new
