-- The states of the walks over items.
use Rattle.std.specs.Prelude.{◌≡◌, ℕ, ◌+◌, ◌≤◌, ◌⊎◌, ◌↔◌, Bool, true, List, length, Contains, slice_set}
use Rattle.std.specs.List.{AllByRecursion, Any}
use Rattle.std.specs.List.Sorted.{IsStrictlyIncreasing}
use Rattle.fm_base.specs.Rows.{has}
use Rattle.fm_code.specs.Edges.{Catches, IsEdge, IsReachable}
use Rattle.fm_code.specs.declared.code_array.Code.{Code}
use Rattle.fm_code.specs.declared.code_array.Handler.{Handler}
use Rattle.fm_flow.specs.Marking.{Marks}

-- ---- lists of numbers

-- the list has the numbers of which P holds and no others, each once, in rising order
pub record IsRisingListOf (P : ℕ → Type 0) (xs : List ℕ) : Type 0 where
  pub rising : IsStrictlyIncreasing xs
  pub members : (x : ℕ) → Contains xs x ↔ P x

-- ---- handlers

-- the list has the handlers of item j
abbrev pub AreHandlersAt : Code → ℕ → List ℕ → Type 0
AreHandlersAt code j list = IsRisingListOf (λ handler. Any (Catches j handler) code.handlers) list

-- a range begins and ends at items, or at the end of the code
pub record EndsWithin (count : ℕ) (h : Handler) : Type 0 where
  pub start : h.start ≤ count
  pub end : h.end ≤ count

-- the bits at which the handler's range begins and ends are set
pub record IsMarked (ends : List Bool) (h : Handler) : Type 0 where
  pub start : has ends h.start ≡ true
  pub end : has ends h.end ≡ true

-- each handler's range is marked; there is a bit for each item and for the end
pub record AreMarked (count : ℕ) (handlers : List Handler) (ends : List Bool) : Type 0 where
  pub bits : length ends ≡ count + 1
  pub each : AllByRecursion (IsMarked ends) handlers

-- ---- marks

-- the items of a run are marked, and it is done, beside the runs that were done before
pub record MarksRun (list : List ℕ) (run : ℕ) (old new : List Bool) (old_waiting waiting : List ℕ) (old_done done : List Bool) : Type 0 where
  pub marks : Marks list old new old_waiting waiting
  pub done_more : done ≡ slice_set old_done run true

-- ---- reachable items

-- a marked item is reachable; it waits, or the ends of its edges are marked
pub record Reaching (code : Code) (reached : List Bool) (waiting : List ℕ) : Type 0 where
  pub bits : length reached ≡ length code.items
  pub first : has reached 0 ≡ true
  pub sound : (j : ℕ) → has reached j ≡ true → IsReachable code j
  pub waiting_marked : (j : ℕ) → Contains waiting j → has reached j ≡ true
  pub closed : (j : ℕ) → has reached j ≡ true → Contains waiting j ⊎ ((next : ℕ) → IsEdge code j next → has reached next ≡ true)
