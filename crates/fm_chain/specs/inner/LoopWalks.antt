-- The state of the walk from the ends of an item's edges.
use Rattle.std.specs.Prelude.{◌≡◌, ℕ, ◌⊎◌, Bool, true, List, length, Contains}
use Rattle.fm_base.specs.Rows.{has}
use Rattle.fm_chain.specs.Loops.{IsAhead}
use Rattle.fm_code.specs.Edges.{IsEdge}
use Rattle.fm_code.specs.declared.code_array.Code.{Code}

-- the ends of the item's edges are marked; a marked item lies ahead of it; it waits, or the ends of its edges are marked
pub record Looping (code : Code) (item : ℕ) (reached : List Bool) (waiting : List ℕ) : Type 0 where
  pub bits : length reached ≡ length code.items
  pub first : (next : ℕ) → IsEdge code item next → has reached next ≡ true
  pub sound : (j : ℕ) → has reached j ≡ true → IsAhead code item j
  pub waiting_marked : (j : ℕ) → Contains waiting j → has reached j ≡ true
  pub closed : (j : ℕ) → has reached j ≡ true → Contains waiting j ⊎ ((next : ℕ) → IsEdge code j next → has reached next ≡ true)
