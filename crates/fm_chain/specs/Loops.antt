-- Which items of a code lie in a loop: what such an item gives may displace what it gave before.
use Rattle.std.specs.Prelude.{◌≡◌, ℕ, zero, suc, ◌==◌, ◌||◌, ◌↔◌, Bool, true, List, length}
use Rattle.std.specs.List.{list_any}
use Rattle.fm_code.specs.Edges.{edges_listed, IsEdge, IsFlowPath}
use Rattle.fm_code.specs.declared.code_array.Code.{Code}

-- an edge, maybe to a handler, leads from one item to another, and from there a path to the last one (JVMS 2.10, 4.10)
pub record IsAhead (code : Code) (j last : ℕ) : Type 0 where
  pub next : ℕ
  pub edge : IsEdge code j next
  pub path : List ℕ
  pub leads : IsFlowPath code next path last

-- the item lies in a loop: a path of at least one edge leads from it back to it
abbrev pub IsLooped : Code → ℕ → Type 0
IsLooped code j = IsAhead code j j

-- whether at most this many steps lead from one number to another, each to one of those that are next
abbrev pub leads_within : (next_of : ℕ → List ℕ) → (steps j last : ℕ) → Bool
leads_within next_of zero j last = j == last
leads_within next_of (suc steps) j last = j == last || list_any (λ next. leads_within next_of steps next last) (next_of j)

-- whether the item lies in a loop, by paths that are no longer than the code: what goes past no item twice has fewer edges than there are items
abbrev pub is_looped : Code → ℕ → Bool
is_looped code j = list_any (λ next. leads_within (edges_listed code) (length code.items) next j) (edges_listed code j)

-- the test is the definition by paths of any length
abbrev pub LoopsAreByPaths : Type 0
LoopsAreByPaths = (code : Code) (j : ℕ) → (is_looped code j ≡ true) ↔ IsLooped code j
