-- What a flow holds of a code: its edges, and which of its items are reachable.
use Rattle.std.specs.Prelude.{ℕ, Bool, List, length}
use Rattle.fm_base.specs.Rows.{has}
use Rattle.fm_code.specs.Edges.{MeetsCodeRules}
use Rattle.fm_code.specs.declared.code_array.Code.{Code}
use Rattle.fm_flow.specs.Tables.{AreEdgesOf, AreReachableOf, AreWithin, ends_of}
use Rattle.fm_flow.specs.declared.flow.Flow.{Flow}
use Rattle.fm_flow.specs.Marking.{Covers}

-- the number of items of a flow
abbrev pub item_count : Flow → ℕ
item_count flow = length flow.edges.own

-- the ends of the edges from an item
abbrev pub edges_at : Flow → ℕ → List ℕ
edges_at flow j = ends_of flow.edges j

-- whether an item is reachable
abbrev pub is_reachable : Flow → ℕ → Bool
is_reachable flow j = has flow.reached j

-- the flow is that of the code, which is in a class file
pub record IsFlowOf (code : Code) (flow : Flow) : Type 0 where
  pub spelled : MeetsCodeRules code
  pub edges : AreEdgesOf code flow.edges
  pub reachable : AreReachableOf code flow.reached

-- ---- walks along the edges

-- all ends of edges are items
abbrev pub AreEndsWithin : Flow → Type 0
AreEndsWithin flow = AreWithin flow.edges

-- what a walk need not go over again is marked in the row
abbrev pub IsMarkedBy : Flow → List Bool → List Bool → Type 0
IsMarkedBy flow done row = Covers flow.edges.caught done row
