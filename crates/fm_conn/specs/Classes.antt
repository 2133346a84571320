-- The classes of a method: a number for each node.
use Rattle.std.specs.Prelude.{◌≡◌, ◌↔◌, ℕ, Bool, true}
use Rattle.fm_base.specs.Rows.{has}
use Rattle.fm_conn.specs.Nodes.{IsNode, Node, Slot, TypedMethod}
use Rattle.fm_conn.specs.Pairs.{Joined, Linking}
use Rattle.fm_conn.specs.declared.class_numbers.Classes.{Classes}
use Rattle.fm_conn.specs.inner.NodeTables.{class_in, words_at}

-- the number of locals
abbrev pub local_count : Classes → ℕ
local_count c = c.nodes.locals

-- whether the stack of an item has a reference at this place
abbrev pub has_class : Classes → ℕ → ℕ → Bool
has_class c j depth = has (words_at c.nodes j) depth

-- the number of a node's class: each node that isn't there has one of its own
abbrev pub class_of : Classes → Node → ℕ
class_of c node = class_in c.nodes c.least.items node

-- the numbers are those of the joined nodes
pub record AreClassesOf (linked : Linking) (x : TypedMethod) (c : Classes) : Type 0 where
  pub locals : local_count c ≡ x.code.max_locals
  pub slots : (j depth : ℕ) → (has_class c j depth ≡ true) ↔ IsNode x (Slot j depth)
  pub same : (a b : Node) → (class_of c a ≡ class_of c b) ↔ Joined linked x a b
