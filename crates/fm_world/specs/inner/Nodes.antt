-- Tables that share what they have in common: the entries of a table lie below its node in a tree of eight branches, by the digits of the key
-- from the lowest on. An entry is one more than its value, and 0 is none.
use Rattle.std.specs.Prelude.{◌≡◌, ℕ, zero, suc, ◌/◌, ◌%◌, ◌^◌, ◌<◌, List, [], ◌++◌, length, slice_index}
use Rattle.std.specs.List.{slice_index_or}

-- the node on a branch of another one; the empty one where there is none
abbrev pub child_of : List (List ℕ) → ℕ → ℕ → ℕ
child_of nodes node branch = slice_index (slice_index_or nodes node []) branch

-- the entry a given number of levels below a node
abbrev pub entry_of : List (List ℕ) → ℕ → ℕ → ℕ → ℕ
entry_of nodes zero node key = node
entry_of nodes (suc level) node key = entry_of nodes level (child_of nodes node (key % 8)) (key / 8)

-- all nodes a given number of levels below are there
abbrev pub IsNode : List (List ℕ) → ℕ → ℕ → Type 0
IsNode nodes zero node = Unit {0}
IsNode nodes (suc level) node = (node < length nodes) × ((branch : ℕ) → IsNode nodes level (child_of nodes node branch))

-- node 0 has nothing below it, and each node has eight branches
pub record AreNodes (nodes : List (List ℕ)) : Type 0 where
  pub some : 0 < length nodes
  pub empty : (branch : ℕ) → child_of nodes 0 branch ≡ 0
  pub branches : (node : ℕ) → node < length nodes → length (slice_index_or nodes node []) ≡ 8

-- the nodes are those from before and further ones
abbrev pub Grows : List (List ℕ) → List (List ℕ) → Type 0
Grows old new = (more : List (List ℕ)) × (new ≡ old ++ more)

-- a node like another one but for one entry
pub record Puts (old new : List (List ℕ)) (level node key entry fresh : ℕ) : Type 0 where
  pub is_node : IsNode new level fresh
  pub has : entry_of new level fresh key ≡ entry
  pub others : (k : ℕ) → k < 8 ^ level → (k ≡ key → ⊥) → entry_of new level fresh k ≡ entry_of old level node k
