-- The numbers of a method's nodes: its locals first, then Global and the result, then the words of the stack, item by item and from the bottom up.
use Rattle.std.specs.Prelude.{◌≡◌, ◌+◌, ◌*◌, ◌<◌, ◌^◌, ℕ, zero, suc, Bool, List, [], ◌∷◌, length, map, reverse, Option, Some, None, nat_lt, if◌then◌else◌}
use Rattle.std.specs.List.{range_with_len, slice_index_or}
use Rattle.fm_base.specs.Rows.{has}
use Rattle.fm_types.specs.States.{is_reference, TypeState}
use Rattle.fm_conn.specs.Nodes.{Global, Local, Node, Return, Slot, TypedMethod}

-- how many locals there are, and for each item which words of its stack are nodes, from the bottom up
pub record NodeTable : Type 0 where
  pub locals : ℕ
  pub words : List (List Bool)

-- a table of this many locals and of the words of each item's stack
abbrev pub table_in : ℕ → List (List Bool) → NodeTable
table_in locals words = record { locals = locals; words = words }

-- ---- of a method

-- which words of a state's stack are references, the lowest first; of an item that isn't reached there are none
abbrev pub words_of_state : Option TypeState → List Bool
words_of_state None = []
words_of_state (Some s) = map is_reference (reverse s.stack)

-- the table of the states of a method
abbrev pub table_with : ℕ → List (Option TypeState) → NodeTable
table_with locals states = table_in locals (map words_of_state states)

-- the table of a typed method
abbrev pub table_of : TypedMethod → NodeTable
table_of x = table_with x.code.max_locals x.states

-- ---- numbers

-- which words of an item's stack are references
abbrev pub words_at : NodeTable → ℕ → List Bool
words_at t j = slice_index_or t.words j []

-- how many words the items before this one have
unfoldable pub words_before : List (List Bool) → ℕ → ℕ
words_before words zero = 0
words_before [] (suc j) = 0
words_before (w ∷ words) (suc j) = length w + words_before words j

-- the number of the first word of an item
abbrev pub first_word : NodeTable → ℕ → ℕ
first_word t j = t.locals + 2 + words_before t.words j

-- how many numbers the nodes of a method have
abbrev pub node_count : NodeTable → ℕ
node_count t = first_word t (length t.words)

-- the number of Global
abbrev pub global_number : NodeTable → ℕ
global_number t = t.locals

-- the number of Return
abbrev pub return_number : NodeTable → ℕ
return_number t = t.locals + 1

-- the number of a local, and of a word that is a node
abbrev pub local_number : NodeTable → ℕ → Option ℕ
local_number t k = if nat_lt k t.locals then Some k else None

-- the number of a slot that is a reference
abbrev pub slot_number : NodeTable → ℕ → ℕ → Option ℕ
slot_number t j depth = if has (words_at t j) depth then Some (first_word t j + depth) else None

-- a number for each other node, past those of the nodes that are there
abbrev pub far_local : NodeTable → ℕ → ℕ
far_local t k = node_count t + 2 * k

-- a number for a slot that no item has, apart from all others
abbrev pub far_slot : NodeTable → ℕ → ℕ → ℕ
far_slot t j depth = node_count t + (2 * ((j + depth) * (j + depth) + depth) + 1)

-- the number of a node; different nodes have different numbers
abbrev pub number_of : NodeTable → Node → ℕ
number_of t (Local k) = if nat_lt k t.locals then k else far_local t k
number_of t (Slot j depth) = if nat_lt depth (length (words_at t j)) then first_word t j + depth else far_slot t j depth
number_of t Return = return_number t
number_of t Global = global_number t

-- the class of a node, where these are the least numbers of joined nodes
abbrev pub class_at : List ℕ → ℕ → ℕ
class_at least number = slice_index_or least number number

unfoldable pub class_in : NodeTable → List ℕ → Node → ℕ
class_in t least node = class_at least (number_of t node)

-- ---- in memory

-- the numbers of the items' first words, and at the end the number of all nodes; each fits 32 bits
pub record AreStarts (t : NodeTable) (starts : List ℕ) : Type 0 where
  pub places : starts ≡ map (first_word t) (range_with_len 0 (length t.words + 1))
  pub few : node_count t < 2 ^ 32
