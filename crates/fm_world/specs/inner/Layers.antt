-- Tables that share what they have in common, by their nodes: an entry is one more than its value, and 0 is none.
use Rattle.std.specs.Prelude.{◌≡◌, ℕ, zero, suc, ◌^◌, ◌<◌, Option, Some, None}
use Rattle.fm_world.specs.inner.Nodes.{entry_of, IsNode, Grows}
use Rattle.fm_world.specs.declared.layers.Layers.{Layers}

-- the value that an entry holds; 0 is none
abbrev pub value_of_entry : ℕ → Option ℕ
value_of_entry zero = None
value_of_entry (suc value) = Some value

-- what a table has at a key
abbrev pub value_at : Layers → ℕ → ℕ → Option ℕ
value_at x table key = value_of_entry (entry_of x.nodes.items x.levels table key)

-- the number is that of a table
abbrev pub IsTable : Layers → ℕ → Type 0
IsTable x table = IsNode x.nodes.items x.levels table

-- the tables have room for the key
abbrev pub HasRoom : Layers → ℕ → Type 0
HasRoom x key = key < 8 ^ x.levels

-- the new tables have those from before
pub record KeepsTables (old new : Layers) : Type 0 where
  pub nodes : Grows old.nodes.items new.nodes.items
  pub levels : new.levels ≡ old.levels

-- the table has the value at the key, and else what the other one had
pub record PutsValue (old new : Layers) (table key value fresh : ℕ) : Type 0 where
  pub is_table : IsTable new fresh
  pub has : value_at new fresh key ≡ Some value
  pub others : (k : ℕ) → HasRoom old k → (k ≡ key → ⊥) → value_at new fresh k ≡ value_at old table k
