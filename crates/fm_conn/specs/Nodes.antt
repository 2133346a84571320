-- The nodes of a method: the places at which it has objects.
use Rattle.std.specs.Prelude.{◌≡◌, ℕ, true, List, length, reverse, Option, Some, None, option_and_then, IsSomeAnd, slice_get}
use Rattle.fm_code.specs.declared.code_array.Code.{Code}
use Rattle.fm_types.specs.States.{is_reference, TypeState}
use Rattle.fm_types.specs.Typed.{state_at}
use Rattle.fm_types.specs.declared.slots.Slot as slots
use Rattle.fm_world.specs.Programs.{Program}

-- a local; a word of the stack at an item, by how many words lie below it; the result; and all that static fields and thrown objects lead to
pub data Node : Type 0 where
  Local : ℕ → Node
  Slot : (item depth : ℕ) → Node
  Return : Node
  Global : Node

-- a method by its number in a program, its code, and a state for each of its items
pub record TypedMethod : Type 0 where
  pub program : Program
  pub number : ℕ
  pub code : Code
  pub states : List (Option TypeState)

-- how many words the stack has at an item
abbrev pub depth_at : TypedMethod → ℕ → ℕ
depth_at x j = of_state (state_at x.states j) where
  of_state : Option TypeState → ℕ
  of_state None = 0
  of_state (Some s) = length s.stack

-- the word of the stack at an item, by how many lie below it
abbrev pub word_at : TypedMethod → ℕ → ℕ → Option slots.Slot
word_at x j depth = option_and_then (λ (s : TypeState). slice_get (reverse s.stack) depth) (state_at x.states j)

-- the words that hold a reference, null, or an object that isn't initialised are nodes; and so is all else that a node can be
abbrev pub IsNode : TypedMethod → Node → Type 0
IsNode x (Local k) = Unit {0}
IsNode x (Slot j depth) = IsSomeAnd (word_at x j depth) (λ s. is_reference s ≡ true)
IsNode x Return = Unit {0}
IsNode x Global = Unit {0}
