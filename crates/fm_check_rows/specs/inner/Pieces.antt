-- The pieces of a stack: a slot alone, or the two of a long.
use Rattle.std.specs.Prelude.{◌≡◌, ℕ, ◌+◌, ◌<◌, ◌≤◌, false, List, length, drop, Option, Some, None}
use Rattle.fm_types.specs.States.{is_whole}
use Rattle.fm_types.specs.declared.slots.Slot.{Slot}
use Rattle.fm_types.specs.declared.slots.Slot.TheVariants as slot

-- how many slots of a stack that begins with these two are whole; 0 where none are
abbrev pub piece_of : Option Slot → Option Slot → ℕ
piece_of None second = 0
piece_of (Some slot.Long) second = 0
piece_of (Some slot.Top) None = 0
piece_of (Some slot.Top) (Some slot.Long) = 2
piece_of (Some slot.Top) (Some other) = 0
piece_of (Some first) second = 1

-- `size` slots are whole from a depth on
pub record IsPieceAt (stack : List Slot) (depth size : ℕ) : Type 0 where
  pub none : size ≡ 0 → is_whole (drop depth stack) ≡ false
  pub some : 0 < size → is_whole (drop depth stack) ≡ is_whole (drop (depth + size) stack)
  pub within : depth + size ≤ length stack
