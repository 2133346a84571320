-- Bounds on the bytes that rooms take, which widening doesn't change.
use Rattle.std.specs.Prelude.{ℕ, ◌+◌, ◌≤◌, List, [], ◌∷◌, length, Option, slice_index}
use Rattle.std.specs.List.{AllByRecursion}
use Rattle.std.specs.Option.{ForSome}
use Rattle.fm_code.specs.declared.code_array.TheConstants.{MAX_CODE_BYTES}
use Rattle.fm_code.specs.declared.code_array.Item.{Item}
use Rattle.fm_layout.specs.declared.rooms.Room.{Room}
use Rattle.fm_layout.specs.declared.rooms.Room.TheVariants as room

-- the old items have no more bytes each than a code array has
abbrev pub IsShort : Item → Type 0
IsShort item = length item.bytes ≤ MAX_CODE_BYTES

abbrev pub AreShort : List Item → Type 0
AreShort old = AllByRecursion IsShort old

abbrev pub IsShortIfSome : Option Item → Type 0
IsShortIfSome kept = ForSome kept IsShort

-- the most bytes that a room takes at any offset, widened too
abbrev pub weight : Room → ℕ
weight (room.Plain size) = size
weight (room.Switch size) = size + 4
weight (room.Narrow branch) = 8
weight (room.Wide branch) = 8

abbrev pub weight_of : List Room → ℕ
weight_of [] = 0
weight_of (r ∷ rooms) = weight r + weight_of rooms

-- each number of a list is at most the greatest offset
abbrev pub AreOffsetsWithin : List ℕ → Type 0
AreOffsetsWithin starts = (k : ℕ) → slice_index starts k ≤ MAX_CODE_BYTES
