-- The laid-out code.
use Rattle.std.specs.Prelude.{ℕ, ◌+◌, ◌<◌, ◌≡◌, Bool, true, false, List, [], ◌∷◌, ◌++◌, length, Option, Some, None, nat_lt, slice_index, if◌then◌else◌}
use Rattle.std.specs.List.{flat_map, AllByRecursion}
use Rattle.fm_code.specs.ClassBytes.{item_bytes}
use Rattle.fm_code.specs.Fits.{AreBytes}
use Rattle.fm_code.specs.SpellsCode.{SpellsCode, with_targets}
use Rattle.fm_code.specs.declared.code_array.TheConstants.{MAX_CODE_BYTES}
use Rattle.fm_code.specs.declared.code_array.Item.{Item}
use Rattle.fm_code.specs.declared.instructions.Insn.{Insn}
use Rattle.fm_code.specs.declared.instructions.Insn.TheVariants as insn
use Rattle.fm_code.specs.declared.opcodes.TheConstants as opcodes
use Rattle.fm_layout.specs.Spelling.{kept_item, distance, short_jump, long_jump, opcode_of_condition, conditional, opposite, moved_bytes}
use Rattle.fm_layout.specs.Rooms.{rooms_of, size_at, end_from, starts_from, widened_rooms}
use Rattle.fm_layout.specs.declared.error.LayFail.{LayFail}
use Rattle.fm_layout.specs.declared.error.LayFail.TheVariants as fail
use Rattle.fm_layout.specs.declared.laying.Laid.{Laid}
use Rattle.fm_layout.specs.declared.new_items.NewItem.{NewItem}
use Rattle.fm_layout.specs.declared.rooms.TheConstants.{SHORT_JUMP_BYTES, GOTO_W_BYTES}
use Rattle.fm_layout.specs.declared.rooms.Condition.{Condition}
use Rattle.fm_layout.specs.declared.rooms.Room.{Room}
use Rattle.fm_layout.specs.declared.rooms.Room.TheVariants as room

-- ---- numbers of laid items

-- a widened branch on a condition is two items, any other room is one
abbrev pub branch_count : Option Condition → ℕ
branch_count None = 1
branch_count (Some taken) = 2

-- how many laid items a new item becomes, by its room
abbrev pub item_count : Room → ℕ
item_count (room.Wide branch) = branch_count branch.condition
item_count r = 1

-- the number of the first laid item of each room, and at the end the number of all
abbrev pub firsts_from : ℕ → List Room → List ℕ
firsts_from first [] = first ∷ []
firsts_from first (r ∷ rooms) = first ∷ firsts_from (first + item_count r) rooms

-- ---- laid items

-- a branch to a laid item, spelled with its distance in two bytes
abbrev pub short_item : ℕ → Option Condition → ℕ → ℕ → Item
short_item start None to target = record { offset = start; bytes = short_jump opcodes.GOTO (distance start to); insn = insn.Goto target }
short_item start (Some taken) to target =
    record { offset = start; bytes = short_jump (opcode_of_condition taken) (distance start to); insn = conditional taken target }

-- a goto_w to a laid item
abbrev pub goto_w_item : ℕ → ℕ → ℕ → Item
goto_w_item start to target = record { offset = start; bytes = long_jump (distance start to); insn = insn.Goto target }

-- an item that is no branch of two bytes
abbrev pub moved_item : List ℕ → List ℕ → ℕ → Option Item → Insn → Item
moved_item starts firsts start kept i = record { offset = start; bytes = moved_bytes starts start kept i; insn = with_targets (slice_index firsts) i }

-- a widened branch: a goto_w, and before it the opposite of the condition, if there is one. That test skips the goto_w; where no item
-- follows it names the goto_w itself, since the end of the code is no item.
abbrev pub wide_items : ℕ → ℕ → Bool → Option Condition → ℕ → ℕ → List Item
wide_items start first follows None to target = goto_w_item start to target ∷ []
wide_items start first true (Some taken) to target =
    short_item start (Some (opposite taken)) (start + (SHORT_JUMP_BYTES + GOTO_W_BYTES)) (first + 2) ∷ goto_w_item (start + SHORT_JUMP_BYTES) to target ∷ []
wide_items start first false (Some taken) to target =
    short_item start (Some (opposite taken)) (start + SHORT_JUMP_BYTES) (first + 1) ∷ goto_w_item (start + SHORT_JUMP_BYTES) to target ∷ []

-- the laid items of one new item, at an offset and from a number on
abbrev pub laid_items : List ℕ → List ℕ → ℕ → ℕ → Bool → Option Item → Insn → Room → List Item
laid_items starts firsts start first follows kept i (room.Plain size) = moved_item starts firsts start kept i ∷ []
laid_items starts firsts start first follows kept i (room.Switch size) = moved_item starts firsts start kept i ∷ []
laid_items starts firsts start first follows kept i (room.Narrow branch) =
    short_item start branch.condition (slice_index starts branch.target) (slice_index firsts branch.target) ∷ []
laid_items starts firsts start first follows kept i (room.Wide branch) =
    wide_items start first follows branch.condition (slice_index starts branch.target) (slice_index firsts branch.target)

-- the laid items of all new items from an offset and a number on
abbrev pub laid_from : List Item → List ℕ → List ℕ → ℕ → ℕ → List NewItem → List Room → List Item
laid_from old starts firsts start first (new ∷ items) (r ∷ rooms) =
    laid_items starts firsts start first (nat_lt 0 (length items)) (kept_item old new) new.insn r
    ++ laid_from old starts firsts (start + size_at start r) (first + item_count r) items rooms
laid_from old starts firsts start first items rooms = []

-- the code of these rooms
abbrev pub laid_in : List Item → List NewItem → List Room → Laid
laid_in old items rooms = record {
  items = laid_from old (starts_from 0 rooms) (firsts_from 0 rooms) 0 0 items rooms;
  firsts = firsts_from 0 rooms;
  length = end_from 0 rooms;
}

-- the laid-out code of new items over the old ones
unfoldable pub laid_of : List Item → List NewItem → Laid
laid_of old items = laid_in old items (widened_rooms (rooms_of old items))

-- ---- marks

-- of each laid item of a new one, the old item that it is, if it isn't inserted. Of a branch that is widened with a condition, the opposite
-- test is the old item, and the goto_w is inserted.
abbrev pub branch_marks : Option ℕ → Option Condition → List (Option ℕ)
branch_marks kept None = kept ∷ []
branch_marks kept (Some taken) = kept ∷ None ∷ []

-- the marks of one new item, by its room
abbrev pub marks_in : Option ℕ → Room → List (Option ℕ)
marks_in kept (room.Wide branch) = branch_marks kept branch.condition
marks_in kept r = kept ∷ []

-- the marks of these new items, each with its room
abbrev pub marks_from : List NewItem → List Room → List (Option ℕ)
marks_from (new ∷ items) (r ∷ rooms) = marks_in new.kept r ++ marks_from items rooms
marks_from items rooms = []

-- the marks of all laid items
unfoldable pub marks_of : List Item → List NewItem → List (Option ℕ)
marks_of old items = marks_from items (widened_rooms (rooms_of old items))

-- ---- code

-- laid-out code is code: its bytes are bytes, they spell its items, and its length is their number (JVMS 4.7.3)
pub record IsCode (laid : Laid) : Type 0 where
  pub bytes : AllByRecursion (λ (item : Item). AreBytes item.bytes) laid.items
  pub spelled : SpellsCode (flat_map item_bytes laid.items) laid.items
  pub measured : laid.length ≡ length (flat_map item_bytes laid.items)

-- ---- code that is too long

-- the number of bytes while no branch is widened
unfoldable pub narrow_length : List Item → List NewItem → ℕ
narrow_length old items = end_from 0 (rooms_of old items)

-- the number of bytes after widening
unfoldable pub laid_length : List Item → List NewItem → ℕ
laid_length old items = end_from 0 (widened_rooms (rooms_of old items))

-- the number in a refusal
abbrev pub refused_length : List Item → List NewItem → ℕ
refused_length old items = if nat_lt MAX_CODE_BYTES (narrow_length old items) then narrow_length old items else laid_length old items

-- the cause of a refusal: the laid-out code has more bytes than a code array may have (JVMS 4.7.3)
abbrev pub IsCause : List Item → List NewItem → LayFail → Type 0
IsCause old items (fail.TooLong bytes) = (MAX_CODE_BYTES < laid_length old items) × (bytes ≡ refused_length old items)
IsCause old items fail.NoMemory = Unit {0}
