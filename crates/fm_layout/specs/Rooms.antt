-- How many bytes each new item takes, and which branches are widened.
use Rattle.std.specs.Prelude.{ℕ, zero, suc, ◌+◌, ◌-◌, ◌&&◌, Bool, List, [], ◌∷◌, length, map, Option, Some, None, slice_index, pos, negsuc, int_le, if◌then◌else◌}
use Rattle.fm_code.specs.InstructionTable.{padding_at}
use Rattle.fm_code.specs.declared.instructions.Insn.{Insn}
use Rattle.fm_code.specs.declared.instructions.Insn.TheVariants as insn
use Rattle.fm_code.specs.declared.code_array.Item.{Item}
use Rattle.fm_layout.specs.Spelling.{kept_item, plain_bytes, is_goto_w, distance}
use Rattle.fm_layout.specs.declared.new_items.NewItem.{NewItem}
use Rattle.fm_layout.specs.declared.rooms.TheConstants.{SHORT_JUMP_BYTES, GOTO_W_BYTES}
use Rattle.fm_layout.specs.declared.rooms.Condition.{Condition}
use Rattle.fm_layout.specs.declared.rooms.Condition.TheVariants as condition
use Rattle.fm_layout.specs.declared.rooms.Room.{Room}
use Rattle.fm_layout.specs.declared.rooms.Room.TheVariants as room

-- ---- rooms

-- the bytes of an old switch after its opcode and its padding
abbrev pub switch_size : Option Item → ℕ
switch_size (Some item) = length item.bytes - (1 + padding_at item.offset)
switch_size None = 0

-- the room of a branch of two bytes that isn't widened
abbrev pub narrow : Option Condition → ℕ → Room
narrow taken target = room.Narrow (record { condition = taken; target = target })

-- the room of an item before any branch is widened; a goto_w stays one
abbrev pub room_of : Option Item → Insn → Room
room_of kept (insn.IfInt test target) = narrow (Some (condition.Int test)) target
room_of kept (insn.IfPair test target) = narrow (Some (condition.Pair test)) target
room_of kept (insn.IfSame same target) = narrow (Some (condition.Same same)) target
room_of kept (insn.IfNull null target) = narrow (Some (condition.Null null)) target
room_of kept (insn.Goto target) = if is_goto_w kept then room.Plain GOTO_W_BYTES else narrow None target
room_of kept (insn.Table low others targets) = room.Switch (switch_size kept)
room_of kept (insn.Lookup others keys targets) = room.Switch (switch_size kept)
room_of kept i = room.Plain (length (plain_bytes kept i))

-- the rooms of the new items before any branch is widened
abbrev pub rooms_of : List Item → List NewItem → List Room
rooms_of old items = map (λ (new : NewItem). room_of (kept_item old new) new.insn) items

-- how many bytes a widened branch takes: goto_w, after the opposite test where it is conditional
abbrev pub wide_size : Option Condition → ℕ
wide_size None = GOTO_W_BYTES
wide_size (Some taken) = SHORT_JUMP_BYTES + GOTO_W_BYTES

-- how many bytes a room takes at an offset
abbrev pub size_at : ℕ → Room → ℕ
size_at start (room.Plain size) = size
size_at start (room.Switch size) = (1 + padding_at start) + size
size_at start (room.Narrow branch) = SHORT_JUMP_BYTES
size_at start (room.Wide branch) = wide_size branch.condition

-- where rooms end that begin at an offset
abbrev pub end_from : ℕ → List Room → ℕ
end_from start [] = start
end_from start (r ∷ rooms) = end_from (start + size_at start r) rooms

-- where each room begins, and where the last one ends
abbrev pub starts_from : ℕ → List Room → List ℕ
starts_from start [] = start ∷ []
starts_from start (r ∷ rooms) = start ∷ starts_from (start + size_at start r) rooms

-- ---- widening

-- whether a distance fits two bytes: from -32,768 to 32,767
abbrev pub is_in_reach : ℕ → ℕ → Bool
is_in_reach from to = int_le (negsuc 32767) (distance from to) && int_le (distance from to) (pos 32767)

-- a branch at an offset is widened where its target is out of reach; one that was widened stays so
abbrev pub widened_at : List ℕ → ℕ → Room → Room
widened_at starts start (room.Narrow branch) =
    if is_in_reach start (slice_index starts branch.target) then room.Narrow branch else room.Wide branch
widened_at starts start r = r

-- the rooms from an offset on, each widened where its target is out of reach
abbrev pub widened_from : List ℕ → ℕ → List Room → List Room
widened_from starts start [] = []
widened_from starts start (r ∷ rooms) = widened_at starts start r ∷ widened_from starts (start + size_at start r) rooms

-- a round lays the code out and widens each branch that doesn't reach
abbrev pub round_after : List Room → List Room
round_after rooms = widened_from (starts_from 0 rooms) 0 rooms

-- the rooms after a given number of rounds
abbrev pub rounds_after : ℕ → List Room → List Room
rounds_after zero rooms = rooms
rounds_after (suc rounds) rooms = rounds_after rounds (round_after rooms)

-- the rooms after as many rounds as there are items. A round that widens nothing is the last one that counts, and each before it
-- widens a branch at least, so after these no further round widens any (law_settled).
abbrev pub widened_rooms : List Room → List Room
widened_rooms rooms = rounds_after (length rooms) rooms
