-- Widening one branch after the other: branches and switches apart from other items, and how they move.
use Rattle.std.specs.Prelude.{ℕ, zero, suc, ◌+◌, ◌-◌, ◌*◌, ◌/◌, ◌%◌, ◌<◌, ◌≡◌, ◌&&◌, Bool, true, false, not, List, [], ◌∷◌, ◌++◌, length, Option, Some, None, nat_lt, nat_eq, slice_index, slice_index_or, if◌then◌else◌}
use Rattle.std.specs.List.{AllByRecursion, list_any}
use Rattle.fm_layout.specs.Rooms.{is_in_reach, size_at, starts_from}
use Rattle.fm_layout.specs.inner.Weights.{weight_of}
use Rattle.fm_layout.specs.declared.rooms.TheConstants.{SHORT_JUMP_BYTES, GOTO_W_BYTES}
use Rattle.fm_layout.specs.declared.rooms.Condition.{Condition}
use Rattle.fm_layout.specs.declared.rooms.Room.{Room}
use Rattle.fm_layout.specs.declared.rooms.Room.TheVariants as room
use Rattle.fm_layout.specs.declared.spots.Change.{Change}
use Rattle.fm_layout.specs.declared.spots.Spot.{Spot}

-- ---- rooms

-- the room of a number, and an empty one where there is none
abbrev pub room_at : List Room → ℕ → Room
room_at rooms k = slice_index_or rooms k (room.Plain 0)

-- where the room of a number begins
abbrev pub start_at : List Room → ℕ → ℕ
start_at rooms k = slice_index (starts_from 0 rooms) k

-- the number of the item that a branch names
abbrev pub target_of : Room → ℕ
target_of (room.Narrow branch) = branch.target
target_of (room.Wide branch) = branch.target
target_of r = 0

-- whether a room is a branch or a switch
abbrev pub is_spot : Room → Bool
is_spot (room.Plain size) = false
is_spot r = true

-- whether it is a switch
abbrev pub is_switch : Room → Bool
is_switch (room.Switch size) = true
is_switch r = false

-- a branch widened
abbrev pub wide_room : Room → Room
wide_room (room.Narrow branch) = room.Wide branch
wide_room r = r

-- how many bytes more a branch takes once it is widened
abbrev pub branch_growth : Option Condition → ℕ
branch_growth None = GOTO_W_BYTES - SHORT_JUMP_BYTES
branch_growth (Some taken) = GOTO_W_BYTES

-- how many bytes more a room takes once it is widened
abbrev pub growth : Room → ℕ
growth (room.Narrow branch) = branch_growth branch.condition
growth r = 0

-- rooms of which one is widened
abbrev pub widen_item : List Room → ℕ → List Room
widen_item [] item = []
widen_item (r ∷ rooms) zero = wide_room r ∷ rooms
widen_item (r ∷ rooms) (suc item) = r ∷ widen_item rooms item

-- rooms of which these are widened
abbrev pub widen_all : List Room → List ℕ → List Room
widen_all rooms [] = rooms
widen_all rooms (item ∷ items) = widen_all (widen_item rooms item) items

-- ---- branches and switches

-- the branch or the switch that a room is, if it is one
abbrev pub spot_in : List ℕ → ℕ → ℕ → Room → List Spot
spot_in starts start item r =
    if is_spot r then record { item = item; start = start; to = slice_index starts (target_of r); room = r } ∷ [] else []

-- the branches and switches of rooms from an offset and a number on
abbrev pub spots_from : List ℕ → ℕ → ℕ → List Room → List Spot
spots_from starts start item [] = []
spots_from starts start item (r ∷ rooms) = spot_in starts start item r ++ spots_from starts (start + size_at start r) (item + 1) rooms

-- a branch that isn't widened and doesn't reach its target
abbrev pub is_far_in : Room → ℕ → ℕ → Bool
is_far_in (room.Narrow branch) start to = not (is_in_reach start to)
is_far_in r start to = false

abbrev pub is_far : Spot → Bool
is_far spot = is_far_in spot.room spot.start spot.to

-- the numbers of these
abbrev pub far_items : List Spot → List ℕ
far_items [] = []
far_items (spot ∷ spots) = if is_far spot then spot.item ∷ far_items spots else far_items spots

-- a branch or a switch is the room of its number, and begins where that does, as its target does
pub record IsSpot (rooms : List Room) (spot : Spot) : Type 0 where
  pub within : spot.item < length rooms
  pub here : room_at rooms spot.item ≡ spot.room
  pub starts : start_at rooms spot.item ≡ spot.start
  pub leads : start_at rooms (target_of spot.room) ≡ spot.to

-- each branch and each switch of these rooms is listed
abbrev pub AreListed : List Room → List Spot → Type 0
AreListed rooms spots = (k : ℕ) → is_spot (room_at rooms k) ≡ true → list_any (λ (spot : Spot). nat_eq k spot.item) spots ≡ true

-- what is listed are the branches and the switches of these rooms, which aren't too many
pub record Tracks (rooms : List Room) (spots : List Spot) : Type 0 where
  pub each : AllByRecursion (IsSpot rooms) spots
  pub listed : AreListed rooms spots
  pub weight : weight_of rooms < 4294967288

-- ---- changes

-- the other one, if it is a switch behind an item and before the first one, or else the first one
abbrev pub nearer : ℕ → Spot → Spot → Spot
nearer item next other = if is_switch other.room && nat_lt item other.item && nat_lt other.item next.item then other else next

-- the nearest switch behind an item
abbrev pub next_in : ℕ → Spot → List Spot → Spot
next_in item next [] = next
next_in item next (spot ∷ spots) = next_in item (nearer item next spot) spots

-- what is found where there is no switch
abbrev pub no_switch : ℕ → Spot
no_switch count = record { item = count; start = 0; to = 0; room = room.Plain 0 }

-- what the growth of an item moves, where this is the next switch
abbrev pub change_in : ℕ → ℕ → ℕ → Spot → Change
change_in item by count next = record { item = item; by = by; switch = next.item; later = (next.start % 4 + by) / 4 * 4; count = count }

-- by how many bytes an item moves
abbrev pub shift : Change → ℕ → ℕ
shift change place =
    if nat_lt change.item place
    then (if nat_lt change.switch place then (if nat_lt change.count place then 0 else change.later) else change.by)
    else 0

-- a branch or a switch after a change
abbrev pub moved : Change → Spot → Spot
moved change spot = record {
  item = spot.item;
  start = spot.start + shift change spot.item;
  to = spot.to + shift change (target_of spot.room);
  room = if nat_eq spot.item change.item then wide_room spot.room else spot.room;
}

-- the offsets after a change fit 32 bits
abbrev pub FitsAfter : Change → Spot → Type 0
FitsAfter change spot = (spot.start + shift change spot.item < 4294967296) × (spot.to + shift change (target_of spot.room) < 4294967296)
