-- What each item of a method's new code is for, in order.
use Rattle.std.specs.Prelude.{ℕ, ◌+◌, ◌*◌, Bool, true, false, List, [], ◌∷◌, ◌++◌, length, Option, Some, None, nat_lt, slice_index, if◌then◌else◌}
use Rattle.std.specs.List.{flat_map, range_with_len}
use Rattle.fm_chain.specs.declared.calls.Calls.{Calls}
use Rattle.fm_code.specs.declared.code_array.Code.{Code}
use Rattle.fm_code.specs.declared.code_array.Handler.{Handler}
use Rattle.fm_code.specs.declared.code_array.Item.{Item}
use Rattle.fm_layout.specs.Laid.{laid_of}
use Rattle.fm_layout.specs.Rooms.{rooms_of, widened_rooms}
use Rattle.fm_layout.specs.Tables.{moved_handler}
use Rattle.fm_layout.specs.declared.rooms.Condition.{Condition}
use Rattle.fm_layout.specs.declared.rooms.Room.{Room}
use Rattle.fm_layout.specs.declared.rooms.Room.TheVariants as room
use Rattle.fm_place.specs.Insertions.{after_at, before_at, Insertions}
use Rattle.fm_chain.specs.Chained.{anchors_of, chained, looped_at}
use Rattle.fm_place.specs.Woven.{freed_items}
use Rattle.fm_law_woven_flow.specs.Roles.{DupAfter, FreeBefore, JumpOf, Keep, LinkAfter, LoadAfter, LoadBefore, NullBefore, Role, StartNull, StartStore, StoreAfter, StoreBefore}

-- ---- new items

-- a holder is made null at the start
abbrev pub start_roles : ℕ → List Role
start_roles h = StartNull h ∷ StartStore h ∷ []

-- a holder is freed before an old item
abbrev pub before_roles : ℕ → ℕ → List Role
before_roles j h = LoadBefore j h ∷ FreeBefore j h ∷ NullBefore j h ∷ StoreBefore j h ∷ []

-- a holder keeps what an old item gives: in its chain, or in place of what it held
abbrev pub roles_behind : (looped : Bool) → ℕ → ℕ → List Role
roles_behind true j h = DupAfter j h ∷ LoadAfter j h ∷ LinkAfter j h ∷ StoreAfter j h ∷ []
roles_behind false j h = DupAfter j h ∷ StoreAfter j h ∷ []

-- by whether the holder holds a chain
abbrev pub after_roles : Insertions → ℕ → ℕ → List Role
after_roles plan j h = roles_behind (looped_at plan h) j h

-- an old item, with what is inserted before and after it
abbrev pub item_roles : Insertions → ℕ → List Role
item_roles plan j = flat_map (before_roles j) (before_at plan j) ++ Keep j ∷ flat_map (after_roles plan j) (after_at plan j)

-- these old items, from a number on
abbrev pub roles_from : Insertions → ℕ → List Item → List Role
roles_from plan j [] = []
roles_from plan j (item ∷ items) = item_roles plan j ++ roles_from plan (j + 1) items

-- all new items of a method
abbrev pub new_roles : Code → Insertions → List Role
new_roles code plan = flat_map start_roles (range_with_len 0 (length plan.holders)) ++ roles_from plan 0 code.items

-- ---- laid items

-- the goto_w behind the opposite test of an old item
abbrev pub jump_of : Role → Role
jump_of (Keep j) = JumpOf j
jump_of r = r

-- the laid items of a widened branch
abbrev pub branch_roles : Role → Option Condition → List Role
branch_roles r None = r ∷ []
branch_roles r (Some taken) = r ∷ jump_of r ∷ []

-- the laid items of a new one, by its room
abbrev pub roles_in : Role → Room → List Role
roles_in r (room.Wide branch) = branch_roles r branch.condition
roles_in r m = r ∷ []

-- the laid items of these new ones, each with its room
abbrev pub laid_roles : List Role → List Room → List Role
laid_roles (r ∷ roles) (m ∷ rooms) = roles_in r m ++ laid_roles roles rooms
laid_roles roles rooms = []

-- all items of the new code
unfoldable pub roles_of : (calls : Calls) → Code → Insertions → List Role
roles_of calls code plan = laid_roles (new_roles code plan) (widened_rooms (rooms_of code.items (chained calls code plan)))

-- ---- numbers

-- the new item that keeps an old one
abbrev pub kept_new : Code → Insertions → ℕ → ℕ
kept_new code plan j = slice_index (anchors_of plan code.items) j + freed_items * length (before_at plan j)

-- the item that keeps an old one; past the end a number that isn't another's
unfoldable pub number_of : (calls : Calls) → Code → Insertions → ℕ → ℕ
number_of calls code plan j =
    let laid = laid_of code.items (chained calls code plan) in
    if nat_lt j (length code.items) then slice_index laid.firsts (kept_new code plan j) else length laid.items + j

-- an entry of the exception table, moved with its items
abbrev pub moved_by : (calls : Calls) → Code → Insertions → Handler → Handler
moved_by calls code plan = moved_handler (laid_of code.items (chained calls code plan)).firsts (anchors_of plan code.items)
