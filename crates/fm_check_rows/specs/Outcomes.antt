-- The outcome of a row in code: whether it was met, and the state that it left.
use Rattle.std.specs.Prelude.{ℕ, Bool, false, List, Option, Some, None, option_and_then, if◌then◌else◌}
use Rattle.fm_types.specs.Moves.{moved}
use Rattle.fm_types.specs.States.{is_uninit, is_uninit_this, is_whole, TypeState}
use Rattle.fm_types.specs.Typings.{type_state}
use Rattle.fm_types.specs.declared.slots.Slot.{Slot}
use Rattle.fm_types.specs.declared.states.State.{State}

-- the state that is left, where the row is met
abbrev pub outcome : Bool → State → Option TypeState
outcome met s = if met then Some (type_state s) else None

-- the stack after moves, where it is deep enough and no long is split
abbrev pub moved_whole : ℕ → List ℕ → List Slot → Option (List Slot)
moved_whole takes gives stack =
    option_and_then (λ after. if is_whole after then Some after else None) (moved (record { takes = takes; gives = gives }) stack)

-- the test for an object that the `new` of this item made, or with no item for a constructor's own object
abbrev pub marks : Option ℕ → Slot → Bool
marks None s = is_uninit_this s
marks (Some item) s = is_uninit item s

-- a slot that is there passes that test
abbrev pub is_some_marked : Option ℕ → Option Slot → Bool
is_some_marked mark None = false
is_some_marked mark (Some s) = marks mark s
