-- The join of two states, slot by slot.
use Rattle.std.specs.Prelude.{◌==◌, ◌&&◌, Bool, List, [], ◌∷◌, length, Option, Some, None, if◌then◌else◌}
use Rattle.fm_types.specs.Joins.{join}
use Rattle.fm_types.specs.States.{is_whole, TypeState}
use Rattle.fm_types.specs.declared.slots.Slot.{Slot}
use Rattle.fm_world.specs.Programs.{Outline}

-- the joins of the slots at the same places
abbrev pub join_slots : Outline → List Slot → List Slot → List Slot
join_slots o [] others = []
join_slots o (a ∷ slots) [] = []
join_slots o (a ∷ slots) (b ∷ others) = join o a b ∷ join_slots o slots others

-- as many locals, and as many words of the stack
abbrev pub have_same_sizes : TypeState → TypeState → Bool
have_same_sizes a b = (length a.locals == length b.locals) && (length a.stack == length b.stack)

-- the state of the joins; none of states of different sizes, or where a long of the stack would be split
unfoldable pub join_state : Outline → TypeState → TypeState → Option TypeState
join_state o a b =
    let stack = join_slots o a.stack b.stack in
    if have_same_sizes a b && is_whole stack
    then Some (record { locals = join_slots o a.locals b.locals; stack = stack; built = a.built && b.built })
    else None
