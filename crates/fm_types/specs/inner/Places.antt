-- Places of a state.
use Rattle.std.specs.Prelude.{ℕ, ◌<◌, List, [], length, reverse, slice_set}
use Rattle.fm_types.specs.States.{local_at, TypeState}
use Rattle.fm_types.specs.declared.known_state.SlotPlace.{SlotPlace}
use Rattle.fm_types.specs.declared.known_state.SlotPlace.TheVariants as place
use Rattle.fm_types.specs.declared.slots.Slot.{Slot}

-- the state with no words on its stack
abbrev pub without_words : TypeState → TypeState
without_words s = record s { stack = [] }

-- the word of this number, counted from the bottom of a stack; Top past its top
abbrev pub word_at : List Slot → ℕ → Slot
word_at stack h = local_at (reverse stack) h

-- what is at a place
abbrev pub slot_at : TypeState → SlotPlace → Slot
slot_at s (place.Local k) = local_at s.locals k
slot_at s (place.Word h) = word_at s.stack h

-- the state with this slot at a place
abbrev pub with_slot : SlotPlace → Slot → TypeState → TypeState
with_slot (place.Local k) x s = record s { locals = slice_set s.locals k x }
with_slot (place.Word h) x s = record s { stack = reverse (slice_set (reverse s.stack) h x) }

-- the state has such a place
abbrev pub HasPlace : TypeState → SlotPlace → Type 0
HasPlace s (place.Local k) = k < length s.locals
HasPlace s (place.Word h) = h < length s.stack
