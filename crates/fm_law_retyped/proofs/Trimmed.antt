-- Locals of which the last one is no first half of a long: there would be no second half behind it.
use Rattle.std.specs.Prelude.{List, [], ◌∷◌, if◌then◌else◌}
use Rattle.fm_types.specs.States.{is_long, TypeState}
use Rattle.fm_types.specs.declared.slots.Slot.{Slot}
use Rattle.fm_types.specs.declared.slots.Slot.TheVariants as slot

-- the locals where the last one, if it is a first half, is none any longer
abbrev pub trimmed : List Slot → List Slot
trimmed [] = []
trimmed (s ∷ []) = (if is_long s then slot.Top else s) ∷ []
trimmed (s ∷ t ∷ locals) = s ∷ trimmed (t ∷ locals)

-- a state with such locals
abbrev pub trimmed_state : TypeState → TypeState
trimmed_state s = record s { locals = trimmed s.locals }
