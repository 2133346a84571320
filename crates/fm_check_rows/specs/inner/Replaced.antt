-- Slots in whose place another one is put, one after the other.
use Rattle.std.specs.Prelude.{ℕ, zero, suc, Bool, List, [], ◌∷◌, if◌then◌else◌}
use Rattle.fm_types.specs.declared.slots.Slot.{Slot}

-- what replaces a slot: another one, if the slot passes
abbrev pub replacement : (Slot → Bool) → Slot → Slot → Slot
replacement test other s = if test s then other else s

-- the same at the first places of a list, this number of them
abbrev pub replaced_to : (Slot → Bool) → Slot → ℕ → List Slot → List Slot
replaced_to test other zero slots = slots
replaced_to test other (suc n) [] = []
replaced_to test other (suc n) (s ∷ slots) = replacement test other s ∷ replaced_to test other n slots
