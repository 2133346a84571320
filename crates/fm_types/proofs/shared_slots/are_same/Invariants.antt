use Rattle.std.proofs.Common.{◌≡◌, ◌<◌, ℕ, get_or}
use Rattle.fm_types.specs.declared.slots.Slot.{Slot}
use Rattle.fm_types.proofs.shared_slots.are_same.Given as goal

abbrev pub invariant-loop-index : goal.invariant-loop-index
invariant-loop-index l = (k : ℕ) (d : Slot) → k < l.index → get_or l.slots k d ≡ get_or l.others k d
