use Rattle.std.proofs.Common.{◌≡◌, ◌++◌, List, length}
use Rattle.std.specs.List.{All}
use Rattle.fm_types.specs.declared.slots.Slot.{Slot}
use Rattle.fm_types.specs.inner.Pieces.{in_one}
use Rattle.fm_types.proofs.shared_slots.cut.Given as goal

-- the pieces so far are whole, and with the rest they are the slots
pub record IsCut (slots : List Slot) (pieces : List (List Slot)) (rest : List Slot) : Type 0 where
  pub whole : All (λ (piece : List Slot). length piece ≡ 32) pieces
  pub same : in_one pieces ++ rest ≡ slots

abbrev pub invariant-loop-rest : goal.invariant-loop-rest
invariant-loop-rest l = IsCut l.slots l.pieces.items l.rest

abbrev pub decreases-loop-rest : goal.decreases-loop-rest
decreases-loop-rest l = length l.rest
