-- Lists in pieces of one length, but for the last one.
use Rattle.std.specs.Prelude.{◌≡◌, ◌<◌, ◌≤◌, List, [], ◌∷◌, length}
use Rattle.std.specs.List.{flat_map}
use Rattle.fm_types.specs.declared.shared_slots.TheConstants.{PIECE_SLOTS}
use Rattle.fm_types.specs.declared.slots.Slot.{Slot}

-- the list that the pieces make
abbrev pub in_one : List (List Slot) → List Slot
in_one pieces = flat_map (λ piece. piece) pieces

-- each piece but the last one has as many slots as a piece may have, and no piece has more
abbrev pub AreEven : List (List Slot) → Type 0
AreEven [] = Unit {0}
AreEven (piece ∷ pieces) = (length piece ≤ PIECE_SLOTS) × (0 < length pieces → length piece ≡ PIECE_SLOTS) × AreEven pieces
