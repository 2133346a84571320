use Rattle.std.proofs.Common.{◌≡◌, take}
use Rattle.fm_types.specs.inner.Pieces.{in_one}
use Rattle.fm_types.proofs.shared_slots.joined.Given as goal

abbrev pub invariant-loop-piece : goal.invariant-loop-piece
invariant-loop-piece l = l.slots.items ≡ in_one (take l.piece-index l.pieces)
