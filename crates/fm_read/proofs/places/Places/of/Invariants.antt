use Rattle.std.proofs.Common.{◌≡◌, map, take}
use Rattle.fm_decode.specs.inner.Targets.{item_offset}
use Rattle.fm_read.proofs.places.Places.of.Given as goal

abbrev pub invariant-loop-item : goal.invariant-loop-item
invariant-loop-item l = l.offsets.items ≡ map item_offset (take l.item-index l.items)
