use Rattle.std.proofs.Common.{◌≡◌, ◌++◌, drop}
use Rattle.fm_layout.specs.inner.Spots.{far_items}
use Rattle.fm_layout.proofs.spots.put_far.Given as goal

abbrev pub invariant-loop-spot : goal.invariant-loop-spot
invariant-loop-spot l = l.far.items ++ far_items (drop l.spot-index l.spots) ≡ far_items l.spots
