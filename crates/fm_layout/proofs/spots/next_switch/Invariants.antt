use Rattle.std.proofs.Common.{◌≡◌, drop}
use Rattle.fm_layout.specs.inner.Spots.{next_in, no_switch}
use Rattle.fm_layout.proofs.spots.next_switch.Given as goal

abbrev pub invariant-loop-spot : goal.invariant-loop-spot
invariant-loop-spot l = next_in l.item l.next (drop l.spot-index l.spots) ≡ next_in l.item (no_switch l.count) l.spots
