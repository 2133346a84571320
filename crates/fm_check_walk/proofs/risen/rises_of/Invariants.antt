use Rattle.std.proofs.Common.{◌≡◌, map, take}
use Rattle.fm_check_walk.specs.inner.Risen.{rise_of}
use Rattle.fm_types.specs.Typings.{known_state}
use Rattle.fm_check_walk.proofs.risen.rises_of.Given as goal

abbrev pub invariant-loop-place : goal.invariant-loop-place
invariant-loop-place l = l.rises.items ≡ map (rise_of (known_state l.known)) (take l.place-index l.places)
