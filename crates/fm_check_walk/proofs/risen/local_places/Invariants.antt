use Rattle.std.proofs.Common.{◌≡◌, map, take}
use Rattle.fm_types.specs.declared.known_state.SlotPlace.TheVariants as place
use Rattle.fm_check_walk.proofs.risen.local_places.Given as goal

abbrev pub invariant-loop-local : goal.invariant-loop-local
invariant-loop-local l = l.places.items ≡ map (λ k. place.Local k) (take l.local-index l.locals)
