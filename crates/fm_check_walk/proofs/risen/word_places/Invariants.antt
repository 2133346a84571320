use Rattle.std.proofs.Common.{◌≡◌, map, take}
use Rattle.fm_types.specs.declared.known_state.SlotPlace.TheVariants as place
use Rattle.fm_check_walk.proofs.risen.word_places.Given as goal

abbrev pub invariant-loop-word : goal.invariant-loop-word
invariant-loop-word l = l.places.items ≡ map (λ h. place.Word h) (take l.word-index l.words)
