use Rattle.std.proofs.Common.{◌≡◌, ◌<◌, ℕ, Contains}
use Rattle.fm_types.specs.States.{local_at}
use Rattle.fm_check_walk.proofs.risen.differing_places.Given as goal

abbrev pub invariant-loop-index : goal.invariant-loop-index
invariant-loop-index l = (k : ℕ) → k < l.index → (Contains l.places.items k → ⊥) → local_at l.slots k ≡ local_at l.others k
