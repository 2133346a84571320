use Rattle.std.proofs.Common.{◌≡◌, ℕ, Some, slice_get, take, true}
use Rattle.fm_world.specs.Chains.{is_among}
use Rattle.fm_link_refusals.proofs.left_over.are_zero.Given as goal

abbrev pub invariant-loop-class : goal.invariant-loop-class
invariant-loop-class l = (class : ℕ) → is_among class (take l.class-index l.classes) ≡ true → slice_get l.row class ≡ Some 0
