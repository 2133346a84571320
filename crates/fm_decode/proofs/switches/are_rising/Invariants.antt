use Rattle.std.proofs.Common.{◌≡◌, true}
use Rattle.std.specs.Prelude.{int_lt}
use Rattle.std.specs.List.{AllAdjacentBelow}
use Rattle.fm_decode.proofs.switches.are_rising.Given as goal

abbrev pub invariant-loop-next : goal.invariant-loop-next
invariant-loop-next l = AllAdjacentBelow (λ x y. true ≡ int_lt x y) l.keys l.next
