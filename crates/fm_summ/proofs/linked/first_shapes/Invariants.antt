use Rattle.std.proofs.Common.{◌≡◌, map}
use Rattle.std.specs.List.{range_with_len}
use Rattle.fm_summ.specs.inner.State.{first_shape}
use Rattle.fm_summ.specs.Exact.{shape_at}
use Rattle.fm_summ.proofs.linked.first_shapes.Given as goal

abbrev pub invariant-loop-index : goal.invariant-loop-index
invariant-loop-index l =
    l.first.items ≡ map (λ method. first_shape l.program method (shape_at l.shapes method)) (range_with_len 0 l.index)
