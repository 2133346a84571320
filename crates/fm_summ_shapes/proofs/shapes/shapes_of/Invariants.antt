use Rattle.std.proofs.Common.{◌≡◌, ℕ, ◌<◌, length}
use Rattle.fm_summ_shapes.specs.Analysed.{IsLeastShape}
use Rattle.fm_summ.specs.Exact.{shape_at}
use Rattle.fm_summ_shapes.proofs.shapes.shapes_of.Given as goal

abbrev pub invariant-loop-number : goal.invariant-loop-number
invariant-loop-number l =
    (length l.shapes.items ≡ l.number) × ((k : ℕ) → k < l.number → IsLeastShape l.fn.program k (shape_at l.shapes.items k))
