use Rattle.std.proofs.Common.{◌≡◌, drop}
use Rattle.fm_base.specs.Rows.{marked}
use Rattle.fm_base.proofs.marks.mark_indices.Given as goal

abbrev pub invariant-loop-index : goal.invariant-loop-index
invariant-loop-index l = marked l.marks.items (drop l.index-index l.indices) ≡ marked l.initial.marks.items l.indices
