use Rattle.std.proofs.Common.{◌≡◌, drop}
use Rattle.std.specs.List.{flat_map}
use Rattle.fm_base.specs.Rows.{marked}
use Rattle.fm_link_names.specs.inner.Marks.{operands_in}
use Rattle.fm_link_names.proofs.used.mark_operands.Given as goal

abbrev pub invariant-loop-method : goal.invariant-loop-method
invariant-loop-method l =
    marked l.used.items (flat_map operands_in (drop l.method-index l.methods)) ≡ marked l.initial.used.items (flat_map operands_in l.methods)
