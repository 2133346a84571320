use Rattle.std.proofs.Common.{◌≡◌, drop}
use Rattle.fm_base.specs.Rows.{marked}
use Rattle.fm_link_names.specs.inner.Marks.{values_among}
use Rattle.fm_link_names.proofs.used.mark_value.Given as goal

abbrev pub invariant-loop-attribute : goal.invariant-loop-attribute
invariant-loop-attribute l =
    marked l.used.items (values_among (drop l.attribute-index l.attributes)) ≡ marked l.initial.used.items (values_among l.attributes)
