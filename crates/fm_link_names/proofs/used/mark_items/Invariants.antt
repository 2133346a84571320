use Rattle.std.proofs.Common.{◌≡◌, drop}
use Rattle.fm_base.specs.Rows.{marked}
use Rattle.fm_link_names.specs.inner.Marks.{operands_among}
use Rattle.fm_link_names.proofs.used.mark_items.Given as goal

abbrev pub invariant-loop-item : goal.invariant-loop-item
invariant-loop-item l = marked l.used.items (operands_among (drop l.item-index l.items)) ≡ marked l.initial.used.items (operands_among l.items)
