use Rattle.std.proofs.Common.{◌≡◌, ◌++◌, drop}
use Rattle.std.specs.List.{filter_map}
use Rattle.fm_layout.specs.Tables.{moved_attribute}
use Rattle.fm_layout.proofs.tables.moved_attributes.Given as goal

abbrev pub invariant-loop-attribute : goal.invariant-loop-attribute
invariant-loop-attribute l =
    l.moved.items ++ filter_map (moved_attribute l.firsts l.anchors) (drop l.attribute-index l.attributes) ≡ filter_map (moved_attribute l.firsts l.anchors) l.attributes
