use Rattle.std.proofs.Common.{◌≡◌, map, take}
use Rattle.fm_code.specs.inner.Reading.{attribute_view}
use Rattle.fm_read.proofs.class_file.raws_of.Given as goal

abbrev pub invariant-loop-attribute : goal.invariant-loop-attribute
invariant-loop-attribute l = l.raws.items ≡ map attribute_view (take l.attribute-index l.attributes)
