use Rattle.std.proofs.Common.{◌≡◌, take}
use Rattle.fm_code.proofs.class_file.attributes_copy.Given as goal

abbrev pub invariant-loop-attribute : goal.invariant-loop-attribute
invariant-loop-attribute l = l.copies.items ≡ take l.attribute-index l.attributes
