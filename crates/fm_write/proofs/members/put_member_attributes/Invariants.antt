use Rattle.std.proofs.Common.{◌≡◌, ◌++◌, take}
use Rattle.std.specs.List.{flat_map}
use Rattle.fm_code.specs.ClassBytes.{member_attribute_bytes}
use Rattle.fm_write.proofs.members.put_member_attributes.Given as goal

abbrev pub invariant-loop-attribute : goal.invariant-loop-attribute
invariant-loop-attribute l = l.out.items ≡ l.initial.out.items ++ flat_map member_attribute_bytes (take l.attribute-index l.attributes)
