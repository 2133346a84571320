use Rattle.std.proofs.Common.{◌≡◌, ◌++◌}
use Rattle.std.specs.List.{flat_map}
use Rattle.std.specs.Slice.Iter.{iter_rest}
use Rattle.fm_code.specs.ClassBytes.{code_attribute_bytes}
use Rattle.fm_write.proofs.code.put_code_attributes.Given as goal

abbrev pub invariant-loop-attribute : goal.invariant-loop-attribute
invariant-loop-attribute l = l.out.items ++ flat_map (code_attribute_bytes l.code) (iter_rest l.attribute-iterator) ≡ l.initial.out.items ++ flat_map (code_attribute_bytes l.code) l.code.attributes
