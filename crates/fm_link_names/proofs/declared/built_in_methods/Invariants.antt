use Rattle.std.proofs.Common.{◌≡◌, map, take}
use Rattle.fm_world.specs.inner.BuiltInTable.{method_of_row}
use Rattle.fm_link_names.proofs.declared.built_in_methods.Given as goal

abbrev pub invariant-loop-method : goal.invariant-loop-method
invariant-loop-method l = l.declared.items ≡ map method_of_row (take l.method-index l.methods)
