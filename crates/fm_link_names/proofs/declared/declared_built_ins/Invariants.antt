use Rattle.std.proofs.Common.{◌≡◌, map, take}
use Rattle.fm_world.specs.inner.BuiltInTable.{class_of_row}
use Rattle.fm_link_names.proofs.declared.declared_built_ins.Given as goal

abbrev pub invariant-loop-class : goal.invariant-loop-class
invariant-loop-class l = l.classes.items ≡ map class_of_row (take l.class-index l.class-items)
