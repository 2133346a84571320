use Rattle.std.proofs.Common.{◌≡◌, map, take}
use Rattle.fm_world.specs.inner.BuiltInTable.{field_of_row}
use Rattle.fm_link_names.proofs.declared.built_in_fields.Given as goal

abbrev pub invariant-loop-field : goal.invariant-loop-field
invariant-loop-field l = l.declared.items ≡ map field_of_row (take l.field-index l.fields)
