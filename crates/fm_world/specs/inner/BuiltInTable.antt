-- The table of the built-in classes, as the declarations that it stands for.
use Rattle.std.specs.Prelude.{map, Some, None, option_map}
use Rattle.fm_world.specs.declared.declarations.DeclaredClass.{DeclaredClass}
use Rattle.fm_world.specs.declared.declarations.DeclaredField.{DeclaredField}
use Rattle.fm_world.specs.declared.declarations.DeclaredMethod.{DeclaredMethod}
use Rattle.fm_world.specs.declared.built_ins.BuiltInClass.{BuiltInClass}
use Rattle.fm_world.specs.declared.built_ins.BuiltInField.{BuiltInField}
use Rattle.fm_world.specs.declared.built_ins.BuiltInMethod.{BuiltInMethod}

-- the field that a row of the table declares
abbrev pub field_of_row : BuiltInField → DeclaredField
field_of_row f = record { name = f.name.now; descriptor = f.descriptor.now; flags = f.flags; value = None }

-- the method that a row of the table declares
abbrev pub method_of_row : BuiltInMethod → DeclaredMethod
method_of_row m = record { name = m.name.now; descriptor = m.descriptor.now; flags = m.flags; row = Some m.row }

-- the class that a row of the table declares
abbrev pub class_of_row : BuiltInClass → DeclaredClass
class_of_row c = record {
  name = c.name.now;
  superclass = option_map (λ s. s.now) c.superclass;
  interfaces = map (λ i. i.now) c.interfaces.now;
  flags = c.flags;
  hidden = c.hidden;
  fields = map field_of_row c.fields.now;
  methods = map method_of_row c.methods.now;
  file = None;
}
