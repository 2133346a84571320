-- Files with the names of built-in classes.
use Rattle.std.specs.Prelude.{ℕ, not, Bool, false, List, Option, Some, None}
use Rattle.fm_code.specs.declared.class_file.ClassDef.{ClassDef}
use Rattle.fm_world.specs.BuiltIns.{built_in}
use Rattle.fm_world.specs.Causes.{completes}
use Rattle.fm_world.specs.Chains.{class_at}
use Rattle.fm_world.specs.Descriptors.{class_number}
use Rattle.fm_world.specs.declared.declarations.DeclaredClass.{DeclaredClass}

-- there is a built-in class, which the file doesn't complete
abbrev pub fails_to_complete : Option DeclaredClass → ClassDef → Bool
fails_to_complete None c = false
fails_to_complete (Some b) c = not (completes b c)

-- the file doesn't complete the built-in class of this number, where there is one
abbrev pub leaves : ClassDef → Option ℕ → Bool
leaves c None = false
leaves c (Some class) = not (completes (class_at built_in class) c)

-- a built-in class has the name, and the file doesn't complete it
abbrev pub is_built_in : List ℕ → ClassDef → Bool
is_built_in name c = leaves c (class_number built_in name)
