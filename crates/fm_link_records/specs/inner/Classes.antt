-- What a program records about a class, by tables.
use Rattle.std.specs.Prelude.{ℕ, ◌+◌, ◌&&◌, Bool, List, [], length, map, codes, position, Option}
use Rattle.std.specs.Option.{option_map}
use Rattle.std.specs.Str.{bytes_eq}
use Rattle.fm_base.specs.declared.ids.MethodId.{MethodId}
use Rattle.fm_code.specs.AccessFlags.{is_static}
use Rattle.fm_world.specs.Lookups.{package_of}
use Rattle.fm_world.specs.Programs.{Outline, class_id, method_id}
use Rattle.fm_world.specs.declared.declarations.DeclaredClass.{DeclaredClass}
use Rattle.fm_world.specs.declared.declarations.DeclaredMethod.{DeclaredMethod}
use Rattle.fm_world.specs.declared.records.ClassInfo.{ClassInfo}

-- classes alone
abbrev pub bare_outline : List DeclaredClass → Outline
bare_outline classes = record { classes = classes; types = []; texts = []; main_class = 0; main = 0 }

-- a method that starts its class
abbrev pub is_start : DeclaredMethod → Bool
is_start m = bytes_eq m.name (codes "<clinit>") && bytes_eq m.descriptor (codes "()V") && is_static m.flags

-- the first method that starts the class, whose methods are numbered from this one on
abbrev pub start_from : DeclaredClass → ℕ → Option MethodId
start_from class first = option_map method_id (option_map (λ k. first + k) (position is_start class.methods))

-- what is recorded about a class with this superclass, these interfaces, this first method and this size
abbrev pub class_told : DeclaredClass → Option ℕ → List ℕ → ℕ → ℕ → ClassInfo
class_told class parent listed first size = record {
  name = class.name;
  parent = option_map class_id parent;
  interfaces = map class_id listed;
  flags = class.flags;
  start = start_from class first;
  file = class.file;
  size = size;
  package_bytes = length (package_of class.name);
}
