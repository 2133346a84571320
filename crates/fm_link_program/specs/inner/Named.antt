-- The types and the texts of a program, and what the indices of its classes are resolved to by them.
use Rattle.std.specs.Prelude.{◌≡◌, ◌<◌, ◌^◌, List, length}
use Rattle.fm_code.specs.declared.class_file.ClassDef.{ClassDef}
use Rattle.fm_link_program.specs.declared.named.Named.{Named}
use Rattle.fm_world.specs.Numbers.{texts_of, types_of}
use Rattle.fm_world.specs.Programs.{Outline, classes_of, uses_of}

-- all that names are resolved by
abbrev pub outline_named : List ClassDef → Named → Outline
outline_named given n = record {
  classes = classes_of given;
  types = n.types.types.keys;
  texts = n.literals.units.items;
  main_class = 0;
  main = 0;
}

-- they are those of the program that the class files make
pub record IsNamed (given : List ClassDef) (n : Named) : Type 0 where
  pub types : n.types.types.keys ≡ types_of (classes_of given) given
  pub few : length n.types.types.keys < 2 ^ 32
  pub texts : n.literals.units.items ≡ texts_of given
  pub uses : n.uses.items ≡ uses_of (outline_named given n) given
