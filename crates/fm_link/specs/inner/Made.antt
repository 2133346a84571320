-- What is known of the tables of class files that are linked.
use Rattle.std.specs.Prelude.{◌≡◌, ℕ, List, Some}
use Rattle.fm_code.specs.declared.class_file.ClassDef.{ClassDef}
use Rattle.fm_link_program.specs.declared.program_tables.ProgramTables.{ProgramTables}
use Rattle.fm_link_program.specs.inner.Assembled.{IsTables}
use Rattle.fm_world.specs.Chains.{given_number}
use Rattle.fm_world.specs.Programs.{classes_of, main_of}

-- the tables are those of the files' classes, with the main class of that name and its main method
pub record AreTablesOf (given : List ClassDef) (name : List ℕ) (t : ProgramTables) : Type 0 where
  pub main : ℕ × ℕ
  pub tables : IsTables given main t
  pub class : given_number (classes_of given) name ≡ Some main.0
  pub method : main_of (classes_of given) main.0 ≡ Some main.1
