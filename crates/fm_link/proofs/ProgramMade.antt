-- Of the tables of class files, and their declared classes, a program is made.
use Rattle.std.proofs.Common.{◌≡◌, sym, ◌∙◌, ap, subst, ℕ, List}
use Rattle.fm_code.specs.declared.class_file.ClassDef.{ClassDef}
use Rattle.fm_link.specs.inner.Made.{AreTablesOf}
use Rattle.fm_link_program.proofs.ProgramSteps.{are_tables, is_program}
use Rattle.fm_link_program.specs.declared.program_tables.ProgramTables.{ProgramTables}
use Rattle.fm_link_program.specs.inner.Assembled.{parts_from}
use Rattle.fm_world.specs.Programs.{classes_of, program_of}
use Rattle.fm_world.specs.declared.declarations.DeclaredClass.{DeclaredClass}
use Rattle.fm_world.specs.inner.Tables.{program_in, AreTables}

-- the tables are those that a program asks for
pub tables_asked : (given : List ClassDef) (name : List ℕ) (declared : List DeclaredClass) (t : ProgramTables) → declared ≡ classes_of given
    → AreTablesOf given name t → AreTables (parts_from declared t)
tables_asked given name declared t classes_are of =
    let P : List DeclaredClass → Type 0 = λ ds. AreTables (parts_from ds t) in subst P (sym classes_are) (are_tables given of.main t of.tables)

-- and their program is that of the class files
pub program_made : (given : List ClassDef) (name : List ℕ) (declared : List DeclaredClass) (t : ProgramTables) → declared ≡ classes_of given
    → AreTablesOf given name t → program_in (parts_from declared t) ≡ program_of given name
program_made given name declared t classes_are of =
    ap (λ ds. program_in (parts_from ds t)) classes_are ∙ is_program given name of.main t of.tables of.class of.method
