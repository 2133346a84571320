-- What programs of class files have of what is required of a program.
use Rattle.std.specs.Prelude.{ℕ, List}
use Rattle.fm_code.specs.declared.class_file.ClassDef.{ClassDef}
use Rattle.fm_world.specs.Programs.{program_of}
use Rattle.fm_conn.specs.Shapes.{HasUsesIn}
use Rattle.fm_summ.specs.Exact.{HasBareBuiltIns}

-- what their uses name is there, and so are the classes of their types
abbrev pub ProgramsHaveUsesIn : Type 0
ProgramsHaveUsesIn = (given : List ClassDef) (main : List ℕ) → HasUsesIn (program_of given main)

-- their built-in methods have no code
abbrev pub ProgramsHaveBareBuiltIns : Type 0
ProgramsHaveBareBuiltIns = (given : List ClassDef) (main : List ℕ) → HasBareBuiltIns (program_of given main)
