-- What classes with safe insertions do beside those that were given, by the lockstep of their programs.
use Rattle.std.specs.Prelude.{ℕ, List}
use Rattle.fm_code.specs.declared.class_file.ClassDef.{ClassDef}
use Rattle.fm_place.specs.Safe.{IsProgramOf, SafeOf}
use Rattle.fm_law_headline.specs.InStep.{DoAlike}
use Rattle.fm_law_reached.specs.Reached.{HasClosedSets}
use Rattle.fm_law_same_runs.specs.Beside.{Marks}
use Rattle.fm_law_same_runs.specs.Programs.{AreTaken}
use Rattle.fm_world.specs.Programs.{Program, program_of}

-- So do classes with safe insertions and the classes that were given, whose program may be narrowed to the classes of closed sets.
abbrev pub SafeClassesDoAlike : Type 0
SafeClassesDoAlike =
    (given : List ClassDef) (main : List ℕ) → AreTaken given main → (p : Program) → IsProgramOf given main p → HasClosedSets p
    → (written : List ClassDef) (marks : Marks) → SafeOf p given written marks → DoAlike p (program_of written main) marks
