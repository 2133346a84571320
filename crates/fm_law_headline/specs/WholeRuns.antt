-- Whole runs of two programs on memory that reuses cells, from what their steps do beside one another.
use Rattle.std.specs.Prelude.{ℕ, List}
use Rattle.fm_code.specs.declared.class_file.ClassDef.{ClassDef}
use Rattle.fm_law_sound.specs.Sound.{AreTyped, Typings}
use Rattle.fm_world.specs.Programs.{Program, program_of}
use Rattle.fm_law_headline.specs.Headline.{EndTheSame}
use Rattle.fm_law_same_runs.specs.Beside.{Marks, Same}
use Rattle.fm_law_same_runs.specs.Programs.{AreTaken, ProgramsEndTheSame, StepsAreMatched}

-- Where another program does the same as a typed one on memory that reuses cells, beside that one on memory that is never reused, whole runs of both on
-- memory that reuses cells end the same.
abbrev pub SameProgramsEndTheSame : Type 0
SameProgramsEndTheSame =
    (given : List ClassDef) (main : List ℕ) → AreTaken given main → (typings : Typings) → AreTyped (program_of given main) typings
    → (other : Program) (marks : Marks) → Same (program_of given main) other marks → EndTheSame (program_of given main) other

-- so whole runs of the classes written end the same, once their steps are matched
abbrev pub MatchedStepsGiveEnds : Type 0
MatchedStepsGiveEnds = StepsAreMatched → ProgramsEndTheSame
