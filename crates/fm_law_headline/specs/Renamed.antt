-- What classes with safe insertions keep in their cells, beside those that were given: the program of these may be narrowed to the classes of closed sets.
use Rattle.std.specs.Prelude.{ℕ, List}
use Rattle.fm_code.specs.declared.class_file.ClassDef.{ClassDef}
use Rattle.fm_law_headline.specs.Headline.{AreRenamedInRuns}
use Rattle.fm_law_reached.specs.Reached.{HasClosedSets}
use Rattle.fm_law_same_runs.specs.Beside.{AreMatched, InAllRuns, Marks}
use Rattle.fm_law_same_runs.specs.Programs.{AreTaken}
use Rattle.fm_law_same_runs.specs.Renaming.{StatesAreRenamed}
use Rattle.fm_place.specs.Safe.{IsProgramOf, SafeOf}
use Rattle.fm_world.specs.Programs.{Program, program_of}

-- in matched states what is reached is the same under other cells
abbrev pub SafeClassesAreRenamed : Type 0
SafeClassesAreRenamed =
    (given : List ClassDef) (main : List ℕ) → AreTaken given main → (p : Program) → IsProgramOf given main p → HasClosedSets p
    → (written : List ClassDef) (marks : Marks) (safe : SafeOf p given written marks) → AreRenamedInRuns p (program_of written main) safe.facts marks

-- and so is what isn't retired by the facts of the insertions
abbrev pub ObjectsAreRenamed : Type 0
ObjectsAreRenamed =
    (given : List ClassDef) (main : List ℕ) → AreTaken given main → (p : Program) → IsProgramOf given main p → HasClosedSets p
    → (written : List ClassDef) (marks : Marks) (safe : SafeOf p given written marks)
    → InAllRuns p (program_of written main) marks (λ b. (k l : ℕ) → AreMatched b k l → StatesAreRenamed safe.facts b k l)
