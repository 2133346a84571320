-- What classes with all held sites and all places do where holders of sites in loops hold chains: what the classes given do, and they free all that these sites gave.
use Rattle.std.specs.Prelude.{ℕ, List}
use Rattle.std.specs.List.{AllByRecursion}
use Rattle.fm_chain.specs.SafeChains.{FullChainsOf}
use Rattle.fm_code.specs.Profile.{IsSupported}
use Rattle.fm_code.specs.Spells.{HasSpelling}
use Rattle.fm_code.specs.declared.class_file.ClassDef.{ClassDef}
use Rattle.fm_law_chains.specs.FreesAll.{FreesAll}
use Rattle.fm_law_headline.specs.Headline.{DoesTheSame}
use Rattle.fm_law_reached.specs.Reached.{HasClosedSets}
use Rattle.fm_law_same_runs.specs.Beside.{Marks}
use Rattle.fm_law_same_runs.specs.Programs.{AreTaken}
use Rattle.fm_place.specs.Safe.{IsProgramOf}
use Rattle.fm_world.specs.Programs.{Program, program_of}

-- they do the same, also by the sites of a program that is narrowed to the classes of closed sets
abbrev pub ChainedClassesDoTheSame : Type 0
ChainedClassesDoTheSame =
    (given : List ClassDef) (main : List ℕ) → AreTaken given main → (p : Program) → IsProgramOf given main p → HasClosedSets p
    → (written : List ClassDef) (marks : Marks) → (full : FullChainsOf p given written marks)
    → AllByRecursion HasSpelling written → AllByRecursion IsSupported written → DoesTheSame p given main written marks full.facts

-- and they free all that sites in loops gave
abbrev pub ChainedClassesFreeAll : Type 0
ChainedClassesFreeAll =
    (given : List ClassDef) (main : List ℕ) → AreTaken given main → (p : Program) → IsProgramOf given main p → HasClosedSets p
    → (written : List ClassDef) (marks : Marks) → (full : FullChainsOf p given written marks)
    → FreesAll p (program_of given main) (program_of written main) full.facts marks
