-- The parts of the headline make the whole: full insertions are safe, and the classes written link, so that the machine can run them.
use Rattle.std.proofs.Common.{◌≡◌, refl, sym, ◌∙◌, ap, subst, ℕ, suc, ◌+◌, ◌≤◌, List, [], ◌∷◌, length, Some}
use Rattle.std.specs.List.{AllByRecursion}
use Rattle.fm_base.specs.declared.limits.TheConstants.{MAX_CLASS_FILES}
use Rattle.fm_code.specs.Profile.{IsSupported}
use Rattle.fm_code.specs.Spells.{HasSpelling}
use Rattle.fm_code.specs.declared.class_file.ClassDef.{ClassDef}
use Rattle.fm_conn.specs.Facts.{AreFacts, Facts}
use Rattle.fm_place.specs.Rewriting.{first_given, Plans, rewritten_from}
use Rattle.fm_place.specs.Safe.{FullOf, IsProgramOf, SafeOf}
use Rattle.fm_rapid.specs.Reach.{narrowed}
use Rattle.fm_law_can_step.specs.Ready.{CanRun}
use Rattle.fm_law_cells_made.specs.MostHeld.{MadeIsMostHeld}
use Rattle.fm_law_headline.proofs.Alike.{typed_of}
use Rattle.fm_law_headline.specs.Alike.{SafeClassesDoAlike}
use Rattle.fm_law_headline.proofs.BesideNarrowed.{alike_whole, objects_whole, reached_whole}
use Rattle.fm_law_headline.specs.Headline.{AreRenamedInRuns, ClassesDoTheSame, DoesTheSame, HoldersStayClear, NarrowedClassesDoTheSame}
use Rattle.fm_law_headline.specs.InStep.{DoAlike}
use Rattle.fm_law_headline.specs.Renamed.{ObjectsAreRenamed, SafeClassesAreRenamed}
use Rattle.fm_law_headline.specs.WholeRuns.{SameProgramsEndTheSame}
use Rattle.fm_law_linked.specs.Laws.{ProgramsCanRun}
use Rattle.fm_law_relinked.specs.Again.{SafeClassesLink}
use Rattle.fm_law_reached.proofs.Closed.{closed_narrowed}
use Rattle.fm_law_reached.specs.Reached.{HasClosedSets}
use Rattle.fm_law_same_runs.specs.Beside.{AreMatched, InAllRuns, Marks}
use Rattle.fm_law_same_runs.specs.Programs.{AreTaken, HoldersAreCleared}
use Rattle.fm_law_same_runs.specs.Renaming.{StatesAreRenamed}
use Rattle.fm_law_unwoven.proofs.ClearedPrograms.{safe_of}
use Rattle.fm_world.specs.Programs.{Program, program_of}

-- as many classes are written as are given
as_many : (plans : Plans) (first : ℕ) (given : List ClassDef) → length (rewritten_from plans first given) ≡ length given
as_many plans first [] = refl
as_many plans first (c ∷ given) = ap suc (as_many plans (first + length c.methods) given)

-- no program of class files is narrowed
pub whole_sets : (given : List ClassDef) (main : List ℕ) → HasClosedSets (program_of given main)
unfolding program_of
whole_sets given main = tt

-- ---- what programs do beside one another makes the record

module _ (made : MadeIsMostHeld) (ends : SameProgramsEndTheSame) (given : List ClassDef) (main : List ℕ) (taken : AreTaken given main)
    (p : Program) (is : IsProgramOf given main p) (written : List ClassDef) (marks : Marks) (facts : Facts) where
  abbrev whole : Program
  whole = program_of given main

  abbrev other : Program
  other = program_of written main

  -- what holds of a program that may be narrowed holds of the one that isn't
  both : DoAlike p other marks → DoAlike whole other marks
  both alike = alike_whole whole other p.made marks (subst (λ (r : Program). DoAlike r other marks) is alike)

  reached : AreRenamedInRuns p other facts marks → AreRenamedInRuns whole other facts marks
  reached each = reached_whole whole other p.made marks facts (subst (λ (r : Program). AreRenamedInRuns r other facts marks) is each)

  renamed : InAllRuns p other marks (λ b. (k l : ℕ) → AreMatched b k l → StatesAreRenamed facts b k l)
      → InAllRuns whole other marks (λ b. (k l : ℕ) → AreMatched b k l → StatesAreRenamed facts b k l)
  renamed each =
      objects_whole whole other p.made marks facts
      (subst (λ (r : Program). InAllRuns r other marks (λ b. (k l : ℕ) → AreMatched b k l → StatesAreRenamed facts b k l)) is each)

  pub make_the_record : AreFacts p facts → DoAlike p other marks → AreRenamedInRuns p other facts marks
      → InAllRuns p other marks (λ b. (k l : ℕ) → AreMatched b k l → StatesAreRenamed facts b k l) → HoldersStayClear p other facts marks → CanRun other
      → DoesTheSame p given main written marks facts
  make_the_record exact alike reach rename cleared can_run = record {
    same = (both alike).same;
    faultless = (both alike).faultless;
    renamed = renamed rename;
    reached = reached reach;
    balanced = (both alike).balanced;
    cleared = cleared;
    most_held = made other can_run;
    ends = ends given main taken facts.typing (typed_of given main p is facts exact) other marks (both alike).same;
  }

-- ---- without chains

module _ (links : SafeClassesLink) (can_run : ProgramsCanRun) (made : MadeIsMostHeld) (ends : SameProgramsEndTheSame) (cleared : HoldersAreCleared)
    (alike : SafeClassesDoAlike) (reach : SafeClassesAreRenamed) (rename : ObjectsAreRenamed) where
  written_can_run : (given : List ClassDef) (main : List ℕ) → AreTaken given main → (p : Program) (written : List ClassDef) (marks : Marks)
      → SafeOf p given written marks → AllByRecursion HasSpelling written → AllByRecursion IsSupported written → CanRun (program_of written main)
  written_can_run given main taken p written marks safe spelled supported =
      can_run written main spelled supported (links given main p written marks taken.spelled taken.linked safe).links
      (subst (λ n. n ≤ MAX_CLASS_FILES)
      (sym (ap (λ (classes : List ClassDef). length classes) safe.written_is ∙ as_many safe.plans first_given given)) taken.few)

  -- by the program of the classes given, which may be narrowed
  programs_same : (given : List ClassDef) (main : List ℕ) → AreTaken given main → (p : Program) → IsProgramOf given main p → HasClosedSets p
      → (written : List ClassDef) (marks : Marks) (full : FullOf p given written marks) → AllByRecursion HasSpelling written
      → AllByRecursion IsSupported written → DoesTheSame p given main written marks full.facts
  unfolding safe_of
  programs_same given main taken p is closed written marks full spelled supported =
      let safe : SafeOf p given written marks = safe_of p given written marks full in
      make_the_record made ends given main taken p is written marks full.facts full.exact (alike given main taken p is closed written marks safe)
      (reach given main taken p is closed written marks safe) (rename given main taken p is closed written marks safe)
      (cleared given main taken p is written marks full) (written_can_run given main taken p written marks safe spelled supported)

  pub the_same : ClassesDoTheSame
  the_same given main taken written marks full =
      programs_same given main taken (program_of given main) refl (whole_sets given main) written marks full

  pub narrowed_same : NarrowedClassesDoTheSame
  narrowed_same given main taken methods set closed written marks full =
      programs_same given main taken (narrowed (program_of given main) set) refl
      (methods, closed_narrowed (program_of given main) (Some set) methods set closed) written marks full
