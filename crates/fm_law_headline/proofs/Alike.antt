-- Classes with safe insertions do alike, by the lockstep of their programs.
use Rattle.std.proofs.Common.{ℕ, List, sym, subst}
use Rattle.fm_code.specs.declared.class_file.ClassDef.{ClassDef}
use Rattle.fm_conn.specs.Facts.{AreFacts, Facts}
use Rattle.fm_law_headline.proofs.InStep.{do_alike}
use Rattle.fm_law_headline.proofs.NarrowedCells.{cells_narrowed}
use Rattle.fm_law_headline.specs.Alike.{SafeClassesDoAlike}
use Rattle.fm_law_headline.specs.InStep.{AreInStep, DoAlike}
use Rattle.fm_law_linked.specs.Cells.{CellsOfProgramsAreResolved}
use Rattle.fm_law_linked.specs.Laws.{ProgramsAreResolved}
use Rattle.fm_law_linked.specs.TwoMemories.{LinkedIsWithoutFrees}
use Rattle.fm_law_reached.specs.Reached.{HasClosedSets}
use Rattle.fm_law_lockstep.proofs.Paced.{balanced, keep_paces}
use Rattle.fm_law_lockstep.specs.Both.{Both}
use Rattle.fm_law_lockstep.specs.Composing.{LockstepsStep}
use Rattle.fm_law_lockstep.specs.Known.{IsLinked}
use Rattle.fm_law_lockstep.specs.Opening.{OpeningsAreTogether}
use Rattle.fm_law_lockstep.specs.Together.{GoTogetherIn, TogetherCostsSame}
use Rattle.fm_law_same_runs.specs.Beside.{Beside, FewAreInserted, InAllRuns, Marks, runs_of}
use Rattle.fm_law_same_runs.specs.Programs.{AreTaken}
use Rattle.fm_law_no_fault.specs.CellsResolved.{CellsAreResolved}
use Rattle.fm_law_sound.specs.Sound.{AreTyped}
use Rattle.fm_law_two_memories.specs.Runs.{IsWithoutFrees}
use Rattle.fm_law_unwoven.proofs.NarrowedLinks.{resolved_narrowed, typed_whole, without_narrowed}
use Rattle.fm_law_unwoven.specs.Runs.{FewAreInsertedInRuns}
use Rattle.fm_law_unwoven.specs.WovenFrom.{IsWovenFrom, SafeProgramsAreWoven}
use Rattle.fm_place.specs.Rewriting.{Plans}
use Rattle.fm_place.specs.Safe.{IsProgramOf}
use Rattle.fm_world.specs.Programs.{Program, program_of}
use Rattle.fm_same.proofs.DeadRuns.{facts_type}
use Rattle.fm_same.specs.Resolved.{IsResolved}

-- ---- two programs

-- both programs with the budgets of words of two runs
abbrev pub both_of : (one other : Program) → Facts → Plans → Marks → Beside → Both
both_of one other facts plans marks r = record {
  one = one;
  other = other;
  facts = facts;
  plans = plans;
  marks = marks;
  words = r.words;
  other_words = r.other_words;
}

-- their runs are in step at states that go together
pub woven_in_step : LockstepsStep → OpeningsAreTogether → TogetherCostsSame → (one other : Program) (facts : Facts) (plans : Plans) (marks : Marks)
    → IsWovenFrom one other facts plans marks → IsLinked one facts → InAllRuns one other marks FewAreInserted
    → InAllRuns one other marks (λ r. AreInStep r (GoTogetherIn (both_of one other facts plans marks r) r))
woven_in_step steps openings costs one other facts plans marks woven linked few job given count words other_words within other_within choose free has_words =
    let r : Beside = runs_of one other marks count words other_words job choose free in
    let b : Both = both_of one other facts plans marks r in
    record {
      paces =
          keep_paces b count job choose free (costs b woven linked) (steps b woven linked) (openings b woven linked within other_within) given.arguments
          has_words;
      few_inserted = few job given count words other_words within other_within choose free has_words;
      balanced = λ k l pace. balanced b (r.xs k).state (r.ys l).state pace.0;
    }

-- two programs, the second of which is the first one with safe insertions, do alike in all runs, where few inserted steps follow one another
abbrev pub WovenProgramsDoAlike : Type 0
WovenProgramsDoAlike =
    (one other : Program) (facts : Facts) (plans : Plans) (marks : Marks) → IsWovenFrom one other facts plans marks → IsLinked one facts
    → InAllRuns one other marks FewAreInserted → DoAlike one other marks

pub woven_alike : LockstepsStep → OpeningsAreTogether → TogetherCostsSame → WovenProgramsDoAlike
woven_alike steps openings costs one other facts plans marks woven linked few =
    do_alike one other marks (λ r. GoTogetherIn (both_of one other facts plans marks r) r)
    (woven_in_step steps openings costs one other facts plans marks woven linked few)

-- ---- classes

-- the typings of facts, of the program that isn't narrowed
pub typed_of : (given : List ClassDef) (main : List ℕ) (p : Program) → IsProgramOf given main p → (facts : Facts) → AreFacts p facts
    → AreTyped (program_of given main) facts.typing
typed_of given main p is facts exact =
    typed_whole (program_of given main) p.made facts.typing (subst (λ (r : Program). AreTyped r facts.typing) is (facts_type p facts exact))

module _ (resolved : ProgramsAreResolved) (cells : CellsOfProgramsAreResolved) (without : LinkedIsWithoutFrees) where
  pub are_linked : (given : List ClassDef) (main : List ℕ) → AreTaken given main → (p : Program) → IsProgramOf given main p → HasClosedSets p → (facts : Facts)
      → AreFacts p facts → IsLinked p facts
  are_linked given main taken p is closed facts exact =
      let whole : Program = program_of given main in
      record {
        exact = exact;
        resolved = subst IsResolved (sym is) (resolved_narrowed whole p.made (resolved given main taken.spelled taken.linked taken.few));
        cells = subst CellsAreResolved (sym is) (cells_narrowed whole p.made (cells given main taken.spelled taken.supported taken.linked taken.few));
        closed = closed;
        without =
            subst (λ (r : Program). IsWithoutFrees r facts.typing) (sym is)
            (without_narrowed whole p.made facts.typing
            (without given main taken.spelled taken.supported taken.linked taken.few facts.typing (typed_of given main p is facts exact) taken.no_free));
      }

  pub classes_alike : SafeProgramsAreWoven → FewAreInsertedInRuns → WovenProgramsDoAlike → SafeClassesDoAlike
  classes_alike woven few alike given main taken p is closed written marks safe =
      alike p (program_of written main) safe.facts safe.plans marks (woven given main taken p is written marks safe)
      (are_linked given main taken p is closed safe.facts safe.exact) (few given main taken p is written marks safe)
