-- What is reached is the same under other cells in all matched states.
use Rattle.fm_cells.specs.Choices.{lawful, never_choice}
use Rattle.fm_law_headline.proofs.Alike.{are_linked, both_of, woven_in_step}
use Rattle.fm_law_headline.proofs.InStep.{step_matched}
use Rattle.fm_law_headline.specs.Renamed.{ObjectsAreRenamed, SafeClassesAreRenamed}
use Rattle.fm_law_linked.specs.Cells.{CellsOfProgramsAreResolved}
use Rattle.fm_law_linked.specs.Laws.{ProgramsAreResolved}
use Rattle.fm_law_linked.specs.TwoMemories.{LinkedIsWithoutFrees}
use Rattle.fm_law_lockstep.specs.Both.{Both}
use Rattle.fm_law_lockstep.specs.Composing.{LockstepsStep}
use Rattle.fm_law_lockstep.specs.Opening.{OpeningsAreTogether}
use Rattle.fm_law_lockstep.specs.Reaching.{ReachedIsRenamed}
use Rattle.fm_law_lockstep.specs.Renamed.{MatchedAreRenamed, TogetherIsRenamed}
use Rattle.fm_law_lockstep.specs.Together.{GoTogetherIn, TogetherCostsSame}
use Rattle.fm_law_same_runs.proofs.Openings.{runs_go}
use Rattle.fm_law_same_runs.specs.Beside.{Beside, FewAreInserted, InAllRuns, Marks, runs_of}
use Rattle.fm_law_unwoven.specs.Runs.{FewAreInsertedInRuns}
use Rattle.fm_law_unwoven.specs.WovenFrom.{IsWovenFrom, SafeProgramsAreWoven}
use Rattle.fm_world.specs.Programs.{Program, program_of}
use Rattle.fm_conn.specs.Facts.{Facts}
use Rattle.fm_law_lockstep.specs.Known.{IsLinked}
use Rattle.fm_law_headline.specs.Headline.{AreRenamedInRuns}
use Rattle.fm_place.specs.Rewriting.{Plans}

-- what a program reaches is the same in the same program with safe insertions, under other cells
abbrev pub WovenProgramsAreRenamed : Type 0
WovenProgramsAreRenamed =
    (one other : Program) (facts : Facts) (plans : Plans) (marks : Marks) → IsWovenFrom one other facts plans marks → IsLinked one facts
    → InAllRuns one other marks FewAreInserted → AreRenamedInRuns one other facts marks

-- what holds of states that go together holds of matched ones
pub woven_renamed : LockstepsStep → OpeningsAreTogether → TogetherCostsSame → TogetherIsRenamed → WovenProgramsAreRenamed
woven_renamed steps openings costs renamed one other facts plans marks woven linked few job given count words other_words within other_within choose free has_words =
    let r : Beside = runs_of one other marks count words other_words job choose free in
    let b : Both = both_of one other facts plans marks r in
    step_matched r (lawful never_choice) (lawful choose) (runs_go one other marks count words other_words job choose free) has_words (GoTogetherIn b r)
    (woven_in_step steps openings costs one other facts plans marks woven linked few job given count words other_words within other_within choose free has_words)
    (ReachedIsRenamed facts r) (λ k l pace. renamed b (r.xs k).state (r.ys l).state pace.0)

pub classes_renamed : ProgramsAreResolved → CellsOfProgramsAreResolved → LinkedIsWithoutFrees → SafeProgramsAreWoven → FewAreInsertedInRuns
    → WovenProgramsAreRenamed → SafeClassesAreRenamed
classes_renamed resolved cells without woven few renamed given main taken p is closed written marks safe =
    renamed p (program_of written main) safe.facts safe.plans marks (woven given main taken p is written marks safe)
    (are_linked resolved cells without given main taken p is closed safe.facts safe.exact) (few given main taken p is written marks safe)

-- what isn't retired is the same, too
pub objects_renamed : ProgramsAreResolved → CellsOfProgramsAreResolved → LinkedIsWithoutFrees → SafeProgramsAreWoven → MatchedAreRenamed → ObjectsAreRenamed
objects_renamed resolved cells without woven matched given main taken p is closed written marks safe job fits count words other_words within other_within choose free has_words =
    let other = program_of written main in
    matched (both_of p other safe.facts safe.plans marks (runs_of p other marks count words other_words job choose free))
    (woven given main taken p is written marks safe) (are_linked resolved cells without given main taken p is closed safe.facts safe.exact) within other_within count job choose free fits.arguments has_words
