-- In matched states what the second run lacks was retired, so all else has another cell.
use Rattle.fm_cells.specs.Choices.{lawful, never_choice}
use Rattle.fm_law_lockstep.proofs.AheadHeld.{CatchLaws}
use Rattle.fm_law_lockstep.proofs.CatchUp.{programs_catch_up}
use Rattle.fm_law_lockstep.proofs.Histories.{HistoryLaws, IsPaceSince, keep_paces_since}
use Rattle.fm_law_lockstep.proofs.Renamed.{missing_renamed}
use Rattle.fm_law_lockstep.specs.Both.{Both}
use Rattle.fm_law_lockstep.specs.Composing.{LockstepsStep}
use Rattle.fm_law_lockstep.specs.Known.{IsLinked, StepsStayKnown}
use Rattle.fm_law_lockstep.specs.Limits.{ShallowStepsCost}
use Rattle.fm_law_lockstep.specs.Opening.{OpeningsAreTogether}
use Rattle.fm_law_lockstep.specs.Renamed.{MatchedAreRenamed}
use Rattle.fm_law_lockstep.specs.Stepping.{KeptStepsGoTogether}
use Rattle.fm_law_lockstep.specs.Together.{TogetherCostsSame}
use Rattle.fm_law_same_runs.proofs.Openings.{runs_go}
use Rattle.fm_law_same_runs.proofs.Paces.{matches_keep_pace}
use Rattle.fm_law_same_runs.specs.Beside.{Beside, runs_of}
use Rattle.fm_law_same_runs.specs.Renaming.{WasRetired}
use Rattle.fm_law_unwoven.specs.WovenFrom.{IsWovenFrom}
use Rattle.fm_same.specs.Laws.{SitesMakeBusy}

-- the laws of steps, each for itself
pub record RetiringLaws : Type 0 where
  pub kept_go : KeptStepsGoTogether
  pub known_on : StepsStayKnown
  pub step_costs : ShallowStepsCost
  pub ahead : CatchLaws
  pub busy : SitesMakeBusy
  pub costs : TogetherCostsSame
  pub steps : LockstepsStep
  pub openings : OpeningsAreTogether

history_laws : RetiringLaws → (b : Both) → IsWovenFrom b.one b.other b.facts b.plans b.marks → IsLinked b.one b.facts → HistoryLaws b
history_laws laws b from linked = record {
  going = record {
    kept_go = laws.kept_go;
    known_on = laws.known_on;
    costs = laws.step_costs;
    catch_up = programs_catch_up laws.ahead b from linked;
    ahead = laws.ahead;
  };
  busy = laws.busy;
}

pub matched_are_renamed : RetiringLaws → MatchedAreRenamed
matched_are_renamed laws b from linked few other_few steps job choose free fits has_words k l matched =
    let r : Beside = runs_of b.one b.other b.marks steps b.words b.other_words job choose free in
    let own = history_laws laws b from linked in
    let paces = keep_paces_since b from linked own steps job choose free (laws.costs b from linked) (laws.steps b from linked)
    (laws.openings b from linked few other_few) fits has_words in
    let pace = matches_keep_pace r (lawful never_choice) (lawful choose) (runs_go b.one b.other b.marks steps b.words b.other_words job choose free) has_words
    (IsPaceSince b from linked own steps job choose free) paces k l matched in
    missing_renamed b (r.xs k).state (r.ys l).state pace.0.0 (WasRetired b.facts r k) pace.1.1
