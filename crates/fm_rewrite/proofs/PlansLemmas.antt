-- The plan of one method.
use Rattle.std.proofs.Common.{◌≡◌, ℕ, IfOk, Result, Ok, Err, List, Option, sym, ◌∙◌}
use Rattle.fm_check.specs.Checking.{IsLeastTyping}
use Rattle.fm_code.specs.declared.code_array.Code.{Code}
use Rattle.fm_conn.specs.Classes.{AreClassesOf}
use Rattle.fm_conn.specs.Facts.{Facts}
use Rattle.fm_conn.specs.Shapes.{method_with}
use Rattle.fm_conn.specs.Summaries.{linked_by}
use Rattle.fm_conn.specs.declared.class_numbers.Classes.{Classes}
use Rattle.fm_conn.specs.declared.summaries.Summaries.{Summaries}
use Rattle.fm_flow.specs.LiveRows.{IsLiveRowsOf}
use Rattle.fm_flow.specs.declared.live_rows.LiveRows.{LiveRows}
use Rattle.fm_place.proofs.PlanLemmas.{sites_told}
use Rattle.fm_place.specs.FactsBy.{facts_by}
use Rattle.fm_place.specs.Insertions.{all_insertions}
use Rattle.fm_place.specs.PlansBy.{IsPlanOf, IsToldBy}
use Rattle.fm_place.specs.Sites.{sites_of}
use Rattle.fm_place.specs.declared.found_sites.Site.{Site}
use Rattle.fm_place.specs.declared.plans.Plan.{Plan}
use Rattle.fm_rewrite.specs.Plans.{IsFullPlan}
use Rattle.fm_types.specs.States.{TypeState}
use Rattle.fm_world.specs.Programs.{Program}

module _ (p : Program) (summaries : Summaries) (method : ℕ) (code : Code) (states : List (Option TypeState)) (live : LiveRows) (classes : Classes) where
  -- the plan of the sites that are found by the summaries is that of the sites by all facts that
  -- agree with them
  pub full_plan_is : {E : Type 0} → IsLeastTyping p method states → IsLiveRowsOf code live
      → AreClassesOf (linked_by summaries) (method_with p method code states) classes → (sites : List Site)
      → sites ≡ sites_of (facts_by classes summaries) (method_with p method code states) → (answer : Result Plan E)
      → ((facts : Facts) → IsToldBy facts method classes live → sites ≡ sites_of facts (method_with p method code states)
      → IfOk answer (IsPlanOf (all_insertions facts (method_with p method code states))))
      → IfOk answer (IsFullPlan p summaries method code)
  full_plan_is least live_are classes_are sites found (Ok plan) each = record {
    states = states;
    live = live;
    classes = classes;
    least = least;
    live_are = live_are;
    classes_are = classes_are;
    plan_is = λ facts told linked.
        each facts told (found ∙ sym (sites_told facts (method_with p method code states) classes summaries told.class linked));
  }
  full_plan_is least live_are classes_are sites found (Err e) each = tt
