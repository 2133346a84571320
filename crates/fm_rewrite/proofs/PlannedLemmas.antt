-- What the plan of one method asks for is there.
use Rattle.std.proofs.Common.{◌≡◌, ℕ, ◌<◌, ◌^◌, Bool, false, List, [], replicate, Some, IfOk, Result, Ok, Err, refl, sym, subst, if◌then◌else◌}
use Rattle.fm_summ_shapes.proofs.ShapesLemmas.{code_facts}
use Rattle.fm_summ_shapes.specs.Analysed.{AreAnalysable}
use Rattle.std.specs.List.{AllByRecursion}
use Rattle.fm_chain.specs.Planned.{chain_flags, IsSiteIn}
use Rattle.fm_chain.specs.declared.plans.ChainPlan.{ChainPlan}
use Rattle.fm_code.specs.declared.code_array.Code.{Code}
use Rattle.fm_conn.specs.Classes.{class_of}
use Rattle.fm_conn.specs.Facts.{Facts}
use Rattle.fm_conn.specs.Shapes.{method_with}
use Rattle.fm_conn.specs.Summaries.{is_linked}
use Rattle.fm_conn.specs.declared.class_numbers.Classes.{Classes}
use Rattle.fm_conn.specs.declared.summaries.Summaries.{Summaries}
use Rattle.fm_flow.specs.LiveRows.{is_live}
use Rattle.fm_flow.specs.declared.live_rows.LiveRows.{LiveRows}
use Rattle.fm_place.specs.Insertions.{all_insertions}
use Rattle.fm_place.specs.PlansBy.{IsPlanOf}
use Rattle.fm_place.specs.declared.plans.Plan.{Plan}
use Rattle.fm_rewrite.proofs.FullPlanLemmas.{bytes_fit, has_room, sites_in}
use Rattle.fm_rewrite.specs.Plans.{HasOldItems, IsChainPlan, IsFullPlan}
use Rattle.fm_place_weave.specs.ByPlan.{narrow_by}
use Rattle.fm_place_weave.specs.Conditions.{HasRoom}
use Rattle.fm_world.specs.Programs.{code_at, Program}

-- facts that agree on a method with what is returned for it
abbrev told_facts : Summaries → LiveRows → Classes → Facts
told_facts summaries live classes = record {
  typing = λ method. [];
  linked = is_linked summaries;
  live = λ method local item. is_live live local item;
  class = λ method node. class_of classes node;
}

module _ (p : Program) (summaries : Summaries) (method : ℕ) (code : Code) (plan : Plan) (may : AreAnalysable p) (old : HasOldItems p)
    (is : code_at p method ≡ Some code) (full : IsFullPlan p summaries method code plan) where
  by_facts : IsPlanOf (all_insertions (told_facts summaries full.live full.classes) (method_with p method code full.states)) plan
  by_facts =
      full.plan_is (told_facts summaries full.live full.classes) (record { class = λ node. refl; lives = λ k j. refl }) (λ method a b. refl)

  pub full_room : (chains : Bool) (held : ChainPlan) → IsChainPlan code chains plan held → HasRoom code held
  full_room chains held same =
      let own = code_facts p method code may is in
      subst (HasRoom code) (sym same)
      (has_room (told_facts summaries full.live full.classes) (method_with p method code full.states) plan by_facts chains (old method code is) own.0.spelled
      own.1.locals)

  pub full_fits : (chains : Bool) (held : ChainPlan) → IsChainPlan code chains plan held → narrow_by code held < 2 ^ 32
  full_fits chains held same =
      let own = code_facts p method code may is in
      subst (λ (h : ChainPlan). narrow_by code h < 2 ^ 32) (sym same)
      (bytes_fit (told_facts summaries full.live full.classes) (method_with p method code full.states) plan by_facts chains (old method code is) own.0.spelled
      own.1.locals)

  -- its pairs are of items and holders
  pub full_sites : AllByRecursion (IsSiteIn code plan.holders) plan.after.items
  full_sites = sites_in (told_facts summaries full.live full.classes) (method_with p method code full.states) plan by_facts

-- a plan with these flags is the one that is asked for, with chains or without
pub plan_made : {E : Type 0} (code : Code) (chains : Bool) (plan : Plan) (answer : Result ChainPlan E) → IfOk answer (λ (made : ChainPlan). made.plan ≡ plan)
    → IfOk answer (λ (made : ChainPlan). made.looped ≡ (if chains then chain_flags code plan else replicate plan.holders false))
    → IfOk answer (IsChainPlan code chains plan)
plan_made code chains plan (Ok held) same flags = λ k. record { plan = same k; looped = flags k }
plan_made code chains plan (Err e) same flags = tt
