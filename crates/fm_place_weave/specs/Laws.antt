-- What the words on plans have to do with the definitions of what is inserted.
use Rattle.std.specs.Prelude.{◌≡◌, ◌+◌, ◌<◌, ◌≤◌, length}
use Rattle.fm_base.specs.declared.limits.TheConstants.{MAX_STACK_WORDS}
use Rattle.fm_chain.specs.Chained.{anchors_of, chained, chained_code}
use Rattle.fm_chain.specs.Laws.{CallsSuit}
use Rattle.fm_chain.specs.Planned.{added_words, IsChainPlanOf}
use Rattle.fm_chain.specs.declared.calls.Calls.{Calls}
use Rattle.fm_chain.specs.declared.plans.ChainPlan.{ChainPlan}
use Rattle.fm_code.specs.Edges.{MeetsCodeRules}
use Rattle.fm_code.specs.declared.code_array.Code.{Code}
use Rattle.fm_layout.specs.Conditions.{AreOldItems}
use Rattle.fm_layout.specs.Laid.{narrow_length}
use Rattle.fm_layout.specs.declared.laying.TheConstants.{MAX_NEW_ITEMS}
use Rattle.fm_place.specs.Insertions.{Insertions}
use Rattle.fm_place_weave.specs.ByPlan.{anchors_by, code_by, items_by, narrow_by}
use Rattle.fm_place_weave.specs.Conditions.{MayBeWoven}

-- the plan is that of these insertions, which have an entry for each item
pub record IsWholePlan (code : Code) (ins : Insertions) (plan : ChainPlan) : Type 0 where
  pub plan_is : IsChainPlanOf ins plan
  pub whole : length ins.before ≡ length code.items

-- by its plan a method becomes what it becomes by the insertions
pub record IsWovenAlike (calls : Calls) (code : Code) (ins : Insertions) (plan : ChainPlan) : Type 0 where
  pub anchors : anchors_by code plan ≡ anchors_of ins code.items
  pub items : items_by calls code plan ≡ chained calls code ins
  pub code_is : code_by calls code plan ≡ chained_code calls code ins

-- what is woven by the plan of insertions is what the definitions insert
abbrev pub PlansAreInsertions : Type 0
PlansAreInsertions = (calls : Calls) (code : Code) (ins : Insertions) (plan : ChainPlan) → IsWholePlan code ins plan → IsWovenAlike calls code ins plan

-- what suits a method may be woven, as long as there is room on its stack and the bytes of its new items can be counted
abbrev pub PlansMayBeWoven : Type 0
PlansMayBeWoven =
    (calls : Calls) (code : Code) (ins : Insertions) (plan : ChainPlan) → IsWholePlan code ins plan → AreOldItems code.items → MeetsCodeRules code
    → code.max_stack + added_words plan ≤ MAX_STACK_WORDS → CallsSuit calls code ins → length (chained calls code ins) < MAX_NEW_ITEMS → MayBeWoven calls code plan

-- the bytes that are counted from a plan are those of its new items, whatever the indices of the methods are
abbrev pub BytesAreCounted : Type 0
BytesAreCounted = (calls : Calls) (code : Code) (plan : ChainPlan) → narrow_by code plan ≡ narrow_length code.items (items_by calls code plan)
