-- The plans of all that can be inserted into the methods of a program, each by what the analysis
-- returns for its method.
use Rattle.std.specs.Prelude.{◌≡◌, ◌<◌, ℕ, Bool, false, List, length, replicate, Option, Some, None, if◌then◌else◌}
use Rattle.std.specs.List.{AllByRecursion, slice_index_or}
use Rattle.fm_summ_shapes.specs.Analysed.{AreAnalysable, AreLeastTypings}
use Rattle.fm_check.specs.Checking.{IsLeastTyping, IsNarrow}
use Rattle.fm_code.specs.Edges.{MeetsCodeRules}
use Rattle.fm_code.specs.Fits.{FitsTwo}
use Rattle.fm_code.specs.Spells.{HasSpelling}
use Rattle.fm_code.specs.declared.class_file.ClassDef.{ClassDef}
use Rattle.fm_code.specs.declared.code_array.Code.{Code}
use Rattle.fm_conn.specs.Classes.{AreClassesOf}
use Rattle.fm_conn.specs.Facts.{AreFacts, Facts}
use Rattle.fm_conn.specs.Links.{typed_method}
use Rattle.fm_conn.specs.Nodes.{TypedMethod}
use Rattle.fm_conn.specs.Shapes.{method_with}
use Rattle.fm_conn.specs.Summaries.{is_linked, linked_by}
use Rattle.fm_conn.specs.declared.class_numbers.Classes.{Classes}
use Rattle.fm_conn.specs.declared.ends.End2.{End2}
use Rattle.fm_conn.specs.declared.summaries.Summaries.{Summaries}
use Rattle.fm_flow.specs.LiveRows.{IsLiveRowsOf}
use Rattle.fm_flow.specs.declared.live_rows.LiveRows.{LiveRows}
use Rattle.fm_layout.specs.Conditions.{AreOldItems}
use Rattle.fm_place.specs.Insertions.{all_insertions, Insertions}
use Rattle.fm_place.specs.PlansBy.{IsPlanOf, IsToldBy}
use Rattle.fm_place.specs.declared.plans.Plan.{Plan}
use Rattle.fm_chain.specs.Planned.{chain_flags}
use Rattle.fm_chain.specs.SafeChains.{with_loops}
use Rattle.fm_chain.specs.declared.calls.Calls.{Calls}
use Rattle.fm_chain.specs.declared.plans.ChainPlan.{ChainPlan}
use Rattle.fm_types.specs.States.{TypeState}
use Rattle.fm_place_weave.specs.ByPlan.{planned_by}
use Rattle.fm_place_weave.specs.Conditions.{MayBeWoven}
use Rattle.fm_place_weave.specs.declared.planned.Planned.{Planned}
use Rattle.fm_place_weave.specs.declared.planned.Planned.TheVariants as planned
use Rattle.fm_world.specs.Members.{methods_of}
use Rattle.fm_world.specs.Programs.{code_at, Program, program_of}

-- ---- codes

-- the codes of a program are made of items that can be laid out again
abbrev pub HasOldItems : Program → Type 0
HasOldItems p = (method : ℕ) (code : Code) → code_at p method ≡ Some code → AreOldItems code.items

-- those of a program of class files are
abbrev pub ProgramsHaveOldItems : Type 0
ProgramsHaveOldItems =
    (given : List ClassDef) (main : List ℕ) → AllByRecursion HasSpelling given → AreAnalysable (program_of given main) → HasOldItems (program_of given main)

-- ---- plans

-- the facts link the ends that the summaries link
abbrev pub LinkAlike : Facts → Summaries → Type 0
LinkAlike facts summaries = (method : ℕ) (a b : End2) → facts.linked method a b ≡ is_linked summaries method a b

-- The plan of all that can be inserted into a method with this code: by a least typing, by its live
-- locals, and by its classes as the summaries link the ends of methods, the same by all facts that
-- agree with these on the method.
pub record IsFullPlan (p : Program) (summaries : Summaries) (method : ℕ) (code : Code) (plan : Plan) : Type 0 where
  pub states : List (Option TypeState)
  pub live : LiveRows
  pub classes : Classes
  pub least : IsLeastTyping p method states
  pub live_are : IsLiveRowsOf code live
  pub classes_are : AreClassesOf (linked_by summaries) (method_with p method code states) classes
  pub plan_is : (facts : Facts) → IsToldBy facts method classes live → LinkAlike facts summaries
      → IsPlanOf (all_insertions facts (method_with p method code states)) plan

-- the plan, with `chains` with a chain for each holder of a site in a loop
abbrev pub IsChainPlan : Code → (chains : Bool) → Plan → ChainPlan → Type 0
IsChainPlan code chains plan held =
    held ≡ record { plan = plan; looped = if chains then chain_flags code plan else replicate plan.holders false }

-- the insertions, with `chains` with a chain for each holder of a site in a loop
abbrev pub inserted_for : (chains : Bool) → Code → Insertions → Insertions
inserted_for chains code insertions = if chains then with_loops code insertions else insertions

-- the indices of three entries fit instructions
pub record CallsFit (calls : Calls) : Type 0 where
  pub free : FitsTwo calls.free
  pub link : FitsTwo calls.link
  pub free_chain : FitsTwo calls.free_chain

-- where a site is held, the method may be woven by this plan, with chains or without, by whichever entries
abbrev pub FullPlansMayBeWoven : Type 0
FullPlansMayBeWoven =
    (calls : Calls) (facts : Facts) (x : TypedMethod) (plan : Plan) (chains : Bool) (held : ChainPlan) → CallsFit calls → AreOldItems x.code.items
    → MeetsCodeRules x.code → IsNarrow x.code → IsPlanOf (all_insertions facts x) plan → IsChainPlan x.code chains plan held → 0 < plan.holders
    → MayBeWoven calls x.code held

-- ---- what is to be done

-- with a method that has this code, by its plan
pub record IsPlannedCode (p : Program) (summaries : Summaries) (method : ℕ) (code : Code) (chains : Bool) (planned : Planned) : Type 0 where
  pub plan : Plan
  pub plan_is : IsFullPlan p summaries method code plan
  pub held : ChainPlan
  pub held_is : IsChainPlan code chains plan held
  pub planned_is : planned ≡ planned_by code held

-- with one that may have code
abbrev pub IsPlannedIn : Program → Summaries → ℕ → Option Code → (chains : Bool) → Planned → Type 0
IsPlannedIn p summaries method None chains done = done ≡ planned.Same
IsPlannedIn p summaries method (Some code) chains done = IsPlannedCode p summaries method code chains done

-- what is to be done with a method of the program
abbrev pub IsPlanned : Program → Summaries → ℕ → (chains : Bool) → Planned → Type 0
IsPlanned p summaries method chains done = IsPlannedIn p summaries method (code_at p method) chains done

-- with a method by its number
abbrev pub planned_at : List Planned → ℕ → Planned
planned_at done method = slice_index_or done method planned.Same

-- with each method of a program
pub record ArePlannedBy (p : Program) (summaries : Summaries) (chains : Bool) (done : List Planned) : Type 0 where
  pub one_each : length done ≡ length (methods_of p.outline.classes)
  pub each : (method : ℕ) → method < length done → IsPlanned p summaries method chains (planned_at done method)

-- ---- by the facts of a whole program

-- what is to be done with a method that has this code: by the plan of all that can be inserted
pub record IsPlannedByFacts (p : Program) (facts : Facts) (method : ℕ) (code : Code) (chains : Bool) (done : Planned) : Type 0 where
  pub plan : Plan
  pub plan_is : IsPlanOf (all_insertions facts (typed_method p facts.typing method code)) plan
  pub held : ChainPlan
  pub held_is : IsChainPlan code chains plan held
  pub planned_is : done ≡ planned_by code held

-- with each method of a program, by its facts, whose typings are least ones
pub record ArePlanned (p : Program) (chains : Bool) (done : List Planned) : Type 0 where
  pub facts : Facts
  pub exact : AreFacts p facts
  pub least : AreLeastTypings p facts.typing
  pub one_each : length done ≡ length (methods_of p.outline.classes)
  pub coded : (method : ℕ) (code : Code) → code_at p method ≡ Some code → IsPlannedByFacts p facts method code chains (planned_at done method)
  pub others : (method : ℕ) → code_at p method ≡ None → planned_at done method ≡ planned.Same
