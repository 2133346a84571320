-- The plans by which methods are changed safely, whoever wrote them.
use Rattle.std.specs.Prelude.{◌≡◌, ◌≤◌, ℕ, List, length, Option, Some, None, IfSome, ⊤}
use Rattle.std.specs.List.{range_with_len}
use Rattle.fm_check.specs.Checking.{IsLeastTyping}
use Rattle.fm_code.specs.declared.code_array.Code.{Code}
use Rattle.fm_code.specs.declared.code_array.Item.{Item}
use Rattle.fm_conn.specs.Classes.{AreClassesOf}
use Rattle.fm_conn.specs.Facts.{Facts}
use Rattle.fm_conn.specs.Shapes.{method_with}
use Rattle.fm_conn.specs.Summaries.{linked_by}
use Rattle.fm_conn.specs.declared.class_numbers.Classes.{Classes}
use Rattle.fm_conn.specs.declared.summaries.Summaries.{Summaries}
use Rattle.fm_flow.specs.LiveRows.{IsLiveRowsOf}
use Rattle.fm_flow.specs.declared.live_rows.LiveRows.{LiveRows}
use Rattle.fm_place.specs.Insertions.{Insertions}
use Rattle.fm_place.specs.PlansBy.{IsToldBy}
use Rattle.fm_place.specs.Safe.{AreSafe, HoldsNoChain}
use Rattle.fm_place.specs.declared.plans.Plan.{Plan}
use Rattle.fm_place_weave.specs.Laws.{IsWholePlan}
use Rattle.fm_place_weave.specs.declared.planned.Planned.{Planned}
use Rattle.fm_place_weave.specs.declared.planned.Planned.TheVariants as planned
use Rattle.fm_rewrite.specs.Plans.{LinkAlike}
use Rattle.fm_types.specs.States.{TypeState}
use Rattle.fm_world.specs.Programs.{Program}
use Rattle.fm_audit.specs.ReadBack.{read_by}
use Rattle.fm_audit.specs.Reading.{Read, read}
use Rattle.fm_audit.specs.SafeParts.{FailsPart}
use Rattle.fm_audit.specs.declared.parts.Part.{Part}

-- what the pairs of a plan are read from: as many holders are null at the start, in the order of their numbers
abbrev pub read_of : Plan → Read
read_of plan = record { starts = range_with_len 0 plan.holders; pairs = record { before = plan.before.items; after = plan.after.items } }

-- where a method with this code is woven by a plan, its new items are read exactly as this plan
abbrev pub IsReadAs : (free : ℕ) → Code → (new : List Item) → Planned → Type 0
IsReadAs free code new planned.Same = ⊤
IsReadAs free code new (planned.Woven plan) = read free code.max_locals code.items new ≡ Some (read_of plan.plan)
IsReadAs free code new (planned.TooLong bytes chains) = ⊥

-- nothing is inserted and the method stays as it is, or it is woven by the plan that lists these insertions
abbrev pub IsListedIn : Code → Option Insertions → Planned → Type 0
IsListedIn code None planned.Same = ⊤
IsListedIn code (Some insertions) (planned.Woven plan) = IsWholePlan code insertions plan
IsListedIn code o done = ⊥

-- What is to be done with a method that has this code is to insert what is safe, or nothing: by a least typing, by its live locals, and by its classes as the
-- summaries link the ends of methods, the same by all facts that agree with these on the method. Where its new items are read as insertions that are safe, it
-- is woven by these.
pub record IsSafelyPlanned (p : Program) (summaries : Summaries) (method : ℕ) (code : Code) (free : ℕ) (new : List Item) (done : Planned) : Type 0 where
  pub states : List (Option TypeState)
  pub live : LiveRows
  pub classes : Classes
  pub least : IsLeastTyping p method states
  pub live_are : IsLiveRowsOf code live
  pub classes_are : AreClassesOf (linked_by summaries) (method_with p method code states) classes
  pub insertions : Option Insertions
  pub listed : IsListedIn code insertions done
  pub safe : (facts : Facts) → IsToldBy facts method classes live → LinkAlike facts summaries
      → IfSome insertions (AreSafe facts (method_with p method code states))
  pub plain : IfSome insertions HoldsNoChain
  pub whole : (facts : Facts) → IsToldBy facts method classes live → LinkAlike facts summaries
      → (ins : Insertions) → AreSafe facts (method_with p method code states) ins → HoldsNoChain ins
      → read free code.max_locals code.items new ≡ Some (read_by code ins) → IsListedIn code (Some ins) done

-- The same, and by all such facts this is the least part that the method fails if its new code isn't as it has to be, where it has as many new items as there
-- may be.
pub record IsSafelyJudged (p : Program) (summaries : Summaries) (method : ℕ) (code : Code) (free : ℕ) (new : List Item) (failed : Part)
    (done : Planned) : Type 0 where
  pub plan : IsSafelyPlanned p summaries method code free new done
  pub judged : (facts : Facts) → IsToldBy facts method plan.classes plan.live → LinkAlike facts summaries → length new ≤ 65535
      → FailsPart facts (method_with p method code plan.states) free code new failed
