-- A plan with pairs that were checked is safe, by all facts that agree with what is known of the method.
use Rattle.std.proofs.Common.{◌≡◌, ◌≤◌, ℕ, IfOk, Result, Ok, Err, false, List, length, replicate, Some, None, sym, ap, ◌∙◌, refl, arith}
use Rattle.fm_chain.specs.declared.plans.ChainPlan.{ChainPlan}
use Rattle.fm_check.specs.Checking.{IsLeastTyping}
use Rattle.fm_code.specs.declared.code_array.Code.{Code}
use Rattle.fm_code.specs.declared.code_array.Item.{Item}
use Rattle.fm_conn.specs.Classes.{AreClassesOf}
use Rattle.fm_conn.specs.Facts.{Facts}
use Rattle.fm_conn.specs.Nodes.{TypedMethod}
use Rattle.fm_conn.specs.Summaries.{linked_by}
use Rattle.fm_conn.specs.declared.summaries.Summaries.{Summaries}
use Rattle.fm_flow.specs.LiveRows.{IsLiveRowsOf}
use Rattle.fm_place.proofs.PlanLemmas.{sites_told}
use Rattle.fm_place.specs.FactsBy.{facts_by}
use Rattle.fm_place.specs.PlansBy.{IsToldBy}
use Rattle.fm_place.specs.Sites.{sites_of}
use Rattle.fm_place.specs.declared.busy_rows.Seen.{Seen}
use Rattle.fm_place.specs.declared.found_sites.Site.{Site}
use Rattle.fm_place.specs.inner.PlanRows.{count_of, typed_seen}
use Rattle.fm_place_weave.specs.declared.planned.Planned.{Planned}
use Rattle.fm_place_weave.specs.declared.planned.Planned.TheVariants as planned
use Rattle.fm_types.specs.Typings.{states_of}
use Rattle.fm_audit.proofs.SafeLemmas.{are_safe, held_all}
use Rattle.fm_audit.proofs.WhollyLemmas.{wholly_listed}
use Rattle.fm_audit.proofs.WholeLemmas.{insertions-plain, insertions_by, whole as whole_plan}
use Rattle.fm_audit.specs.Parts.{failed_in, part_in, planned_of}
use Rattle.fm_audit.specs.Reading.{Read, read}
use Rattle.fm_audit.specs.SafeParts.{FailsPart, IsJudgedBy}
use Rattle.fm_audit.specs.SafePlans.{IsSafelyJudged}
use Rattle.fm_audit.specs.declared.parts.Part.{Part}
use Rattle.fm_audit.specs.declared.plans.Judged.{Judged}
use Rattle.fm_audit.specs.declared.plans.Judged.TheVariants as judged
use Rattle.fm_audit.specs.inner.Checked.{IsCheckedDone, IsCheckedPlan, IsJudgedDone, IsPartJudged, IsSafelyRead, IsWhollyDone, IsWovenBy, pairs_of}

-- what is judged of a method tells the least part that it fails
least_fails : (facts : Facts) (x : TypedMethod) (free : ℕ) (old : Code) (new : List Item) (j : Judged)
    → IsJudgedBy facts x free old new (failed_in j) (planned_of j) → FailsPart facts x free old new (part_in j)
least_fails facts x free old new (judged.Fails failed done) by = by
least_fails facts x free old new (judged.Safe planned.Same) by = (
  by.0,
  by.1,
  λ has. let some = has.some in let none : length by.0.starts ≡ 0 = ap length by.2 in omega (arith, some, none),
)
least_fails facts x free old new (judged.Safe (planned.Woven plan)) by = by
least_fails facts x free old new (judged.Safe (planned.TooLong bytes chains)) by = absurd by

module _ (s : Seen) (summaries : Summaries) (sites : List Site)
    (least : IsLeastTyping s.method.program.now s.method.number.0 (states_of s.method.typing.now))
    (live_are : IsLiveRowsOf s.method.code.now s.live.now) (classes_are : AreClassesOf (linked_by summaries) (typed_seen s) s.classes.now)
    (sites_are : sites ≡ sites_of (facts_by s.classes.now summaries) (typed_seen s)) (free : ℕ) (new : List Item) where
  -- where what is read is safe, the method is woven by it
  abbrev Wholly : Planned → Type 0
  Wholly done =
      (found : Read) (holders : ℕ) → read free s.method.code.now.max_locals s.method.code.now.items new ≡ Some found → IsSafelyRead s sites found holders
      → IsWovenBy found holders done

  abbrev Safely : Part → Planned → Type 0
  Safely failed done = IsSafelyJudged s.method.program.now summaries s.method.number.0 s.method.code.now free new failed done

  -- the method is judged by its least part that fails
  abbrev Partly : Part → Type 0
  Partly failed =
      length new ≤ 65535 → (facts : Facts) → IsToldBy facts s.method.number.0 s.classes.now s.live.now → sites ≡ sites_of facts (typed_seen s)
      → FailsPart facts (typed_seen s) free s.method.code.now new failed

  safe_plan : (failed : Part) (plan : ChainPlan) → IsCheckedPlan s sites plan.plan → plan.looped ≡ replicate plan.plan.holders false
      → Wholly (planned.Woven plan) → Partly failed → Safely failed (planned.Woven plan)
  safe_plan failed plan is flags whole parts = record {
    plan = record {
      states = states_of s.method.typing.now;
      live = s.live.now;
      classes = s.classes.now;
      least = least;
      live_are = live_are;
      classes_are = classes_are;
      insertions = Some (insertions_by is.checked.held is.listed.before (count_of s));
      listed =
          whole_plan sites (count_of s) (pairs_of plan.plan) is.checked.held is.listed (held_all s sites (pairs_of plan.plan) plan.plan.holders is.checked)
          is.checked.own s.method.code.now plan refl (sym is.checked.count) refl refl flags;
      safe = λ facts told linked.
          are_safe s facts sites (pairs_of plan.plan) plan.plan.holders told
          (sites_are ∙ sym (sites_told facts (typed_seen s) s.classes.now summaries told.class linked)) is.listed is.checked;
      plain = insertions-plain is.checked.held is.listed.before (count_of s);
      whole = λ facts told linked ins safe plain read_is.
          wholly_listed s facts sites told (sites_are ∙ sym (sites_told facts (typed_seen s) s.classes.now summaries told.class linked)) ins safe plain free new
          (planned.Woven plan) whole read_is;
    };
    judged = λ facts told linked few.
        parts few facts told (sites_are ∙ sym (sites_told facts (typed_seen s) s.classes.now summaries told.class linked));
  }

  safe_done : (failed : Part) (done : Planned) → IsCheckedDone s sites done → Wholly done → Partly failed → Safely failed done
  safe_done failed planned.Same is whole parts = record {
    plan = record {
      states = states_of s.method.typing.now;
      live = s.live.now;
      classes = s.classes.now;
      least = least;
      live_are = live_are;
      classes_are = classes_are;
      insertions = None;
      listed = tt;
      safe = λ facts told linked. tt;
      plain = tt;
      whole = λ facts told linked ins safe plain read_is.
          wholly_listed s facts sites told (sites_are ∙ sym (sites_told facts (typed_seen s) s.classes.now summaries told.class linked)) ins safe plain free new
          planned.Same whole read_is;
    };
    judged = λ facts told linked few.
        parts few facts told (sites_are ∙ sym (sites_told facts (typed_seen s) s.classes.now summaries told.class linked));
  }
  safe_done failed (planned.Woven plan) is whole parts = safe_plan failed plan is.0 is.1 whole parts
  safe_done failed (planned.TooLong bytes chains) is whole parts = absurd is

  -- the same of what the code returns
  pub safe_answers : {E : Type 0} (answer : Result Judged E) → IfOk answer (IsJudgedDone s sites) → IfOk answer (IsWhollyDone s sites free new)
      → IfOk answer (λ found. length new ≤ 65535 → IsPartJudged s sites free new found)
      → IfOk answer (λ found. IsSafelyJudged s.method.program.now summaries s.method.number.0 s.method.code.now free new (part_in found) (planned_of found))
  safe_answers (Ok found) is whole parts = safe_done (part_in found) (planned_of found) is whole
      (λ few facts told sites_same. least_fails facts (typed_seen s) free s.method.code.now new found (parts few facts told sites_same))
  safe_answers (Err e) is whole parts = tt
