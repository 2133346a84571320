-- What is to be done with one method after the other, and what follows for the program.
use Rattle.std.proofs.Common.{◌≡◌, refl, sym, ◌∙◌, ap, subst, ℕ, ◌+◌, ◌<◌, ◌≤◌, ⊎_elim, List, [], ◌∷◌, ◌++◌, length, get_or, Result, Ok, Err, IfOk, Option, Some, None, arith}
use Rattle.std.proofs.lemmas.Bool.{cases_lt}
use Rattle.std.proofs.lemmas.List.{get_or_append_left, get_or_past, get_or_push, length_push}
use Rattle.std.proofs.lemmas.Option.{none-some}
use Rattle.fm_code.specs.declared.code_array.Code.{Code}
use Rattle.fm_code.specs.declared.code_array.Item.{Item}
use Rattle.fm_conn.specs.Links.{Typings}
use Rattle.fm_conn.specs.declared.summaries.Summaries.{Summaries}
use Rattle.fm_place_weave.specs.declared.planned.Planned.{Planned}
use Rattle.fm_place_weave.specs.declared.planned.Planned.TheVariants as planned
use Rattle.fm_rewrite.specs.Plans.{planned_at}
use Rattle.fm_summ.specs.Exact.{AreExact}
use Rattle.fm_summ_shapes.proofs.ShapesLemmas.{code_facts}
use Rattle.fm_summ_shapes.specs.Analysed.{AreAnalysable, AreLeastTypings}
use Rattle.fm_world.specs.Programs.{code_at, Program}
use Rattle.fm_audit.proofs.ProgramFactsLemmas.{are_facts, are_judged, are_listed, are_whole, facts, insertions_in, least_typings, plans, safe_methods}
use Rattle.fm_audit.specs.NewCodes.{new_free_of, new_items_of, StaysAt, StaysIn}
use Rattle.fm_audit.specs.Parts.{part_in, planned_of}
use Rattle.fm_audit.specs.SafeMethods.{AreSafelyJudged, AreSafelyPlanned, failing_at, IsSafelyJudgedAt, IsSafelyJudgedIn}
use Rattle.fm_audit.specs.SafePlans.{IsSafelyJudged}
use Rattle.fm_audit.specs.declared.parts.Part.{Part}
use Rattle.fm_audit.specs.declared.parts.Part.TheVariants as part
use Rattle.fm_audit.specs.declared.methods.JudgedMethods.{JudgedMethods}
use Rattle.fm_audit.specs.declared.methods.NewCode.{NewCode}
use Rattle.fm_audit.specs.declared.plans.Judged.{Judged}

-- ---- one method

pub safe_with_code : {E : Type 0} (p : Program) (s : Summaries) (method : ℕ) (code : Code) (free : ℕ) (new : List Item) → code_at p method ≡ Some code
    → (r : Result Judged E) → IfOk r (λ found. IsSafelyJudged p s method code free new (part_in found) (planned_of found))
    → IfOk r (λ found. IsSafelyJudgedAt p s method free new (part_in found) (planned_of found))
safe_with_code p s method code free new is (Ok found) are = subst (λ o. IsSafelyJudgedIn p s method o free new (part_in found) (planned_of found)) (sym is) are
safe_with_code p s method code free new is (Err e) are = tt

pub safe_without_code : (p : Program) (s : Summaries) (method free : ℕ) (new : List Item) (failed : Part) → code_at p method ≡ None
    → IsSafelyJudgedAt p s method free new failed planned.Same
safe_without_code p s method free new failed none = subst (λ o. IsSafelyJudgedIn p s method o free new failed planned.Same) (sym none) refl

-- the same of what stays as it is
pub stays_with_code : {E : Type 0} (p : Program) (method : ℕ) (code : Code) (new : List Item) → code_at p method ≡ Some code
    → (r : Result Judged E) → IfOk r (λ found. StaysIn (Some code) new (planned_of found)) → IfOk r (λ found. StaysAt p method new (planned_of found))
stays_with_code p method code new is (Ok found) stays = subst (λ o. StaysIn o new (planned_of found)) (sym is) stays
stays_with_code p method code new is (Err e) stays = tt

pub stays_without_code : (p : Program) (method : ℕ) (new : List Item) → code_at p method ≡ None → StaysAt p method new planned.Same
stays_without_code p method new none = subst (λ o. StaysIn o new planned.Same) (sym none) tt

-- ---- one method more

-- the same element as before, or the last one
entry_more : {X : Type 0} (P : X → Type 0) (none : X) (n k : ℕ) (before after : List X) (made : X) → length before ≡ n → after ≡ before ++ made ∷ []
    → k < n → P (get_or before k none) → P (get_or after k none)
entry_more P none n k before after made count more earlier is =
    subst P (sym (ap (λ list. get_or list k none) more ∙ get_or_append_left before (made ∷ []) none k (omega (arith, count, earlier)))) is

entry_last : {X : Type 0} (P : X → Type 0) (none : X) (n k : ℕ) (before after : List X) (made : X) → length before ≡ n → after ≡ before ++ made ∷ []
    → k ≡ n → P made → P (get_or after k none)
entry_last P none n k before after made count more same is =
    subst P (sym (ap (λ list. get_or list k none) more ∙ get_or_push before made none k (count ∙ sym same))) is

pub each_more : (P : ℕ → Part → Planned → Type 0) (n : ℕ) (failed failing : List Part) (before after : List Planned) (own : Part)
    (made : Planned) → length failed ≡ n → length before ≡ n → failing ≡ failed ++ own ∷ [] → after ≡ before ++ made ∷ []
    → ((k : ℕ) → k < n → P k (failing_at failed k) (planned_at before k)) → P n own made
    → (length failing ≡ n + 1) × (length after ≡ n + 1) × ((k : ℕ) → k < n + 1 → P k (failing_at failing k) (planned_at after k))
each_more P n failed failing before after own made count count_done more_failing more so_far now = (
  ap length more_failing ∙ length_push failed own ∙ ap (λ m. m + 1) count,
  ap length more ∙ length_push before made ∙ ap (λ m. m + 1) count_done,
  λ k inside. ⊎_elim
      (λ (earlier : k < n).
      entry_more (λ o. P k o (planned_at after k)) part.Layout n k failed failing own count more_failing earlier
      (entry_more (P k (failing_at failed k)) planned.Same n k before after made count_done more earlier (so_far k earlier)))
      (λ (last : n ≤ k).
      let same : k ≡ n = omega arith in
      entry_last (λ o. P k o (planned_at after k)) part.Layout n k failed failing own count more_failing same
      (entry_last (P k own) planned.Same n k before after made count_done more same (subst (λ m. P m own made) (sym same) now)))
      (cases_lt k n),
)

-- ---- all methods

module _ (p : Program) (s : Summaries) (new : List NewCode) (failing : List Part) (done : List Planned) (may : AreAnalysable p)
    (are : AreSafelyPlanned p s new failing done) where
  past : (method : ℕ) → length done ≤ method → (o : Option Code) → code_at p method ≡ o → code_at p method ≡ None
  past method beyond None is = is
  past method beyond (Some code) is = absurd (let inside = (code_facts p method code may is).0.inside in omega (arith, inside, are.one_each, beyond))

  all : (method : ℕ) → IsSafelyJudgedAt p s method (new_free_of p new method) (new_items_of p new method) (failing_at failing method) (planned_at done method)
  all method = ⊎_elim
      (λ (inside : method < length done). are.each method inside)
      (λ (beyond : length done ≤ method).
      subst (IsSafelyJudgedAt p s method (new_free_of p new method) (new_items_of p new method) (failing_at failing method)) (sym (get_or_past done method planned.Same beyond))
      (safe_without_code p s method (new_free_of p new method) (new_items_of p new method) (failing_at failing method) (past method beyond (code_at p method) refl)))
      (cases_lt method (length done))

  known : (method : ℕ) (code : Code) → code_at p method ≡ Some code
      → IsSafelyJudged p s method code (new_free_of p new method) (new_items_of p new method) (failing_at failing method) (planned_at done method)
  known method code is = subst (λ o. IsSafelyJudgedIn p s method o (new_free_of p new method) (new_items_of p new method) (failing_at failing method) (planned_at done method)) is (all method)

  none_in : (method : ℕ) (o : Option Code) (is : code_at p method ≡ o) → o ≡ None
      → insertions_in p s (new_free_of p new) (new_items_of p new) (failing_at failing) (planned_at done) known method o is ≡ None
  none_in method None is none = refl
  none_in method (Some code) is none = absurd (none-some code (sym none))

  pub are_inserted : (typings : Typings) → AreLeastTypings p typings → AreExact p typings s → AreSafelyJudged p new failing done
  are_inserted typings least exact = record {
    safe = record {
      facts = facts p s (new_free_of p new) (new_items_of p new) (failing_at failing) (planned_at done) known;
      exact = are_facts p s (new_free_of p new) (new_items_of p new) (failing_at failing) (planned_at done) known typings least exact;
      least = least_typings p s (new_free_of p new) (new_items_of p new) (failing_at failing) (planned_at done) known;
      plans = plans p s (new_free_of p new) (new_items_of p new) (failing_at failing) (planned_at done) known;
      methods = safe_methods p s (new_free_of p new) (new_items_of p new) (failing_at failing) (planned_at done) known;
      one_each = are.one_each;
      listed = are_listed p s (new_free_of p new) (new_items_of p new) (failing_at failing) (planned_at done) known;
      others = λ method none. (
        none_in method (code_at p method) refl none,
        subst (λ o. IsSafelyJudgedIn p s method o (new_free_of p new method) (new_items_of p new method) (failing_at failing method) (planned_at done method)) none (all method),
      );
      whole = are_whole p s (new_free_of p new) (new_items_of p new) (failing_at failing) (planned_at done) known;
    };
    judged = are_judged p s (new_free_of p new) (new_items_of p new) (failing_at failing) (planned_at done) known;
  }

-- the same of what the code returns
pub inserted_answers : {E : Type 0} (p : Program) (s : Summaries) (new : List NewCode) → AreAnalysable p → (typings : Typings) → AreLeastTypings p typings
    → AreExact p typings s → (r : Result JudgedMethods E) → IfOk r (λ (found : JudgedMethods). AreSafelyPlanned p s new found.failing.items found.planned.items)
    → IfOk r (λ (found : JudgedMethods). AreSafelyJudged p new found.failing.items found.planned.items)
inserted_answers p s new may typings least exact (Ok found) is = are_inserted p s new found.failing.items found.planned.items may is typings least exact
inserted_answers p s new may typings least exact (Err e) is = tt
