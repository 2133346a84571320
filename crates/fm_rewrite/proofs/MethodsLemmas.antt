-- What is to be done with one method after the other.
use Rattle.std.proofs.Common.{◌≡◌, refl, sym, ◌∙◌, ap, subst, ℕ, ◌+◌, ◌<◌, ◌≤◌, ⊎_elim, Bool, List, [], ◌∷◌, ◌++◌, length, get_or, Result, Ok, Err, IfOk, Some, None, arith}
use Rattle.std.proofs.lemmas.Bool.{cases_lt}
use Rattle.std.proofs.lemmas.List.{get_or_append_left, get_or_push, length_push}
use Rattle.fm_code.specs.declared.code_array.Code.{Code}
use Rattle.fm_conn.specs.declared.summaries.Summaries.{Summaries}
use Rattle.fm_rewrite.specs.Plans.{IsPlanned, IsPlannedCode, IsPlannedIn, planned_at}
use Rattle.fm_place_weave.specs.declared.planned.Planned.{Planned}
use Rattle.fm_place_weave.specs.declared.planned.Planned.TheVariants as planned
use Rattle.fm_world.specs.Programs.{code_at, Program}

pub planned_with_code : {E : Type 0} (p : Program) (s : Summaries) (chains : Bool) (method : ℕ) (code : Code) → code_at p method ≡ Some code → (r : Result Planned E)
    → IfOk r (IsPlannedCode p s method code chains) → IfOk r (IsPlanned p s method chains)
planned_with_code p s chains method code is (Ok done) found = subst (λ o. IsPlannedIn p s method o chains done) (sym is) found
planned_with_code p s chains method code is (Err e) found = tt

pub planned_without_code : (p : Program) (s : Summaries) (chains : Bool) (method : ℕ) → code_at p method ≡ None → IsPlanned p s method chains planned.Same
planned_without_code p s chains method none = subst (λ o. IsPlannedIn p s method o chains planned.Same) (sym none) refl

-- one method more
pub planned_more : (p : Program) (s : Summaries) (chains : Bool) (n : ℕ) (before after : List Planned) (made : Planned) → length before ≡ n → after ≡ before ++ made ∷ []
    → ((k : ℕ) → k < n → IsPlanned p s k chains (planned_at before k)) → IsPlanned p s n chains made
    → (length after ≡ n + 1) × ((k : ℕ) → k < n + 1 → IsPlanned p s k chains (planned_at after k))
planned_more p s chains n before after made count more so_far now = (
  ap length more ∙ length_push before made ∙ ap (λ m. m + 1) count,
  λ k inside. ⊎_elim
      (λ (earlier : k < n).
      subst (IsPlanned p s k chains)
      (sym (ap (λ list. get_or list k planned.Same) more ∙ get_or_append_left before (made ∷ []) planned.Same k (omega (arith, count, earlier))))
      (so_far k earlier))
      (λ (last : n ≤ k).
      let same : k ≡ n = omega arith in
      subst (IsPlanned p s k chains) (sym (ap (λ list. get_or list k planned.Same) more ∙ get_or_push before made planned.Same k (count ∙ sym same)))
      (subst (λ m. IsPlanned p s m chains made) (sym same) now))
      (cases_lt k n),
)
