-- At an item one holder at most gets what it gave: each holder has a site of its own.
use Rattle.std.proofs.Common.{◌≡◌, ◌⊎◌, ℕ, ◌+◌, Bool, true, false, cond, inl, inr, List, [], ◌∷◌, map, Option, Some, None, refl, sym, ap, ◌∙◌, ⊎_elim}
use Rattle.std.specs.Prelude.{nat_eq}
use Rattle.std.specs.List.{AllByRecursion, IsDistinct}
use Rattle.std.proofs.lemmas.Bool.{cases_Bool, eq-eqb, eqb-true, false≢true}
use Rattle.fm_code.specs.declared.code_array.Code.{Code}
use Rattle.fm_conn.specs.Facts.{Facts}
use Rattle.fm_conn.specs.Links.{typed_method}
use Rattle.fm_law_same_runs.specs.Beside.{Marks}
use Rattle.fm_law_unwoven.specs.WovenFrom.{inserted_by, IsWovenFrom}
use Rattle.fm_place.specs.Insertions.{after_at, Holder, Insertions, numbers_of}
use Rattle.fm_place.specs.Rewriting.{Plans}
use Rattle.fm_place.specs.Safe.{IsSafeHolder}
use Rattle.fm_world.specs.Programs.{code_at, Program}

module _ (j : ℕ) where
  -- the holders of the item among these, numbered from here on
  abbrev numbers : ℕ → List Holder → List ℕ
  numbers number holders = numbers_of (λ h. nat_eq h.site j) number holders

  -- behind a holder of the item there is none of it
  none_more : (site number : ℕ) (holders : List Holder) → site ≡ j → AllByRecursion (λ other. nat_eq site other ≡ false) (map (λ (h : Holder). h.site) holders)
      → numbers number holders ≡ []
  none_more site number [] same apart = refl
  none_more site number (h ∷ holders) same apart =
      let fails : nat_eq h.site j ≡ false =
      ⊎_elim (λ yes. absurd (false≢true (sym apart.0 ∙ eq-eqb site h.site (same ∙ sym (eqb-true h.site j yes))))) (λ fails. fails) (cases_Bool (nat_eq h.site j)) in
      ap (λ b. cond b (number ∷ numbers (number + 1) holders) (numbers (number + 1) holders)) fails ∙ none_more site (number + 1) holders same apart.1

  one_at_most : (number : ℕ) (holders : List Holder) → IsDistinct nat_eq (map (λ (h : Holder). h.site) holders)
      → (numbers number holders ≡ []) ⊎ ((only : ℕ) × (numbers number holders ≡ only ∷ []))
  unfolding IsDistinct
  one_at_most number [] apart = inl refl
  one_at_most number (h ∷ holders) apart = by_test (nat_eq h.site j) refl (one_at_most (number + 1) holders apart.1) where
    by_test : (b : Bool) → nat_eq h.site j ≡ b → (numbers (number + 1) holders ≡ []) ⊎ ((only : ℕ) × (numbers (number + 1) holders ≡ only ∷ []))
        → (numbers number (h ∷ holders) ≡ []) ⊎ ((only : ℕ) × (numbers number (h ∷ holders) ≡ only ∷ []))
    by_test true passes later =
        inr (
          number,
          ap (λ b. cond b (number ∷ numbers (number + 1) holders) (numbers (number + 1) holders)) passes
              ∙ ap (λ xs. number ∷ xs) (none_more h.site (number + 1) holders (eqb-true h.site j passes) apart.0),
        )
    by_test false fails later =
        let here : numbers number (h ∷ holders) ≡ numbers (number + 1) holders =
        ap (λ b. cond b (number ∷ numbers (number + 1) holders) (numbers (number + 1) holders)) fails in
        ⊎_elim (λ none. inl (here ∙ none)) (λ one. inr (one.0, here ∙ one.1)) later

-- ---- a method's insertions

module _ (p q : Program) (facts : Facts) (plans : Plans) (marks : Marks) (from : IsWovenFrom p q facts plans marks) (method : ℕ) (code : Code)
    (code_is : code_at p method ≡ Some code) where
  one_kept_by : (o : Option Insertions) → plans method ≡ o → (j : ℕ)
      → (after_at (inserted_by o) j ≡ []) ⊎ ((only : ℕ) × (after_at (inserted_by o) j ≡ only ∷ []))
  one_kept_by None is j = inl refl
  one_kept_by (Some plan) is j = one_at_most j 0 plan.holders (from.safe method code plan code_is is).own_sites

  pub one_kept : (j : ℕ) → (after_at (inserted_by (plans method)) j ≡ []) ⊎ ((only : ℕ) × (after_at (inserted_by (plans method)) j ≡ only ∷ []))
  one_kept = one_kept_by (plans method) refl

  safe_by : (o : Option Insertions) → plans method ≡ o
      → AllByRecursion (IsSafeHolder facts (typed_method p facts.typing method code)) (inserted_by o).holders
  safe_by None is = tt
  safe_by (Some plan) is = (from.safe method code plan code_is is).holders

  -- all its holders are safe
  pub safe_holders : AllByRecursion (IsSafeHolder facts (typed_method p facts.typing method code)) (inserted_by (plans method)).holders
  safe_holders = safe_by (plans method) refl
