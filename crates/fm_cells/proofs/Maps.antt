-- Sums over the values of a finite map whose keys are numbers.
use Rattle.std.proofs.Common.{length, ◌≡◌, ℕ, ◌+◌, cond, List, [], ◌∷◌, refl, sym, ◌∙◌, ap, map, arith}
use Rattle.std.specs.Prelude.{Some, None}
use Rattle.std.proofs.lemmas.Bool.Decides.{nat_tests}
use Rattle.std.specs.List.{sum_by}
use Rattle.std.specs.Ordering.{nat_cmp, is_eq}
use Rattle.std.specs.declared.cmp.Ordering.TheVariants.{Less, Equal, Greater}
use Rattle.std.specs.Cmp.{nat_cmp_total}
use Rattle.std.specs.FinMap as fin
use Rattle.std.specs.FinMap.{FinMap, find, put, gets}
use Rattle.std.specs.FinMap.Entries.{by_order}
use Rattle.std.proofs.lemmas.List.Sums.{sum_by-cons}

no_entries : {X : Type 0} (es : List (ℕ × X)) → length es ≡ 0 → es ≡ []
no_entries [] h = refl
no_entries (e ∷ es) h = absurd (omega arith)

module _ {X : Type 0} (f : X → ℕ) where
  sum-put : (k : ℕ) (v : X) (es : List (ℕ × X)) → find nat_cmp k es ≡ None → sum_by f (map (λ e. e.1) (put nat_cmp k v es)) ≡ sum_by f (map (λ e. e.1) es) + f v
  sum-put k v [] none = refl
  sum-put k v (e ∷ es) none =
      elim (nat_cmp k e.0) as (λ r. cond (is_eq r) (Some e.1) (find nat_cmp k es) ≡ None → sum_by f (map (λ e. e.1) (by_order r ((k, v) ∷ e ∷ es) ((e.0, v) ∷ es) (e ∷ put nat_cmp k v es))) ≡ sum_by f (map (λ e. e.1) (e ∷ es)) + f v) [
        | Less ↦ λ _. omega (arith, sum_by-cons f v (map (λ e. e.1) (e ∷ es)))
        | Equal ↦ λ h. cc
        | Greater ↦ λ h. omega (arith, sum-put k v es h, sum_by-cons f e.1 (map (λ e. e.1) es), sum_by-cons f e.1 (map (λ e. e.1) (put nat_cmp k v es)))
      ] none

  -- the sum of f over the values
  abbrev pub total : FinMap nat_cmp X → ℕ
  total m = sum_by f (fin.values m)

  -- the sum of no values is 0
  pub total-empty : total fin.empty ≡ 0
  total-empty =
      let none : fin.entries fin.empty ≡ [] = no_entries (fin.entries (fin.empty {X = X} {R = nat_cmp})) (sym (fin.len-entries fin.empty) ∙ fin.len-empty nat_cmp X) in
      ap (λ es. sum_by f (map (λ e. e.1) es)) none

  -- a new key adds its value
  pub total-insert_new : (m : FinMap nat_cmp X) (k : ℕ) (v : X) → fin.get m k ≡ None → total (fin.insert m k v) ≡ total m + f v
  total-insert_new m k v none =
      ap (λ es. sum_by f (map (λ e. e.1) es)) (fin.entries-insert nat_cmp_total m k v)
      ∙ sum-put k v (fin.entries m) (sym (fin.get-entries m k) ∙ none)

  -- a key that is removed takes its value away
  pub total-remove : (m : FinMap nat_cmp X) (k : ℕ) (v : X) → fin.get m k ≡ Some v → total (fin.remove m k) + f v ≡ total m
  total-remove m k v held =
      let back : fin.insert (fin.remove m k) k v ≡ m = fin.same_map nat_cmp_total fin.nat_cmp-IsAntisymmetric _ _ (λ q. grind (arith, gets, nat_tests)) in
      let gone : fin.get (fin.remove m k) k ≡ None = grind (arith, gets, nat_tests) in
      sym (total-insert_new (fin.remove m k) k v gone) ∙ ap total back

  -- a key that is held changes its value
  pub total-insert_held : (m : FinMap nat_cmp X) (k : ℕ) (old new : X) → fin.get m k ≡ Some old → total (fin.insert m k new) + f old ≡ total m + f new
  total-insert_held m k old new held =
      let same : fin.insert (fin.remove m k) k new ≡ fin.insert m k new = fin.same_map nat_cmp_total fin.nat_cmp-IsAntisymmetric _ _ (λ q. grind (arith, gets, nat_tests)) in
      let gone : fin.get (fin.remove m k) k ≡ None = grind (arith, gets, nat_tests) in
      omega (arith, ap total same, total-insert_new (fin.remove m k) k new gone, total-remove m k old held)
