-- Superclass chains one class after the other.
use Rattle.std.proofs.Common.{◌≡◌, refl, sym, ◌∙◌, ap, ℕ, zero, suc, ◌+◌, ◌-◌, ◌<◌, List, [], ◌∷◌, ◌++◌, Option, Some, None, arith, append_assoc}
use Rattle.std.proofs.lemmas.List.{append-nil}
use Rattle.fm_link_supers.specs.inner.ParentTable.{parent_at, upwards_by}

pub upwards_none : (bound : ℕ) (parents : List (Option ℕ)) → upwards_by bound parents None ≡ []
upwards_none zero parents = refl
upwards_none (suc bound) parents = refl

pub chain_end : (items all : List ℕ) (bound : ℕ) (parents : List (Option ℕ)) (next : Option ℕ) → next ≡ None → items ++ upwards_by bound parents next ≡ all → items ≡ all
chain_end items all bound parents next none left =
    sym (append-nil items) ∙ ap (λ more. items ++ more) (sym (ap (upwards_by bound parents) none ∙ upwards_none bound parents)) ∙ left

pub chain_step : (old new all : List ℕ) (end i : ℕ) (parents : List (Option ℕ)) (here next : Option ℕ) (class : ℕ) → i < end → here ≡ Some class → new ≡ old ++ class ∷ []
    → next ≡ parent_at parents class → old ++ upwards_by (end - i) parents here ≡ all → new ++ upwards_by (end - (i + 1)) parents next ≡ all
chain_step old new all end i parents here next class within is more parent left =
    let one : end - i ≡ suc (end - (i + 1)) = omega arith in
    ap (λ items. items ++ upwards_by (end - (i + 1)) parents next) more
    ∙ append_assoc old (class ∷ []) (upwards_by (end - (i + 1)) parents next)
    ∙ ap (λ o. old ++ class ∷ upwards_by (end - (i + 1)) parents o) parent
    ∙ sym (ap (λ o. old ++ upwards_by (end - i) parents o) is ∙ ap (λ bound. old ++ upwards_by bound parents (Some class)) one)
    ∙ left
