-- Elements of lists, and of lists of lists of which one has an element more.
use Rattle.std.proofs.Common.{◌≡◌, ℕ, ◌+◌, ◌<◌, ◌⊎◌, true, List, [], ◌∷◌, ◌++◌, length, set, get_or, Option, Some, None, Contains, sym, ◌∙◌, ap, subst, inl, inr, ⊎_elim, nat_eq, eq-eqb, eqb-true, nat_lt, IfSome}
use Rattle.std.specs.Global.{Vec}
use Rattle.std.specs.Option.{option_map}
use Rattle.std.proofs.lemmas.Bool.{cases_eq, ltb-true}
use Rattle.std.proofs.lemmas.List.{get_or-map, get_or-set_same, get_or-set_other, map-set}
use Rattle.std.proofs.lemmas.List.Elements.{Contains-append_left, Contains-push, Contains-push_cases}
use Rattle.std.proofs.lemmas.List.Folds.{list_any_at}
use Rattle.fm_base.proofs.ContainsFacts.{any-found}
use Rattle.fm_flow.specs.inner.LiveWalks.{list_of}
use Rattle.fm_rapid.specs.inner.Walks.{with_one}
use Rattle.fm_summ.specs.inner.Callers.{lists_of}
use Rattle.fm_world.specs.Chains.{is_among}

-- ---- numbers that a test finds

pub among-from_Contains : (x : ℕ) (xs : List ℕ) → Contains xs x → is_among x xs ≡ true
among-from_Contains x xs (k, inside, there) = list_any_at (nat_eq x) xs k x inside (eq-eqb x (get_or xs k x) (sym there))

pub Contains-from_among : (x : ℕ) (xs : List ℕ) → is_among x xs ≡ true → Contains xs x
Contains-from_among x xs found =
    let y = any-found (nat_eq x) xs found in
    subst (λ (n : ℕ). Contains xs n) (sym (eqb-true x y.0 y.2)) y.1

-- ---- a list of which there is one for each number

pub with_one-listed : (lists : List (List ℕ)) (k x : ℕ) → k < length lists → Contains (list_of (with_one lists k x) k) x
with_one-listed lists k x inside =
    subst (λ (xs : List ℕ). Contains xs x) (sym (get_or-set_same lists k (list_of lists k ++ x ∷ []) [] inside)) (Contains-push (list_of lists k) x)

pub with_one-kept : (lists : List (List ℕ)) (k x : ℕ) → k < length lists → (j y : ℕ) → Contains (list_of lists j) y → Contains (list_of (with_one lists k x) j) y
with_one-kept lists k x inside j y found = ⊎_elim
    (λ (same : j ≡ k).
    subst (λ (n : ℕ). Contains (list_of (with_one lists k x) n) y) (sym same)
    (subst (λ (xs : List ℕ). Contains xs y) (sym (get_or-set_same lists k (list_of lists k ++ x ∷ []) [] inside))
    (Contains-append_left (list_of lists k) (x ∷ []) y (subst (λ (n : ℕ). Contains (list_of lists n) y) same found))))
    (λ apart. subst (λ (xs : List ℕ). Contains xs y) (sym (get_or-set_other lists k j (list_of lists k ++ x ∷ []) [] apart)) found)
    (cases_eq j k)

pub with_one-from : (lists : List (List ℕ)) (k x : ℕ) → k < length lists → (j y : ℕ) → Contains (list_of (with_one lists k x) j) y
    → Contains (list_of lists j) y ⊎ ((j ≡ k) × (y ≡ x))
with_one-from lists k x inside j y found = ⊎_elim
    (λ (same : j ≡ k).
    let here = subst (λ (xs : List ℕ). Contains xs y) (get_or-set_same lists k (list_of lists k ++ x ∷ []) [] inside)
    (subst (λ (n : ℕ). Contains (list_of (with_one lists k x) n) y) same found) in
    ⊎_elim (λ was. inl (subst (λ (n : ℕ). Contains (list_of lists n) y) (sym same) was)) (λ (one : x ≡ y). inr (same, sym one))
    (Contains-push_cases (list_of lists k) x y here))
    (λ apart. inl (subst (λ (xs : List ℕ). Contains xs y) (get_or-set_other lists k j (list_of lists k ++ x ∷ []) [] apart) found))
    (cases_eq j k)

-- the same where the lists lie in memory
pub pushed_at : (lists : List (Vec ℕ)) (k x : ℕ) (was now : Vec ℕ) → k < length lists → was ≡ get_or lists k was → now.items ≡ was.items ++ x ∷ []
    → lists_of (set lists k now) ≡ with_one (lists_of lists) k x
pushed_at lists k x was now inside is more =
    map-set (λ (list : Vec ℕ). list.items) lists k now
    ∙ ap (set (lists_of lists) k)
    (more ∙ ap (λ list. list ++ x ∷ []) (ap (λ (list : Vec ℕ). list.items) is ∙ sym (get_or-map (λ (list : Vec ℕ). list.items) lists k was [] inside)))

-- an element that is read at a place
pub listed_there : (xs : List ℕ) (k : ℕ) (x : ℕ) → true ≡ nat_lt k (length xs) → x ≡ get_or xs k x → Contains xs x
listed_there xs k x inside is = (k, ltb-true k (length xs) (sym inside), sym is)

-- ---- options

pub option_at : {X : Type 0} (P : X → Type 0) (o : Option X) (x : X) → o ≡ Some x → IfSome o P → P x
option_at P o x is holds = subst (λ (v : Option _). IfSome v P) is holds

pub option_from : {X : Type 0} (P : X → Type 0) (o : Option X) (x : X) → o ≡ Some x → P x → IfSome o P
option_from P o x is holds = subst (λ (v : Option _). IfSome v P) (sym is) holds

pub option_none : {X : Type 0} (P : X → Type 0) (o : Option X) → o ≡ None → IfSome o P
option_none P o is = subst (λ (v : Option _). IfSome v P) (sym is) tt

-- a fact of the number of what there may be
pub option_numbered : {X : Type 0} (number : X → ℕ) (P : ℕ → Type 0) (o : Option X) (n : Option ℕ) → option_map number o ≡ n
    → IfSome n P → IfSome o (λ x. P (number x))
option_numbered number P None n is holds = tt
option_numbered number P (Some x) n is holds = subst (λ (v : Option ℕ). IfSome v P) (sym is) holds

pub option_unnumbered : {X : Type 0} (number : X → ℕ) (P : ℕ → Type 0) (o : Option X) (n : Option ℕ) → option_map number o ≡ n
    → IfSome o (λ x. P (number x)) → IfSome n P
option_unnumbered number P None n is holds = subst (λ (v : Option ℕ). IfSome v P) is tt
option_unnumbered number P (Some x) n is holds = subst (λ (v : Option ℕ). IfSome v P) is holds
