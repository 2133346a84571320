-- Numbers that are put into lists by index, one number after the other.
use Rattle.std.proofs.Common.{◌≡◌, ◌≢◌, ℕ, ◌+◌, ◌<◌, ◌⊎◌, ◌↔◌, List, [], ◌∷◌, ◌++◌, length, take, replicate, get_or, set, Contains, refl, inl, inr, ⊎_elim, sym, ◌∙◌, subst, arith, length-set}
use Rattle.std.proofs.lemmas.Bool.{cases_lt, cases_eq}
use Rattle.std.proofs.lemmas.List.{get_or-set_same, get_or-set_other, get_or-replicate, length-replicate}
use Rattle.std.proofs.lemmas.List.Elements.{Contains-append_left, Contains-push, Contains-push_cases}
use Rattle.fm_flow.proofs.RisingLemmas.{Contains-take_more}
use Rattle.fm_flow.specs.inner.LiveWalks.{list_of, AddsToEach, AreListsBy}

pub AddsToEach-none : (j : ℕ) (sources : List (List ℕ)) → AddsToEach [] j sources sources
AddsToEach-none j sources = record {
  same_length = refl;
  members = λ end s. (λ found. inl found, λ either. ⊎_elim (λ found. found) (λ (none : Contains [] end × (s ≡ j)). absurd (let inside = none.0.1 in omega arith)) either);
}

-- one end more
pub AddsToEach-more : (ends : List ℕ) (i j : ℕ) (old mid : List (List ℕ)) (new : List ℕ) → i < length ends → get_or ends i 0 < length mid →
    AddsToEach (take i ends) j old mid → new ≡ list_of mid (get_or ends i 0) ++ j ∷ [] → AddsToEach (take (i + 1) ends) j old (set mid (get_or ends i 0) new)
AddsToEach-more ends i j old mid new inside in_lists so_far is =
    let at = get_or ends i 0 in
    let now = set mid at new in
    let more : (x : ℕ) → Contains (take (i + 1) ends) x ↔ (Contains (take i ends) x ⊎ (at ≡ x)) = λ x. Contains-take_more ends i x inside in
    let here : list_of now at ≡ list_of mid at ++ j ∷ [] = get_or-set_same mid at new [] in_lists ∙ is in
    record {
      same_length = length-set mid at new ∙ so_far.same_length;
      members = λ end s. (
        λ found.
            ⊎_elim
            (λ (same : end ≡ at).
            let found_here : Contains (list_of mid at ++ j ∷ []) s = subst (λ (xs : List ℕ). Contains xs s) here (subst (λ (n : ℕ). Contains (list_of now n) s) same found) in
            ⊎_elim
            (λ was. ⊎_elim (λ before. inl before) (λ added. inr ((more end).1 (inl added.0), added.1))
            ((so_far.members end s).0 (subst (λ (n : ℕ). Contains (list_of mid n) s) (sym same) was)))
            (λ (is_j : j ≡ s). inr ((more end).1 (inr (sym same)), sym is_j))
            (Contains-push_cases (list_of mid at) j s found_here))
            (λ (apart : end ≢ at).
            let was : Contains (list_of mid end) s = subst (λ (xs : List ℕ). Contains xs s) (get_or-set_other mid at end new [] apart) found in
            ⊎_elim (λ before. inl before) (λ added. inr ((more end).1 (inl added.0), added.1)) ((so_far.members end s).0 was))
            (cases_eq end at),
        λ either.
            let kept : Contains (list_of mid end) s → Contains (list_of now end) s = λ was.
            ⊎_elim
            (λ (same : end ≡ at).
            subst (λ (n : ℕ). Contains (list_of now n) s) (sym same)
            (subst (λ (xs : List ℕ). Contains xs s) (sym here) (Contains-append_left (list_of mid at) (j ∷ []) s (subst (λ (n : ℕ). Contains (list_of mid n) s) same was))))
            (λ (apart : end ≢ at). subst (λ (xs : List ℕ). Contains xs s) (sym (get_or-set_other mid at end new [] apart)) was)
            (cases_eq end at) in
            ⊎_elim (λ before. kept ((so_far.members end s).1 (inl before)))
            (λ (added : Contains (take (i + 1) ends) end × (s ≡ j)).
            ⊎_elim (λ earlier. kept ((so_far.members end s).1 (inr (earlier, added.1))))
            (λ (same : at ≡ end).
            subst (λ (n : ℕ). Contains (list_of now n) s) same
            (subst (λ (xs : List ℕ). Contains xs s) (sym here)
            (subst (λ (n : ℕ). Contains (list_of mid at ++ j ∷ []) n) (sym added.1) (Contains-push (list_of mid at) j))))
            ((more end).0 added.0))
            either,
      );
    }

-- the numbers below j that are related to each index
pub record Listing (n : ℕ) (R : ℕ → ℕ → Type 0) (lists : List (List ℕ)) (j : ℕ) : Type 0 where
  pub one_each : length lists ≡ n
  pub each : (k x : ℕ) → k < n → Contains (list_of lists k) x ↔ ((x < j) × R k x)

none_listed : (n k x : ℕ) → k < n → Contains (list_of (replicate n []) k) x → ⊥
none_listed n k x below found =
    let none : Contains [] x = subst (λ (xs : List ℕ). Contains xs x) (get_or-replicate n k [] [] below) found in
    let inside = none.1 in omega arith

pub Listing-none : (n : ℕ) (R : ℕ → ℕ → Type 0) → Listing n R (replicate n []) 0
Listing-none n R = record {
  one_each = length-replicate n [];
  each = λ k x below. (λ found. absurd (none_listed n k x below found), λ is. absurd (let none = is.0 in omega arith));
}

pub Listing-more : (n : ℕ) (R : ℕ → ℕ → Type 0) (old new : List (List ℕ)) (indices : List ℕ) (j : ℕ) → Listing n R old j →
    ((k : ℕ) → Contains indices k ↔ R k j) → AddsToEach indices j old new → Listing n R new (j + 1)
Listing-more n R old new indices j so_far related adds = record {
  one_each = adds.same_length ∙ so_far.one_each;
  each = λ k x below. (
    λ found.
        ⊎_elim (λ before. let was = (so_far.each k x below).0 before in (let earlier = was.0 in omega arith, was.1))
        (λ (added : Contains indices k × (x ≡ j)).
        (let same = added.1 in omega arith, subst (λ (y : ℕ). R k y) (sym added.1) ((related k).0 added.0)))
        ((adds.members k x).0 found),
    λ is.
        ⊎_elim (λ (earlier : x < j). (adds.members k x).1 (inl ((so_far.each k x below).1 (earlier, is.1))))
        (λ past.
        let inside = is.0 in
        let same : x ≡ j = omega arith in
        (adds.members k x).1 (inr ((related k).1 (subst (λ (y : ℕ). R k y) same is.1), same)))
        (cases_lt x j),
  );
}

pub AreListsBy-all : (n : ℕ) (R : ℕ → ℕ → Type 0) (lists : List (List ℕ)) (j : ℕ) → ((k x : ℕ) → R k x → x < j) → Listing n R lists j → AreListsBy n R lists
AreListsBy-all n R lists j inside all = record {
  one_each = all.one_each;
  each = λ k below x. (λ found. ((all.each k x below).0 found).1, λ related. (all.each k x below).1 (inside k x related, related));
}
