-- Numbers that lead to one another: where each leads to numbers below a bound, as many steps as that are enough to get anywhere.
use Rattle.std.proofs.Common.{◌≡◌, ◌⊎◌, ℕ, zero, suc, ◌+◌, ◌<◌, ◌≤◌, not, Bool, true, false, List, [], ◌∷◌, length, map, replicate, Contains, refl, inl, inr, ⊎_elim, sym, ◌∙◌, subst, eq-eqb, arith}
use Rattle.std.specs.Prelude.{nat_eq}
use Rattle.std.specs.List.{list_any, range_with_len}
use Rattle.std.proofs.lemmas.Bool.{cases_lt, eqb-true, false≢true, or_cases, or_left, or_right}
use Rattle.std.proofs.lemmas.List.{length-replicate}
use Rattle.std.proofs.lemmas.List.Folds.{list_any-from_Any}
use Rattle.std.proofs.lemmas.List.Sums.{count_by-le-length}
use Rattle.std.proofs.lemmas.List.FromFn.{get_or-map-range_with_len, length-map-range_with_len}
use Rattle.fm_base.proofs.ContainsFacts.{any-found}
use Rattle.fm_base.specs.Rows.{has}
use Rattle.fm_chain.specs.Loops.{leads_within}
use Rattle.fm_base.proofs.RowFacts.{has-replicate, has_inside}
use Rattle.fm_flow.proofs.UnsetBits.{unset-cons, unset-le, unset-lt}
use Rattle.fm_flow.specs.Marking.{unset}

-- ---- rows

-- where a row has the bits of another one, it has no others, or fewer aren't set
same_or_less : (old new : List Bool) → length new ≡ length old → ((k : ℕ) → has old k ≡ true → has new k ≡ true)
    → ((k : ℕ) → has new k ≡ true → has old k ≡ true) ⊎ (unset new + 1 ≤ unset old)
same_or_less [] [] same kept = inl (λ k is. is)
same_or_less [] (c ∷ new) same kept = absurd (omega (arith, same))
same_or_less (b ∷ old) [] same kept = absurd (omega (arith, same))
same_or_less (true ∷ old) (true ∷ new) same kept =
    ⊎_elim (λ all. inl (with_first all)) (λ less. inr (omega (arith, less, unset-cons true old, unset-cons true new)))
    (same_or_less old new (omega (arith, same)) (λ k is. kept (suc k) is)) where
      with_first : ((k : ℕ) → has new k ≡ true → has old k ≡ true) → (k : ℕ) → has (true ∷ new) k ≡ true → has (true ∷ old) k ≡ true
      with_first all zero is = refl
      with_first all (suc k) is = all k is
same_or_less (true ∷ old) (false ∷ new) same kept = absurd (false≢true (kept 0 refl))
same_or_less (false ∷ old) (true ∷ new) same kept =
    let rest = unset-le old new (omega (arith, same)) (λ k is. kept (suc k) is) in
    inr (omega (arith, rest, unset-cons false old, unset-cons true new))
same_or_less (false ∷ old) (false ∷ new) same kept =
    ⊎_elim (λ all. inl (with_first all)) (λ less. inr (omega (arith, less, unset-cons false old, unset-cons false new)))
    (same_or_less old new (omega (arith, same)) (λ k is. kept (suc k) is)) where
      with_first : ((k : ℕ) → has new k ≡ true → has old k ≡ true) → (k : ℕ) → has (false ∷ new) k ≡ true → has (false ∷ old) k ≡ true
      with_first all zero is = is
      with_first all (suc k) is = all k is

-- ---- paths

-- the numbers lead from one end to the other
abbrev pub IsSearchPath : (ℕ → List ℕ) → ℕ → List ℕ → ℕ → Type 0
IsSearchPath next_of j [] last = j ≡ last
IsSearchPath next_of j (next ∷ rest) last = Contains (next_of j) next × IsSearchPath next_of next rest last

module _ (next_of : ℕ → List ℕ) where
  abbrev Leads : (steps j last : ℕ) → Type 0
  Leads steps j last = leads_within next_of steps j last ≡ true

  -- one of the next numbers leads on
  abbrev GoesOn : (steps j last : ℕ) → Type 0
  GoesOn steps j last = (next : ℕ) × Contains (next_of j) next × Leads steps next last

  abbrev goes_on : (steps j last : ℕ) → Bool
  goes_on steps j last = list_any (λ next. leads_within next_of steps next last) (next_of j)

  here : (steps j : ℕ) → Leads steps j j
  here zero j = eq-eqb j j refl
  here (suc steps) j = or_left (nat_eq j j) (goes_on steps j j) (eq-eqb j j refl)

  pub any_next : (steps j next last : ℕ) → Contains (next_of j) next → Leads steps next last
      → list_any (λ n. leads_within next_of steps n last) (next_of j) ≡ true
  any_next steps j next last (k, inside, there) leads =
      list_any-from_Any (λ n. leads_within next_of steps n last) (next_of j) (k, next, inside, there, leads)

  pub next_found : (steps j last : ℕ) → list_any (λ n. leads_within next_of steps n last) (next_of j) ≡ true
      → (next : ℕ) × Contains (next_of j) next × (leads_within next_of steps next last ≡ true)
  next_found steps j last some = any-found (λ n. leads_within next_of steps n last) (next_of j) some

  onward : (steps j next last : ℕ) → Contains (next_of j) next → Leads steps next last → Leads (suc steps) j last
  onward steps j next last among leads = or_right (nat_eq j last) (goes_on steps j last) (any_next steps j next last among leads)

  first_step : (steps j last : ℕ) → Leads (suc steps) j last → (j ≡ last) ⊎ GoesOn steps j last
  first_step steps j last leads =
      ⊎_elim (λ same. inl (eqb-true j last same)) (λ on. inr (next_found steps j last on)) (or_cases (nat_eq j last) (goes_on steps j last) leads)

  -- it is a path
  pub path_from : (steps j last : ℕ) → leads_within next_of steps j last ≡ true → (path : List ℕ) × IsSearchPath next_of j path last
  path_from zero j last leads = ([], eqb-true j last leads)
  path_from (suc steps) j last leads =
      ⊎_elim (λ same. ([], same)) (λ (on : GoesOn steps j last). let rest = path_from steps on.0 last on.2 in (on.0 ∷ rest.0, (on.1, rest.1)))
      (first_step steps j last leads)

  -- a step more at the end
  leads_on : (steps j before last : ℕ) → Leads steps j before → Contains (next_of before) last → Leads (suc steps) j last
  leads_on zero j before last leads among =
      onward zero j last last (subst (λ n. Contains (next_of n) last) (sym (eqb-true j before leads)) among) (here zero last)
  leads_on (suc steps) j before last leads among =
      ⊎_elim (λ (same : j ≡ before). onward (suc steps) j last last (subst (λ n. Contains (next_of n) last) (sym same) among) (here (suc steps) last))
      (λ (on : GoesOn steps j before). onward (suc steps) j on.0 last on.1 (leads_on steps on.0 before last on.2 among))
      (first_step steps j before leads)

  -- the bound may be one more
  leads_more : (steps j last : ℕ) → Leads steps j last → Leads (suc steps) j last
  leads_more zero j last leads = or_left (nat_eq j last) (goes_on zero j last) leads
  leads_more (suc steps) j last leads =
      ⊎_elim (λ (same : j ≡ last). or_left (nat_eq j last) (goes_on (suc steps) j last) (eq-eqb j last same))
      (λ (on : GoesOn steps j last). onward (suc steps) j on.0 last on.1 (leads_more steps on.0 last on.2))
      (first_step steps j last leads)

  -- ---- a bound that is enough

  module _ (count : ℕ) (inside : (j next : ℕ) → Contains (next_of j) next → (j < count) × (next < count)) (a : ℕ) where
    -- the ends of all paths are reached within the bound
    abbrev Complete : ℕ → Type 0
    Complete steps = (path : List ℕ) (last : ℕ) → IsSearchPath next_of a path last → Leads steps a last

    -- what is reached within the bound, as a row
    abbrev reached : ℕ → List Bool
    reached steps = map (leads_within next_of steps a) (range_with_len 0 count)

    reached_count : (steps : ℕ) → length (reached steps) ≡ count
    reached_count steps = length-map-range_with_len (leads_within next_of steps a) 0 count

    reached_is : (steps j : ℕ) → j < count → has (reached steps) j ≡ leads_within next_of steps a j
    reached_is steps j within = get_or-map-range_with_len (leads_within next_of steps a) 0 count j j false within (omega arith)

    reached_kept : (steps k : ℕ) → has (reached steps) k ≡ true → has (reached (suc steps)) k ≡ true
    reached_kept steps k is =
        let within = has_inside (reached steps) k is in
        let below : k < count = omega (arith, within, reached_count steps) in
        reached_is (suc steps) k below ∙ leads_more steps a k (sym (reached_is steps k below) ∙ is)

    -- where one step more reaches nothing new, all is reached
    closed_along : (steps : ℕ) → ((k : ℕ) → has (reached (suc steps)) k ≡ true → has (reached steps) k ≡ true) → (path : List ℕ) (c last : ℕ)
        → Leads steps a c → IsSearchPath next_of c path last → Leads steps a last
    closed_along steps none [] c last leads same = subst (λ n. Leads steps a n) same leads
    closed_along steps none (next ∷ path) c last leads (among, rest) = closed_along steps none path next last on rest where
      below : next < count
      below = (inside c next among).1

      on : Leads steps a next
      on = sym (reached_is steps next below) ∙ none next (reached_is (suc steps) next below ∙ leads_on steps a c next leads among)

    at_start : Complete 0 ⊎ (unset (reached 0) + 0 + 1 ≤ count)
    at_start = ⊎_elim (λ within. inr (counted within)) (λ past. inl (alone past)) (cases_lt a count) where
      alone : count ≤ a → Complete 0
      alone past [] last same = eq-eqb a last same
      alone past (next ∷ path) last (among, rest) = let within = (inside a next among).0 in absurd (omega (arith, within, past))

      counted : a < count → unset (reached 0) + 0 + 1 ≤ count
      counted within =
          let none : List Bool = replicate count false in
          let size = length-replicate count false in
          let most : unset none ≤ length none = count_by-le-length not none in
          let less = unset-lt none (reached 0) a (reached_count 0 ∙ sym size) (λ k is. absurd (false≢true (sym (has-replicate count k) ∙ is)))
          (has-replicate count a) (reached_is 0 a within ∙ eq-eqb a a refl) in
          omega (arith, less, most, size)

    -- all is reached, or with each step more one number more at least
    grows : (steps : ℕ) → Complete steps ⊎ (unset (reached steps) + steps + 1 ≤ count)
    grows zero = at_start
    grows (suc steps) = of_before (grows steps) where
      more : Complete steps → Complete (suc steps)
      more complete path last leads = leads_more steps a last (complete path last leads)

      of_rows : unset (reached steps) + steps + 1 ≤ count
          → ((k : ℕ) → has (reached (suc steps)) k ≡ true → has (reached steps) k ≡ true) ⊎ (unset (reached (suc steps)) + 1 ≤ unset (reached steps))
          → Complete (suc steps) ⊎ (unset (reached (suc steps)) + suc steps + 1 ≤ count)
      of_rows few (inl none) = inl (more (λ path last leads. closed_along steps none path a last (here steps a) leads))
      of_rows few (inr less) = inr (omega (arith, few, less))

      of_before : Complete steps ⊎ (unset (reached steps) + steps + 1 ≤ count) → Complete (suc steps) ⊎ (unset (reached (suc steps)) + suc steps + 1 ≤ count)
      of_before (inl complete) = inl (more complete)
      of_before (inr few) =
          of_rows few (same_or_less (reached steps) (reached (suc steps)) (reached_count (suc steps) ∙ sym (reached_count steps)) (reached_kept steps))

    pub leads_from : (path : List ℕ) (last : ℕ) → IsSearchPath next_of a path last → leads_within next_of count a last ≡ true
    leads_from = ⊎_elim (λ (complete : Complete count). complete) (λ few. absurd (omega (arith, few))) (grows count)
