-- How the forest of the nodes of a graph changes: a node leads past the next one, two roots become one.
use Rattle.std.proofs.Common.{◌≡◌, ◌≢◌, ℕ, ◌+◌, ◌<◌, ◌≤◌, List, [], ◌∷◌, length, get_or, set, Contains, refl, ap, sym, ◌∙◌, subst, inl, inr, ⊎_elim, arith, length-set}
use Rattle.std.proofs.lemmas.Bool.{cases_eq}
use Rattle.std.proofs.lemmas.List.{get_or-set_same, get_or-set_other, get_or_default}
use Rattle.fm_base.specs.Graph.{AreNodes, ArePaired, IsPath, AreJoined, AreLeastJoined}
use Rattle.fm_base.specs.inner.Graph.{AreStepsIn, Falls, IsSameAlong, Joins, LeadsTo, Shortens}

-- ---- paths of pairs

-- nodes that are paired are below n
pub paired_below : (n : ℕ) (pairs : List (ℕ × ℕ)) (a b : ℕ) → AreNodes n pairs → ArePaired pairs a b → (a < n) × (b < n)
paired_below n pairs a b nodes (inl (k, within, there)) =
    let P : (ℕ × ℕ) → Type 0 = λ pair. (pair.0 < n) × (pair.1 < n) in subst P there (nodes k (a, b) within)
paired_below n pairs a b nodes (inr (k, within, there)) =
    let P : (ℕ × ℕ) → Type 0 = λ pair. (pair.0 < n) × (pair.1 < n) in
    let below = subst P there (nodes k (b, a) within) in (below.1, below.0)

-- a pair joins in both directions
pub paired_back : (pairs : List (ℕ × ℕ)) (a b : ℕ) → ArePaired pairs a b → ArePaired pairs b a
paired_back pairs a b (inl there) = inr there
paired_back pairs a b (inr there) = inl there

pub numbers_after : (pairs : List (ℕ × ℕ)) (a : ℕ) (path : List ℕ) (b c : ℕ) → IsPath pairs a path b → AreJoined pairs b c → AreJoined pairs a c
numbers_after pairs a [] b c same joined = subst (λ v. AreJoined pairs v c) (sym same) joined
numbers_after pairs a (next ∷ rest) b c (paired, path) joined = let more = numbers_after pairs next rest b c path joined in (next ∷ more.0, (paired, more.1))

pub numbers_then : (pairs : List (ℕ × ℕ)) (a b c : ℕ) → AreJoined pairs a b → AreJoined pairs b c → AreJoined pairs a c
numbers_then pairs a b c (path, is) joined = numbers_after pairs a path b c is joined

pub numbers_one : (pairs : List (ℕ × ℕ)) (a b : ℕ) → ArePaired pairs a b → AreJoined pairs a b
numbers_one pairs a b paired = (b ∷ [], (paired, refl))

numbers_back_along : (pairs : List (ℕ × ℕ)) (a : ℕ) (path : List ℕ) (b : ℕ) → IsPath pairs a path b → AreJoined pairs b a
numbers_back_along pairs a [] b same = ([], sym same)
numbers_back_along pairs a (next ∷ rest) b (paired, path) =
    numbers_then pairs b next a (numbers_back_along pairs next rest b path) (numbers_one pairs next a (paired_back pairs a next paired))

pub numbers_back : (pairs : List (ℕ × ℕ)) (a b : ℕ) → AreJoined pairs a b → AreJoined pairs b a
numbers_back pairs a b (path, is) = numbers_back_along pairs a path b is

-- ---- ways in the forest

-- nothing changes
pub Shortens_none : (above : List ℕ) → Falls above → Shortens above above
Shortens_none above falls = record { nodes = refl; falls = falls; roots = λ a is. is; steps = λ pairs steps. steps; same = λ number same. same }

-- one change after the other
pub Shortens_then : (first second third : List ℕ) → Shortens first second → Shortens second third → Shortens first third
Shortens_then first second third one two = record {
  nodes = two.nodes ∙ one.nodes;
  falls = two.falls;
  roots = λ a is. two.roots a (one.roots a is);
  steps = λ pairs steps. two.steps pairs (one.steps pairs steps);
  same = λ number same. one.same number (two.same number same);
}

-- a node leads past the next one
pub Shortens_past : (above : List ℕ) (node : ℕ) → node < length above → Falls above →
    Shortens above (set above node (get_or above (get_or above node 0) 0))
Shortens_past above node inside falls =
    let next = get_or above node 0 in
    let past = get_or above next 0 in
    let new = set above node past in
    let count : length new ≡ length above = length-set above node past in
    let here : get_or new node 0 ≡ past = get_or-set_same above node past 0 inside in
    let elsewhere : (a : ℕ) → a ≢ node → get_or new a 0 ≡ get_or above a 0 = λ a apart. get_or-set_other above node a past 0 apart in
    let first : next ≤ node = falls node inside in
    let next_inside : next < length above = omega arith in
    let second : past ≤ next = falls next next_inside in
    record {
      nodes = count;
      falls = λ a within.
          ⊎_elim (λ (same : a ≡ node). omega (arith, here, ap (λ k. get_or new k 0) same))
          (λ (apart : a ≢ node). omega (arith, elsewhere a apart, falls a (omega arith)))
          (cases_eq a node);
      roots = λ a is.
          ⊎_elim
          (λ (same : a ≡ node).
          let next_is : next ≡ node = ap (λ k. get_or above k 0) (sym same) ∙ is ∙ same in
          ap (λ k. get_or new k 0) same ∙ here ∙ ap (λ k. get_or above k 0) next_is ∙ next_is ∙ sym same)
          (λ (apart : a ≢ node). elsewhere a apart ∙ is)
          (cases_eq a node);
      steps = λ pairs steps a within.
          let P : ℕ → Type 0 = λ k. AreJoined pairs a k in
          ⊎_elim
          (λ (same : a ≡ node).
          let Q : ℕ → Type 0 = λ k. AreJoined pairs k past in
          let joined : AreJoined pairs node past = numbers_then pairs node next past (steps node inside) (steps next next_inside) in
          subst P (sym (ap (λ k. get_or new k 0) same ∙ here)) (subst Q (sym same) joined))
          (λ (apart : a ≢ node). subst P (sym (elsewhere a apart)) (steps a (omega arith)))
          (cases_eq a node);
      same = λ number along a within.
          ⊎_elim
          (λ (same : a ≡ node).
          let P : ℕ → Type 0 = λ k. number (get_or above k 0) ≡ number k in
          let ends : number past ≡ number node = sym (ap number here) ∙ along node (omega arith) in
          subst P (sym same)
          (⊎_elim (λ (still : next ≡ node). ap number still)
          (λ (apart : next ≢ node). sym (along next (omega arith)) ∙ ap number (elsewhere next apart) ∙ ends)
          (cases_eq next node)))
          (λ (apart : a ≢ node). ap number (sym (elsewhere a apart)) ∙ along a (omega arith))
          (cases_eq a node);
    }

-- ---- two roots

-- one of two roots is to lead to the other one, which isn't greater
pub record Meets (a b root other : ℕ) (old last : List ℕ) : Type 0 where
  pub nodes : length last ≡ length old
  pub falls : Falls last
  pub inside : other < length last
  pub below : root ≤ other
  pub is_root : get_or last other 0 ≡ other
  pub steps : (pairs : List (ℕ × ℕ)) → AreStepsIn pairs old → AreStepsIn pairs last
  pub joined : (pairs : List (ℕ × ℕ)) → AreStepsIn pairs old → AreJoined pairs a b → AreJoined pairs other root
  pub same : (number : ℕ → ℕ) → IsSameAlong last number → IsSameAlong old number
  pub ends : (number : ℕ → ℕ) → IsSameAlong last number → number root ≡ number other → number a ≡ number b

-- it leads there
pub Joins_under : (a b root other : ℕ) (old last : List ℕ) → Meets a b root other old last → Joins a b old (set last other root)
Joins_under a b root other old last meets =
    let new = set last other root in
    let inside = meets.inside in
    let count : length new ≡ length last = length-set last other root in
    let here : get_or new other 0 ≡ root = get_or-set_same last other root 0 inside in
    let elsewhere : (x : ℕ) → x ≢ other → get_or new x 0 ≡ get_or last x 0 = λ x apart. get_or-set_other last other x root 0 apart in
    let below = meets.below in
    record {
      nodes = count ∙ meets.nodes;
      falls = λ x within.
          ⊎_elim (λ (same : x ≡ other). omega (arith, here, ap (λ k. get_or new k 0) same))
          (λ (apart : x ≢ other). omega (arith, elsewhere x apart, meets.falls x (omega arith)))
          (cases_eq x other);
      steps = λ pairs steps joined x within.
          let P : ℕ → Type 0 = λ k. AreJoined pairs x k in
          ⊎_elim
          (λ (same : x ≡ other).
          let Q : ℕ → Type 0 = λ k. AreJoined pairs k root in
          subst P (sym (ap (λ k. get_or new k 0) same ∙ here)) (subst Q (sym same) (meets.joined pairs steps joined)))
          (λ (apart : x ≢ other). subst P (sym (elsewhere x apart)) (meets.steps pairs steps x (omega arith)))
          (cases_eq x other);
      same = λ number along.
          let before : IsSameAlong last number = λ x within.
          ⊎_elim
          (λ (same : x ≡ other). let P : ℕ → Type 0 = λ k. number (get_or last k 0) ≡ number k in subst P (sym same) (ap number meets.is_root))
          (λ (apart : x ≢ other). ap number (sym (elsewhere x apart)) ∙ along x (omega arith))
          (cases_eq x other) in
          (meets.same number before, meets.ends number before (sym (ap number here) ∙ along other (omega arith)));
    }

-- where two nodes lead at last, one after the other
pub record TwoRoots (a b first second : ℕ) (old middle last : List ℕ) : Type 0 where
  pub one : Shortens old middle
  pub leads : LeadsTo old middle a first
  pub two : Shortens middle last
  pub leads_too : LeadsTo middle last b second
  pub inside : a < length old
  pub inside_too : b < length old

-- the two roots, where the second one isn't greater
pub Meets_second : (a b first second : ℕ) (old middle last : List ℕ) → TwoRoots a b first second old middle last → second ≤ first → Meets a b second first old last
Meets_second a b first second old middle last both less =
    let nodes : length last ≡ length old = both.two.nodes ∙ both.one.nodes in
    let inside = both.inside in
    let below = both.leads.below in
    record {
      nodes = nodes;
      falls = both.two.falls;
      inside = omega arith;
      below = less;
      is_root = both.two.roots first both.leads.is_root;
      steps = λ pairs steps. both.two.steps pairs (both.one.steps pairs steps);
      joined = λ pairs steps joined.
          numbers_then pairs first a second (numbers_back pairs a first (both.leads.joined pairs steps))
          (numbers_then pairs a b second joined (both.leads_too.joined pairs (both.one.steps pairs steps)));
      same = λ number along. both.one.same number (both.two.same number along);
      ends = λ number along meet. both.leads.same number (both.two.same number along) ∙ sym meet ∙ sym (both.leads_too.same number along);
    }

-- and where the first one isn't
pub Meets_first : (a b first second : ℕ) (old middle last : List ℕ) → TwoRoots a b first second old middle last → first ≤ second → Meets a b first second old last
Meets_first a b first second old middle last both less =
    let nodes : length last ≡ length old = both.two.nodes ∙ both.one.nodes in
    let inside = both.inside_too in
    let below = both.leads_too.below in
    record {
      nodes = nodes;
      falls = both.two.falls;
      inside = omega arith;
      below = less;
      is_root = both.leads_too.is_root;
      steps = λ pairs steps. both.two.steps pairs (both.one.steps pairs steps);
      joined = λ pairs steps joined.
          numbers_then pairs second b first (numbers_back pairs b second (both.leads_too.joined pairs (both.one.steps pairs steps)))
          (numbers_then pairs b a first (numbers_back pairs a b joined) (both.leads.joined pairs steps));
      same = λ number along. both.one.same number (both.two.same number along);
      ends = λ number along meet. both.leads.same number (both.two.same number along) ∙ meet ∙ sym (both.leads_too.same number along);
    }

-- ---- at the end

-- the nodes before one are settled
abbrev pub AreSettledTo : List ℕ → ℕ → Type 0
AreSettledTo above node = (a : ℕ) → a < node → get_or above (get_or above a 0) 0 ≡ get_or above a 0

-- where the nodes before one are settled, and it leads past the next one, it is settled too
pub AreSettledTo_more : (above : List ℕ) (node : ℕ) → node < length above → Falls above → AreSettledTo above node →
    AreSettledTo (set above node (get_or above (get_or above node 0) 0)) (node + 1)
AreSettledTo_more above node inside falls settled a below =
    let next = get_or above node 0 in
    let past = get_or above next 0 in
    let new = set above node past in
    let shortens = Shortens_past above node inside falls in
    let here : get_or new node 0 ≡ past = get_or-set_same above node past 0 inside in
    let first : next ≤ node = falls node inside in
    let root : get_or above past 0 ≡ past =
    ⊎_elim (λ (still : next ≡ node). let again : past ≡ next = ap (λ k. get_or above k 0) still in ap (λ k. get_or above k 0) again)
    (λ (apart : next ≢ node). settled next (omega arith))
    (cases_eq next node) in
    ⊎_elim
    (λ (same : a ≡ node).
    let number : get_or new a 0 ≡ past = ap (λ k. get_or new k 0) same ∙ here in
    ap (λ k. get_or new k 0) number ∙ shortens.roots past root ∙ sym number)
    (λ (apart : a ≢ node).
    let number : get_or new a 0 ≡ get_or above a 0 = get_or-set_other above node a past 0 apart in
    ap (λ k. get_or new k 0) number ∙ shortens.roots (get_or above a 0) (settled a (omega arith)) ∙ sym number)
    (cases_eq a node)

-- numbers that are the same for each pair are the same along a path
same_along : (pairs : List (ℕ × ℕ)) (n : ℕ) (number : ℕ → ℕ) → AreNodes n pairs → ((a b : ℕ) → Contains pairs (a, b) → number a ≡ number b) →
    (path : List ℕ) (a b : ℕ) → a < n → IsPath pairs a path b → (b < n) × (number b ≡ number a)
same_along pairs n number nodes each [] a b below same = (omega arith, ap number (sym same))
same_along pairs n number nodes each (next ∷ rest) a b below (paired, path) =
    let onward = same_along pairs n number nodes each rest next b (paired_below n pairs a next nodes paired).1 path in
    let step : number next ≡ number a = ⊎_elim (λ there. sym (each a next there)) (λ back. each next a back) paired in
    (onward.0, onward.1 ∙ step)

-- numbers of the pairs before one are the same
abbrev pub AreSameTo : List (ℕ × ℕ) → (ℕ → ℕ) → ℕ → Type 0
AreSameTo pairs number index = (k : ℕ) → k < index → number (get_or pairs k (0, 0)).0 ≡ number (get_or pairs k (0, 0)).1

-- a settled forest of joined nodes in which each pair leads to one root has the least joined nodes
pub AreLeastJoined_settled : (pairs : List (ℕ × ℕ)) (n : ℕ) (least : List ℕ) → AreNodes n pairs → length least ≡ n → Falls least → AreStepsIn pairs least →
    AreSameTo pairs (λ a. get_or least a 0) (length pairs) → AreLeastJoined pairs n least
AreLeastJoined_settled pairs n least nodes count falls steps same =
    let number : ℕ → ℕ = λ a. get_or least a 0 in
    let each : (a b : ℕ) → Contains pairs (a, b) → number a ≡ number b = λ a b (k, within, there).
    let P : (ℕ × ℕ) → Type 0 = λ pair. number pair.0 ≡ number pair.1 in
    subst P (get_or_default pairs k (0, 0) (a, b) within ∙ there) (same k within) in
    record {
      one_each = count;
      each = λ a below. record {
        joined = steps a (omega arith);
        no_less = λ b (path, leads).
            let along = same_along pairs n number nodes each path a b below leads in
            let bound = falls b (omega (arith, along.0)) in
            omega (arith, along.1);
      };
    }
