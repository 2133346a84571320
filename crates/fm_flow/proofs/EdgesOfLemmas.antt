-- The edges of all items, gathered one item after the other.
use Rattle.std.proofs.Common.{◌≡◌, ◌≢◌, ℕ, ◌+◌, ◌-◌, ◌<◌, ◌≤◌, ◌↔◌, Bool, false, List, [], ◌∷◌, ◌++◌, length, get_or, Contains, Some, refl, inl, inr, ⊎_elim, ap, sym, ◌∙◌, subst, arith}
use Rattle.std.proofs.lemmas.Bool.{cases_lt, false≢true}
use Rattle.std.proofs.lemmas.List.{get_or_append_left, get_or_push, length_push}
use Rattle.std.proofs.lemmas.List.Elements.{All-contains, All-from_recursion, Contains-append_cases, Contains-append_left, Contains-append_right}
use Rattle.std.proofs.lemmas.Option.{slice_get-get_or}
use Rattle.std.specs.List.{AllByRecursion, Any}
use Rattle.std.specs.Option.{option_map}
use Rattle.fm_base.proofs.OptionFacts.{IsSomeAnd-from_some, IsSomeAnd-at_some}
use Rattle.fm_base.specs.Rows.{has}
use Rattle.fm_code.specs.CodeRules.{HandlerIsValid}
use Rattle.fm_code.specs.Edges.{MeetsCodeRules, insn_of, LeadsTo, IsNormalEdge, Catches, IsHandlerEdge, IsEdge}
use Rattle.fm_code.specs.declared.code_array.Code.{Code}
use Rattle.fm_code.specs.declared.code_array.Handler.{Handler}
use Rattle.fm_code.specs.declared.code_array.Item.{Item}
use Rattle.fm_code.specs.declared.instructions.Insn.{Insn}
use Rattle.fm_flow.proofs.CodeFacts.{items_counted}
use Rattle.fm_flow.proofs.OnwardLemmas.{Onward}
use Rattle.fm_flow.proofs.ReachLemmas.{edge_inside}
use Rattle.fm_flow.proofs.RisingLemmas.{IsRisingListOf-same}
use Rattle.fm_flow.specs.Tables.{AreEdgesOf}
use Rattle.fm_flow.specs.declared.edge_tables.EdgeTables.{EdgeTables}
use Rattle.fm_flow.specs.inner.Runs.{HasHandlers, OpensRun}
use Rattle.fm_flow.specs.inner.Walks.{IsMarked, IsRisingListOf}

-- the instruction of an item, where a default follows the last one
pub insn_of-get_or : (code : Code) (j : ℕ) (d : Item) → j < length code.items → insn_of code j ≡ Some (get_or code.items j d).insn
insn_of-get_or code j d inside = ap (option_map (λ (item : Item). item.insn)) (slice_get-get_or code.items j d inside)

-- ---- handlers

-- where no range begins or ends, the handlers are those of the item before
pub caught_next : (ends : List Bool) (handlers : List Handler) (j x : ℕ) → AllByRecursion (IsMarked ends) handlers → has ends (j + 1) ≡ false →
    Any (Catches j x) handlers ↔ Any (Catches (j + 1) x) handlers
caught_next ends handlers j x marked unmarked =
    let mark : (h : Handler) → Contains handlers h → IsMarked ends h =
    λ h found. All-contains (IsMarked ends) handlers h (All-from_recursion (IsMarked ends) handlers marked) found in (
      λ (k, h, within, there, catches).
          let is = mark h (k, within, there) in
          let after = catches.after_start in
          let before = catches.before_end in
          let apart : h.end ≢ j + 1 = λ same. false≢true (sym unmarked ∙ ap (has ends) (sym same) ∙ is.end) in
          (k, h, within, there, record { after_start = omega arith; before_end = omega arith; handler_is = catches.handler_is }),
      λ (k, h, within, there, catches).
          let is = mark h (k, within, there) in
          let after = catches.after_start in
          let before = catches.before_end in
          let apart : h.start ≢ j + 1 = λ same. false≢true (sym unmarked ∙ ap (has ends) (sym same) ∙ is.start) in
          (k, h, within, there, record { after_start = omega arith; before_end = omega arith; handler_is = catches.handler_is }),
    )

-- handlers are items
pub handler_inside : (code : Code) → MeetsCodeRules code → (j x : ℕ) → Any (Catches j x) code.handlers → x < length code.items
handler_inside code (entries, valid) j x (k, h, within, there, catches) =
    let Valid : Handler → Type 0 = HandlerIsValid entries (length code.items) in
    let is = All-contains Valid code.handlers h (All-from_recursion Valid code.handlers valid.handlers) (k, within, there) in
    let inside = is.handler in
    let same = catches.handler_is in
    omega arith

-- ---- the edges of one item

-- the normal edges
pub IsRisingListOf-normal : (code : Code) (j : ℕ) (i : Insn) (list : List ℕ) → insn_of code j ≡ Some i →
    IsRisingListOf (Onward i j (length code.items)) list → IsRisingListOf (IsNormalEdge code j) list
IsRisingListOf-normal code j i list is onward =
    IsRisingListOf-same (Onward i j (length code.items)) (IsNormalEdge code j) list onward
    (λ x. (
      λ leads. record { inside = leads.0; leads = IsSomeAnd-from_some (insn_of code j) (λ i. LeadsTo i j x) i is leads.1 },
      λ edge. (edge.inside, IsSomeAnd-at_some (insn_of code j) (λ i. LeadsTo i j x) i is edge.leads),
    ))

-- and the handlers after them
edges_are : (code : Code) (j : ℕ) (normal caught : List ℕ) → MeetsCodeRules code → j < length code.items → IsRisingListOf (IsNormalEdge code j) normal →
    ((x : ℕ) → Contains caught x ↔ Any (Catches j x) code.handlers) → (x : ℕ) → Contains (normal ++ caught) x ↔ IsEdge code j x
edges_are code j normal caught rules inside edges handlers x = (
  λ found.
      ⊎_elim (λ (one : Contains normal x). inl ((edges.members x).0 one))
      (λ (other : Contains caught x).
      let catches = (handlers x).0 other in
      inr (record { inside = handler_inside code rules j x catches; from_item = inside; caught = catches }))
      (Contains-append_cases normal caught x found),
  λ edge.
      ⊎_elim (λ (one : IsNormalEdge code j x). Contains-append_left normal caught x ((edges.members x).1 one))
      (λ (other : IsHandlerEdge code j x). Contains-append_right normal caught x ((handlers x).1 other.caught))
      edge,
)

-- ---- all items

-- a run more
pub OpensRun-push : (code : Code) (j : ℕ) (old : List (List ℕ)) (handlers : List ℕ) → ((x : ℕ) → Contains handlers x ↔ Any (Catches j x) code.handlers) →
    OpensRun code j old (old ++ handlers ∷ [])
OpensRun-push code j old handlers are =
    let longer = length_push old handlers in
    let new : List (List ℕ) = old ++ handlers ∷ [] in
    let last : get_or new (length new - 1) [] ≡ handlers = get_or_push old handlers [] (length new - 1) (omega arith) in
    record {
      last = record { some = omega arith; each = λ x. subst (λ (xs : List ℕ). Contains xs x ↔ Any (Catches j x) code.handlers) (sym last) (are x) };
      kept = λ r below. get_or_append_left old (handlers ∷ []) [] r below;
      grown = omega arith;
      few = omega arith;
    }

-- the run before
pub OpensRun-same : (code : Code) (j : ℕ) (caught : List (List ℕ)) → HasHandlers code j caught → OpensRun code j caught caught
OpensRun-same code j caught last = record { last = last; kept = λ r below. refl; grown = omega arith; few = omega arith }

-- the tables of the items below j; the last run is that of item j too, unless a range begins or ends there
pub record Gathering (code : Code) (ends : List Bool) (own : List (List ℕ)) (runs : List ℕ) (caught : List (List ℕ)) (j : ℕ) : Type 0 where
  pub one_each : length own ≡ j
  pub run_each : length runs ≡ j
  pub few : length caught ≤ j
  pub within : (k : ℕ) → k < j → get_or runs k 0 < length caught
  pub each : (k x : ℕ) → k < j → Contains (get_or own k [] ++ get_or caught (get_or runs k 0) []) x ↔ IsEdge code k x
  pub last : 0 < j → has ends j ≡ false → HasHandlers code j caught

pub Gathering-none : (code : Code) (ends : List Bool) → Gathering code ends [] [] [] 0
Gathering-none code ends = record {
  one_each = refl;
  run_each = refl;
  few = omega arith;
  within = λ k below. absurd (omega arith);
  each = λ k x below. absurd (omega arith);
  last = λ later unmarked. absurd (omega arith);
}

module _ (code : Code) (ends : List Bool) (own : List (List ℕ)) (runs : List ℕ) (old caught : List (List ℕ)) (list : List ℕ) (number j : ℕ) where
  -- an item more
  pub Gathering-more : AllByRecursion (IsMarked ends) code.handlers → MeetsCodeRules code → j < length code.items → Gathering code ends own runs old j
      → OpensRun code j old caught → number + 1 ≡ length caught → IsRisingListOf (IsNormalEdge code j) list
      → Gathering code ends (own ++ list ∷ []) (runs ++ number ∷ []) caught (j + 1)
  Gathering-more marked rules inside so_far opens is_last edges = record {
    one_each = let longer = length_push own list in let count = so_far.one_each in omega arith;
    run_each = let longer = length_push runs number in let count = so_far.run_each in omega arith;
    few = let most = opens.few in let few = so_far.few in omega arith;
    within = λ k below. ⊎_elim (λ earlier. within_before k earlier) (λ past. within_here k below past) (cases_lt k j);
    each = λ k x below. ⊎_elim (λ earlier. each_before k x earlier) (λ past. each_here k x below past) (cases_lt k j);
    last = λ later unmarked. record {
      some = opens.last.some;
      each = λ x.
          let next = caught_next ends code.handlers j x marked unmarked in
          (λ found. next.0 ((opens.last.each x).0 found), λ catches. (opens.last.each x).1 (next.1 catches));
    };
  } where
    run_before : (k : ℕ) → k < j → get_or (runs ++ number ∷ []) k 0 ≡ get_or runs k 0
    run_before k earlier = let count = so_far.run_each in get_or_append_left runs (number ∷ []) 0 k (omega arith)

    run_here : (k : ℕ) → k < j + 1 → j ≤ k → get_or (runs ++ number ∷ []) k 0 ≡ number
    run_here k below past = let count = so_far.run_each in get_or_push runs number 0 k (omega arith)

    within_before : (k : ℕ) → k < j → get_or (runs ++ number ∷ []) k 0 < length caught
    within_before k earlier =
        let low = so_far.within k earlier in
        let grown = opens.grown in
        let same = run_before k earlier in omega arith

    within_here : (k : ℕ) → k < j + 1 → j ≤ k → get_or (runs ++ number ∷ []) k 0 < length caught
    within_here k below past = let same = run_here k below past in omega arith

    each_before : (k x : ℕ) → k < j → Contains (get_or (own ++ list ∷ []) k [] ++ get_or caught (get_or (runs ++ number ∷ []) k 0) []) x ↔ IsEdge code k x
    each_before k x earlier =
        let count = so_far.one_each in
        let first : get_or (own ++ list ∷ []) k [] ≡ get_or own k [] = get_or_append_left own (list ∷ []) [] k (omega arith) in
        let second : get_or caught (get_or (runs ++ number ∷ []) k 0) [] ≡ get_or old (get_or runs k 0) [] =
        ap (λ (r : ℕ). get_or caught r []) (run_before k earlier) ∙ opens.kept (get_or runs k 0) (so_far.within k earlier) in
        let same : get_or (own ++ list ∷ []) k [] ++ get_or caught (get_or (runs ++ number ∷ []) k 0) [] ≡ get_or own k [] ++ get_or old (get_or runs k 0) [] =
        λ i. first i ++ second i in
        subst (λ (xs : List ℕ). Contains xs x ↔ IsEdge code k x) (sym same) (so_far.each k x earlier)

    each_here : (k x : ℕ) → k < j + 1 → j ≤ k → Contains (get_or (own ++ list ∷ []) k [] ++ get_or caught (get_or (runs ++ number ∷ []) k 0) []) x ↔ IsEdge code k x
    each_here k x below past =
        let count = so_far.one_each in
        let here : j ≡ k = omega arith in
        let place : number ≡ length caught - 1 = omega arith in
        let first : get_or (own ++ list ∷ []) k [] ≡ list = get_or_push own list [] k (omega arith) in
        let second : get_or caught (get_or (runs ++ number ∷ []) k 0) [] ≡ get_or caught (length caught - 1) [] =
        ap (λ (r : ℕ). get_or caught r []) (run_here k below past ∙ place) in
        let same : get_or (own ++ list ∷ []) k [] ++ get_or caught (get_or (runs ++ number ∷ []) k 0) [] ≡ list ++ get_or caught (length caught - 1) [] =
        λ i. first i ++ second i in
        subst (λ (xs : List ℕ). Contains xs x ↔ IsEdge code k x) (sym same)
        (subst (λ (n : ℕ). Contains (list ++ get_or caught (length caught - 1) []) x ↔ IsEdge code n x) here
        (edges_are code j list (get_or caught (length caught - 1) []) rules inside edges opens.last.each x))

pub AreEdgesOf-all : (code : Code) (ends : List Bool) (edges : EdgeTables) (j : ℕ) → MeetsCodeRules code → j ≡ length code.items →
    Gathering code ends edges.own edges.runs.items edges.caught j → AreEdgesOf code edges
AreEdgesOf-all code ends edges j rules all gathered =
    let count = gathered.one_each in
    let runs = gathered.run_each in
    let few = gathered.few in
    let counted = (items_counted code rules).1 in
    record {
      one_each = omega arith;
      within = record {
        one_each = omega arith;
        few = omega arith;
        each_run = λ k below. gathered.within k (omega arith);
        ends = λ k x below found. let inside = edge_inside code k x ((gathered.each k x (omega arith)).0 found) in omega arith;
      };
      each = λ k x below. gathered.each k x (omega arith);
    }
