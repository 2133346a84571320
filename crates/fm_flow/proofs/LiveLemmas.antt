-- The walk back along the edges: what is live at an item, and that nothing live is missed.
use Rattle.std.proofs.Common.{◌≡◌, ℕ, ◌+◌, ◌<◌, ◌≤◌, ◌↔◌, Bool, true, false, List, [], ◌∷◌, ◌++◌, length, get_or, replicate, set, Contains, None, Some, refl, inl, inr, ⊎_elim, ap, sym, ◌∙◌, subst, arith, length-set}
use Rattle.std.proofs.lemmas.Bool.{cases_lt, false≢true, false_from_ne_true}
use Rattle.std.proofs.lemmas.List.{get_or_past, get_or_append_left, get_or_push, length_push, length-replicate}
use Rattle.std.proofs.lemmas.List.Elements.{Contains-append_left, Contains-push, Contains-push_cases}
use Rattle.std.proofs.lemmas.Option.{slice_get_cases}
use Rattle.std.specs.Option.{option_map}
use Rattle.std.specs.Prelude.{slice_get}
use Rattle.fm_base.proofs.OptionFacts.{Some-from_some_and, IsSomeAnd-from_some, IsSomeAnd-at_some}
use Rattle.fm_base.specs.Rows.{has}
use Rattle.fm_code.proofs.EdgesLemmas.{insn_inside}
use Rattle.fm_code.specs.Edges.{MeetsCodeRules, insn_of, IsEdge}
use Rattle.fm_code.specs.Live.{stores_over, Loads, Keeps, LeadsToLoad, Live}
use Rattle.fm_code.specs.declared.code_array.Code.{Code}
use Rattle.fm_code.specs.declared.code_array.Item.{Item}
use Rattle.fm_code.specs.declared.operations.Reg.TheVariants as reg
use Rattle.fm_code.specs.declared.instructions.Insn.{Insn}
use Rattle.fm_code.specs.declared.instructions.Insn.TheVariants as insn
use Rattle.fm_flow.proofs.ReachLemmas.{edge_from_item}
use Rattle.fm_base.proofs.RowFacts.{has-replicate, has-set_same, has-set_kept, has-set_only}
use Rattle.fm_flow.proofs.UsesLemmas.{loaded_fits}
use Rattle.fm_flow.specs.LiveRows.{AreLiveOf}
use Rattle.fm_flow.specs.inner.LiveWalks.{IsLiveRow, row_of, StoresOver, Tracing}
use Rattle.fm_flow.specs.Marking.{Marks}

-- ---- what is live at an item

-- an item has an instruction
insn_there : (code : Code) (j : ℕ) → j < length code.items → (i : Insn) × (insn_of code j ≡ Some i)
insn_there code j inside =
    ⊎_elim (λ (some : (d : Item) × (j < length code.items) × (slice_get code.items j ≡ Some d) × (get_or code.items j d ≡ d)).
    (some.0.insn, ap (option_map (λ (item : Item). item.insn)) some.2))
    (λ (none : (length code.items ≤ j) × (slice_get code.items j ≡ None)). absurd (let past = none.0 in omega arith))
    (slice_get_cases code.items j).1

-- the item is there
pub live_inside : (code : Code) (k j : ℕ) (path : List ℕ) → LeadsToLoad code k j path → j < length code.items
live_inside code k j [] loads = insn_inside code j (insn.Load reg.Ref k) loads
live_inside code k j (next ∷ path) (keeps, edge, leads) = edge_from_item code j next edge

-- and so is the local
live_fits : (code : Code) → MeetsCodeRules code → (k j : ℕ) (path : List ℕ) → LeadsToLoad code k j path → k < code.max_locals
live_fits code rules k j [] loads = loaded_fits code j k rules loads
live_fits code rules k j (next ∷ path) (keeps, edge, leads) = live_fits code rules k next path leads

-- an item that stores over a local is there
pub stored_inside : (code : Code) (k j : ℕ) → StoresOver code k j → j < length code.items
stored_inside code k j stores =
    let found = Some-from_some_and (insn_of code j) (λ i. stores_over k i ≡ true) stores in insn_inside code j found.0 found.1

-- what loads a local doesn't store over it
loads_or_stores : (code : Code) (k j : ℕ) → Loads code k j → StoresOver code k j → ⊥
loads_or_stores code k j loads stores = false≢true (IsSomeAnd-at_some (insn_of code j) (λ i. stores_over k i ≡ true) (insn.Load reg.Ref k) loads stores)

-- nor does what keeps it
keeps_or_stores : (code : Code) (k j : ℕ) → Keeps code k j → StoresOver code k j → ⊥
keeps_or_stores code k j keeps stores =
    let found = Some-from_some_and (insn_of code j) (λ i. stores_over k i ≡ false) keeps in
    false≢true (sym found.2 ∙ IsSomeAnd-at_some (insn_of code j) (λ i. stores_over k i ≡ true) found.0 found.1 stores)

-- an item that doesn't store over a local keeps it
keeps_unless : (code : Code) (k j : ℕ) (i : Insn) → insn_of code j ≡ Some i → (StoresOver code k j → ⊥) → Keeps code k j
keeps_unless code k j i is not_stored =
    IsSomeAnd-from_some (insn_of code j) (λ i. stores_over k i ≡ false) i is
    (false_from_ne_true (stores_over k i) (λ stored. not_stored (IsSomeAnd-from_some (insn_of code j) (λ i. stores_over k i ≡ true) i is stored)))

-- a local that is live at the end of an edge is live at its source, unless it is stored over there
live_before : (code : Code) (k j source : ℕ) → IsEdge code source j → (StoresOver code k source → ⊥) → Live code k j → Live code k source
live_before code k j source edge not_stored live =
    let inside = edge_from_item code source j edge in
    let is = insn_there code source inside in
    (j ∷ live.0, (keeps_unless code k source is.0 is.1 not_stored, edge, live.1))

-- ---- the walk

-- the loads of the local wait, and what stores over it is seen
pub Tracing-first : (code : Code) (k : ℕ) (stores loads : List ℕ) (stored seen : List Bool) (left waiting : List ℕ) →
    ((j : ℕ) → Contains stores j ↔ StoresOver code k j) → ((j : ℕ) → Contains loads j ↔ Loads code k j) →
    Marks stores (replicate (length code.items) false) stored [] left → Marks loads stored seen [] waiting →
    Tracing code k (replicate (length code.items) false) seen waiting
Tracing-first code k stores loads stored seen left waiting are_stores are_loads first second =
    let n = length code.items in
    let bits = length-replicate n false in
    let unset : (j : ℕ) → has (replicate n false) j ≡ true → ⊥ = λ j is. false≢true (sym (has-replicate n j) ∙ is) in
    let none : (j : ℕ) → Contains [] j → ⊥ = λ j found. let inside = found.1 in omega arith in
    record {
      row_bits = bits;
      seen_bits = second.same_length ∙ first.same_length ∙ bits;
      row_live = λ j is. absurd (unset j is);
      waiting_live = λ j waits. ⊎_elim (λ before. absurd (none j before)) (λ now. ([], (are_loads j).0 now.0)) (second.waiting_listed j waits);
      stores = λ j is. second.kept j (first.listed j ((are_stores j).1 is));
      loads = λ j is. second.listed j ((are_loads j).1 is);
      each_seen = λ j is.
          ⊎_elim (λ before. ⊎_elim (λ was. absurd (unset j was)) (λ stored. inl ((are_stores j).0 stored.0)) (first.only_listed j before))
          (λ now. inr (inr now.1)) (second.only_listed j is);
      closed = λ j source is edge. absurd (unset j is);
    }

-- an item that waits is one
pub tracing_inside : (code : Code) (k : ℕ) (row seen : List Bool) (rest : List ℕ) (j : ℕ) → Tracing code k row seen (rest ++ j ∷ []) → j < length code.items
tracing_inside code k row seen rest j so_far = let live = so_far.waiting_live j (Contains-push rest j) in live_inside code k j live.0 live.1

-- an item that waited is in the row, and the sources of its edges are seen
pub Tracing-more : (code : Code) (k : ℕ) (sources : List ℕ) (row seen new : List Bool) (rest waiting : List ℕ) (j : ℕ) →
    ((x : ℕ) → Contains sources x ↔ IsEdge code x j) → Tracing code k row seen (rest ++ j ∷ []) → Marks sources seen new rest waiting →
    Tracing code k (set row j true) new waiting
Tracing-more code k sources row seen new rest waiting j edges so_far marks =
    let inside = tracing_inside code k row seen rest j so_far in
    let at_j = so_far.waiting_live j (Contains-push rest j) in
    let bits = so_far.row_bits in
    record {
      row_bits = length-set row j true ∙ so_far.row_bits;
      seen_bits = marks.same_length ∙ so_far.seen_bits;
      row_live = λ x is.
          ⊎_elim (λ same. subst (λ (n : ℕ). Live code k n) (sym same) at_j) (λ was. so_far.row_live x was) (has-set_only row j x is);
      waiting_live = λ x waits.
          ⊎_elim (λ before. so_far.waiting_live x (Contains-append_left rest (j ∷ []) x before))
          (λ now. live_before code k j x ((edges x).0 now.0) (λ stored. false≢true (sym now.1 ∙ so_far.stores x stored)) at_j)
          (marks.waiting_listed x waits);
      stores = λ x is. marks.kept x (so_far.stores x is);
      loads = λ x is. marks.kept x (so_far.loads x is);
      each_seen = λ x is.
          ⊎_elim
          (λ before.
          ⊎_elim (λ stored. inl stored)
          (λ either.
          ⊎_elim (λ was. inr (inl (has-set_kept row j x was)))
          (λ (waited : Contains (rest ++ j ∷ []) x).
          ⊎_elim (λ still. inr (inr (marks.still_waiting x still)))
          (λ (same : j ≡ x). inr (inl (subst (λ (n : ℕ). has (set row j true) n ≡ true) same (has-set_same row j (omega arith)))))
          (Contains-push_cases rest j x waited))
          either)
          (so_far.each_seen x before))
          (λ now. inr (inr now.1))
          (marks.only_listed x is);
      closed = λ x source is edge.
          ⊎_elim (λ (same : x ≡ j). marks.listed source ((edges source).1 (subst (λ (n : ℕ). IsEdge code source n) same edge)))
          (λ was. marks.kept source (so_far.closed x source was edge))
          (has-set_only row j x is);
    }

-- where no item waits, an item that is seen and doesn't store over the local is in the row
seen_in_row : (code : Code) (k : ℕ) (row seen : List Bool) → Tracing code k row seen [] → (j : ℕ) → has seen j ≡ true → (StoresOver code k j → ⊥) → has row j ≡ true
seen_in_row code k row seen all j is not_stored =
    ⊎_elim (λ stored. absurd (not_stored stored))
    (λ either. ⊎_elim (λ found. found) (λ (waits : Contains [] j). absurd (let inside = waits.1 in omega arith)) either)
    (all.each_seen j is)

-- and so are the items of a path to a load
in_row_along : (code : Code) (k : ℕ) (row seen : List Bool) → Tracing code k row seen [] → (j : ℕ) (path : List ℕ) → LeadsToLoad code k j path → has row j ≡ true
in_row_along code k row seen all j [] loads = seen_in_row code k row seen all j (all.loads j loads) (loads_or_stores code k j loads)
in_row_along code k row seen all j (next ∷ path) (keeps, edge, leads) =
    seen_in_row code k row seen all j (all.closed next j (in_row_along code k row seen all next path leads) edge) (keeps_or_stores code k j keeps)

pub IsLiveRow-all : (code : Code) (k : ℕ) (row seen : List Bool) → Tracing code k row seen [] → IsLiveRow code k row
IsLiveRow-all code k row seen all = record {
  bits = all.row_bits;
  each = λ j. (λ is. all.row_live j is, λ live. in_row_along code k row seen all j live.0 live.1);
}

-- ---- the rows of all locals

-- those below k
pub record Telling (code : Code) (rows : List (List Bool)) (k : ℕ) : Type 0 where
  pub one_each : length rows ≡ k
  pub each : (t : ℕ) → t < k → IsLiveRow code t (row_of rows t)

pub Telling-none : (code : Code) → Telling code [] 0
Telling-none code = record { one_each = refl; each = λ t below. absurd (omega arith) }

-- a local more
pub Telling-more : (code : Code) (rows : List (List Bool)) (row : List Bool) (k : ℕ) → Telling code rows k → IsLiveRow code k row → Telling code (rows ++ row ∷ []) (k + 1)
Telling-more code rows row k so_far is =
    let count = so_far.one_each in
    let longer = length_push rows row in
    record {
      one_each = omega arith;
      each = λ t below.
          ⊎_elim (λ (earlier : t < k). subst (λ (r : List Bool). IsLiveRow code t r) (sym (get_or_append_left rows (row ∷ []) [] t (omega arith))) (so_far.each t earlier))
          (λ past.
          let same : k ≡ t = omega arith in
          let here : row_of (rows ++ row ∷ []) t ≡ row = get_or_push rows row [] t (omega arith) in
          subst (λ (r : List Bool). IsLiveRow code t r) (sym here) (subst (λ (n : ℕ). IsLiveRow code n row) same is))
          (cases_lt t k);
    }

pub AreLiveOf-all : (code : Code) (rows : List (List Bool)) (k : ℕ) → MeetsCodeRules code → k ≡ code.max_locals → Telling code rows k → AreLiveOf code rows
AreLiveOf-all code rows k rules count all =
    let same = all.one_each in
    record {
      one_each = all.one_each ∙ count;
      bits = λ t below. (all.each t (omega arith)).bits;
      each = λ t j.
          ⊎_elim (λ (below : t < code.max_locals). (all.each t (omega arith)).each j)
          (λ (past : code.max_locals ≤ t). (
            λ is. absurd (false≢true (sym (ap (λ (r : List Bool). has r j) (get_or_past rows t [] (omega arith)) ∙ get_or_past [] j false (omega arith)) ∙ is)),
            λ live. absurd (let fits = live_fits code rules t j live.0 live.1 in omega arith),
          ))
          (cases_lt t code.max_locals);
    }
