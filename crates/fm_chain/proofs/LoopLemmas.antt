-- The walk from the ends of an item's edges, and that it finds the item exactly where the item lies in a loop.
use Rattle.std.proofs.Common.{◌≡◌, ◌⊎◌, ◌↔◌, ℕ, ◌<◌, Bool, true, false, List, [], ◌∷◌, ◌++◌, length, replicate, Contains, refl, inl, inr, ⊎_elim, sym, ◌∙◌, subst, arith}
use Rattle.std.proofs.lemmas.Bool.{false≢true}
use Rattle.std.proofs.lemmas.List.{length-replicate}
use Rattle.std.proofs.lemmas.List.Elements.{Contains-append_left, Contains-push, Contains-push_cases}
use Rattle.fm_base.proofs.TestFacts.{same_test}
use Rattle.fm_base.specs.Rows.{has}
use Rattle.fm_chain.proofs.SearchLemmas.{any_next, IsSearchPath, leads_from, next_found, path_from}
use Rattle.fm_chain.specs.Loops.{IsAhead, is_looped, IsLooped, LoopsAreByPaths}
use Rattle.fm_chain.specs.inner.LoopWalks.{Looping}
use Rattle.fm_code.proofs.EdgesLemmas.{edge-from_edges_listed, edges_listed-from_edge}
use Rattle.fm_code.specs.Edges.{edges_listed, IsEdge, IsFlowPath}
use Rattle.fm_code.specs.declared.code_array.Code.{Code}
use Rattle.fm_flow.proofs.ReachLemmas.{edge_from_item, edge_inside, IsFlowPath-more}
use Rattle.fm_base.proofs.RowFacts.{has-replicate, has_inside}
use Rattle.fm_flow.specs.Flow.{IsMarkedBy}
use Rattle.fm_flow.specs.declared.flow.Flow.{Flow}
use Rattle.fm_flow.specs.Marking.{Marks}

-- ---- the test and paths

flow_path : (code : Code) (a : ℕ) (path : List ℕ) (last : ℕ) → IsSearchPath (edges_listed code) a path last → IsFlowPath code a path last
flow_path code a [] last same = same
flow_path code a (next ∷ path) last (among, rest) = (edge-from_edges_listed code a next among, flow_path code next path last rest)

search_path : (code : Code) (a : ℕ) (path : List ℕ) (last : ℕ) → IsFlowPath code a path last → IsSearchPath (edges_listed code) a path last
search_path code a [] last same = same
search_path code a (next ∷ path) last (edge, rest) = (edges_listed-from_edge code a next edge, search_path code next path last rest)

listed_inside : (code : Code) (j next : ℕ) → Contains (edges_listed code j) next → (j < length code.items) × (next < length code.items)
listed_inside code j next among =
    let edge = edge-from_edges_listed code j next among in (edge_from_item code j next edge, edge_inside code j next edge)

pub loops_are_by_paths : LoopsAreByPaths
loops_are_by_paths code j = (forth, back) where
  forth : is_looped code j ≡ true → IsLooped code j
  forth is =
      let found = next_found (edges_listed code) (length code.items) j j is in
      let way = path_from (edges_listed code) (length code.items) found.0 j found.2 in
      record {
        next = found.0;
        edge = edge-from_edges_listed code j found.0 found.1;
        path = way.0;
        leads = flow_path code found.0 way.0 j way.1;
      }

  back : IsLooped code j → is_looped code j ≡ true
  back loop =
      any_next (edges_listed code) (length code.items) j loop.next j (edges_listed-from_edge code j loop.next loop.edge)
      (leads_from (edges_listed code) (length code.items) (listed_inside code) loop.next loop.path j (search_path code loop.next loop.path j loop.leads))

-- ---- the walk

-- the walk, and what it need not go over again
pub record LoopingOnce (code : Code) (flow : Flow) (item : ℕ) (reached : List Bool) (waiting : List ℕ) (done : List Bool) : Type 0 where
  pub looping : Looping code item reached waiting
  pub covered : IsMarkedBy flow done reached

module _ (code : Code) (item : ℕ) (edges : List ℕ) (listed : (next : ℕ) → Contains edges next ↔ IsEdge code item next) where
  -- the ends of the item's edges are marked, and wait
  pub looping_first : (row : List Bool) (waiting : List ℕ) → Marks edges (replicate (length code.items) false) row [] waiting
      → Looping code item row waiting
  looping_first row waiting marks = record {
    bits = marks.same_length ∙ length-replicate (length code.items) false;
    first = λ next edge. marks.listed next ((listed next).1 edge);
    sound = λ j is. record { next = j; edge = (listed j).0 (new j is).0; path = []; leads = refl };
    waiting_marked = λ j waits.
        ⊎_elim (λ (none : Contains [] j). absurd (let inside = none.1 in omega arith)) (λ now. marks.listed j now.0) (marks.waiting_listed j waits);
    closed = λ j is. inl (new j is).1;
  } where
    new : (j : ℕ) → has row j ≡ true → Contains edges j × Contains waiting j
    new j is =
        ⊎_elim (λ (was : has (replicate (length code.items) false) j ≡ true). absurd (false≢true (sym (has-replicate (length code.items) j) ∙ was)))
        (λ now. now) (marks.only_listed j is)

module _ (code : Code) (item : ℕ) (old : List Bool) (rest : List ℕ) (j : ℕ) (so_far : Looping code item old (rest ++ j ∷ [])) where
  marked : has old j ≡ true
  marked = so_far.waiting_marked j (Contains-push rest j)

  -- an item that waits is one
  pub looping_inside : j < length code.items
  looping_inside = let inside = has_inside old j marked in omega (arith, inside, so_far.bits)

  -- the ends of its edges are marked
  pub looping_more : (edges : List ℕ) (row : List Bool) (waiting : List ℕ) → ((next : ℕ) → Contains edges next ↔ IsEdge code j next)
      → Marks edges old row rest waiting → Looping code item row waiting
  looping_more edges row waiting listed marks = record {
    bits = marks.same_length ∙ so_far.bits;
    first = λ next edge. marks.kept next (so_far.first next edge);
    sound = λ x is. ⊎_elim (λ was. so_far.sound x was) (λ now. ahead x now.0) (marks.only_listed x is);
    waiting_marked = λ x waits.
        ⊎_elim (λ before. marks.kept x (so_far.waiting_marked x (Contains-append_left rest (j ∷ []) x before))) (λ now. marks.listed x now.0)
        (marks.waiting_listed x waits);
    closed = λ x is. ⊎_elim (λ was. closed x was) (λ now. inl now.1) (marks.only_listed x is);
  } where
    ahead : (x : ℕ) → Contains edges x → IsAhead code item x
    ahead x end =
        let way = so_far.sound j marked in
        record {
          next = way.next;
          edge = way.edge;
          path = way.path ++ x ∷ [];
          leads = IsFlowPath-more code way.next way.path j x way.leads ((listed x).0 end);
        }

    closed : (x : ℕ) → has old x ≡ true → Contains waiting x ⊎ ((next : ℕ) → IsEdge code x next → has row next ≡ true)
    closed x was =
        ⊎_elim
        (λ (waited : Contains (rest ++ j ∷ []) x).
        ⊎_elim (λ still. inl (marks.still_waiting x still))
        (λ (same : j ≡ x). inr (λ next edge. marks.listed next ((listed next).1 (subst (λ n. IsEdge code n next) (sym same) edge))))
        (Contains-push_cases rest j x waited))
        (λ on. inr (λ next edge. marks.kept next (on next edge)))
        (so_far.closed x was)

-- where no item waits, the item is marked exactly where it lies in a loop
module _ (code : Code) (item : ℕ) (reached : List Bool) (walked : Looping code item reached []) where
  along : (path : List ℕ) (a b : ℕ) → has reached a ≡ true → IsFlowPath code a path b → has reached b ≡ true
  along [] a b is same = subst (λ n. has reached n ≡ true) same is
  along (next ∷ path) a b is (edge, rest) =
      along path next b
      (⊎_elim (λ (none : Contains [] a). absurd (let inside = none.1 in omega arith)) (λ closed. closed next edge) (walked.closed a is)) rest

  pub looping_all : has reached item ≡ is_looped code item
  looping_all = same_test (has reached item) (is_looped code item) forth back where
    forth : has reached item ≡ true → is_looped code item ≡ true
    forth is = (loops_are_by_paths code item).1 (walked.sound item is)

    back : is_looped code item ≡ true → has reached item ≡ true
    back is =
        let loop = (loops_are_by_paths code item).0 is in
        along loop.path loop.next item (walked.first loop.next loop.edge) loop.leads
