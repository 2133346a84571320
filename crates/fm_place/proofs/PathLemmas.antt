-- What a holder may hold: by a bound on the edges of a path, and by a path of any length.
use Rattle.std.proofs.Common.{◌≡◌, ◌⊎◌, ℕ, zero, suc, ◌+◌, ◌<◌, ◌≤◌, ◌&&◌, not, Bool, true, false, List, [], ◌∷◌, length, map, replicate, Contains, refl, inl, inr, ⊎_elim, sym, ◌∙◌, subst, eq-eqb, arith}
use Rattle.std.specs.Prelude.{nat_eq}
use Rattle.std.specs.List.{list_any, range_with_len}
use Rattle.std.proofs.lemmas.Bool.{and_from, cases_lt, eqb-true, false≢true, not-true, not_from_false, or_cases, or_left, or_right}
use Rattle.std.proofs.lemmas.List.{length-replicate}
use Rattle.std.proofs.lemmas.List.FromFn.{get_or-map-range_with_len, length-map-range_with_len}
use Rattle.fm_base.proofs.ContainsFacts.{any-found}
use Rattle.fm_base.proofs.TestFacts.{and_left, and_right}
use Rattle.fm_base.specs.Rows.{has}
use Rattle.fm_code.proofs.EdgesLemmas.{edge-from_edges_listed, edges_listed-from_edge}
use Rattle.fm_code.specs.Edges.{IsEdge, edges_listed}
use Rattle.fm_conn.proofs.ListLemmas.{Contains-from_range, Contains-range}
use Rattle.fm_conn.specs.Facts.{Facts}
use Rattle.fm_conn.specs.Nodes.{TypedMethod}
use Rattle.fm_flow.proofs.ReachLemmas.{edge_from_item, edge_inside}
use Rattle.fm_base.proofs.RowFacts.{has-replicate, has_inside}
use Rattle.fm_flow.proofs.UnsetBits.{unset-cons, unset-lt}
use Rattle.fm_flow.specs.Marking.{unset}
use Rattle.fm_place.proofs.PlaceLemmas.{any-from}
use Rattle.fm_place.specs.Laws.{PlacesAreByPaths}
use Rattle.fm_place.specs.Places.{is_busy, is_place, IsBusyPath, leads_busily, may_hold, MayHold}

-- no more bits aren't set than there are
unset-most : (row : List Bool) → unset row ≤ length row
unset-most [] = omega arith
unset-most (true ∷ row) = let rest = unset-most row in omega (arith, rest, unset-cons true row)
unset-most (false ∷ row) = let rest = unset-most row in omega (arith, rest, unset-cons false row)

module _ (facts : Facts) (x : TypedMethod) (class : ℕ) where
  -- a path of at most this many edges leads there
  abbrev Leads : (edges j last : ℕ) → Type 0
  Leads edges j last = leads_busily facts x class edges j last ≡ true

  -- the class is busy at the item, and one of its edges is the first of such a path
  abbrev GoesOn : (edges j last : ℕ) → Type 0
  GoesOn edges j last = (next : ℕ) × ((is_busy facts x class j ≡ true) × (IsEdge x.code j next × Leads edges next last))

  abbrev goes_on : (edges j last : ℕ) → Bool
  goes_on edges j last = is_busy facts x class j && list_any (λ next. leads_busily facts x class edges next last) (edges_listed x.code j)

  here : (edges j : ℕ) → Leads edges j j
  here zero j = eq-eqb j j refl
  here (suc edges) j = or_left (nat_eq j j) (goes_on edges j j) (eq-eqb j j refl)

  onward : (edges j next last : ℕ) → is_busy facts x class j ≡ true → IsEdge x.code j next → Leads edges next last → Leads (suc edges) j last
  onward edges j next last busy edge leads =
      or_right (nat_eq j last) (goes_on edges j last)
      (and_from (is_busy facts x class j) (list_any (λ n. leads_busily facts x class edges n last) (edges_listed x.code j)) busy
      (any-from (λ n. leads_busily facts x class edges n last) (edges_listed x.code j) next (edges_listed-from_edge x.code j next edge) leads))

  first-edge : (edges j last : ℕ) → Leads (suc edges) j last → (j ≡ last) ⊎ GoesOn edges j last
  first-edge edges j last leads = ⊎_elim (λ same. inl (eqb-true j last same)) (λ on. inr (along on)) (or_cases (nat_eq j last) (goes_on edges j last) leads) where
    any : Bool
    any = list_any (λ n. leads_busily facts x class edges n last) (edges_listed x.code j)

    of_edge : is_busy facts x class j ≡ true → (next : ℕ) × Contains (edges_listed x.code j) next × (leads_busily facts x class edges next last ≡ true)
        → GoesOn edges j last
    of_edge busy (next, listed, leads_on) = (next, (busy, (edge-from_edges_listed x.code j next listed, leads_on)))

    along : goes_on edges j last ≡ true → GoesOn edges j last
    along on =
        of_edge (and_left (is_busy facts x class j) any on)
        (any-found (λ n. leads_busily facts x class edges n last) (edges_listed x.code j) (and_right (is_busy facts x class j) any on))

  -- it is a path
  path-from : (edges j last : ℕ) → Leads edges j last → (path : List ℕ) × IsBusyPath facts x class j path last
  path-from zero j last leads = ([], eqb-true j last leads)
  path-from (suc edges) j last leads =
      ⊎_elim (λ same. ([], same))
      (λ (on : GoesOn edges j last). let rest = path-from edges on.0 last on.1.1.1 in (on.0 ∷ rest.0, (on.1.0, (on.1.1.0, rest.1))))
      (first-edge edges j last leads)

  -- an edge more at the end
  leads-on : (edges j before last : ℕ) → Leads edges j before → is_busy facts x class before ≡ true → IsEdge x.code before last → Leads (suc edges) j last
  leads-on zero j before last leads busy edge =
      let same : j ≡ before = eqb-true j before leads in
      onward zero j last last (subst (λ n. is_busy facts x class n ≡ true) (sym same) busy) (subst (λ n. IsEdge x.code n last) (sym same) edge) (here zero last)
  leads-on (suc edges) j before last leads busy edge =
      ⊎_elim
      (λ (same : j ≡ before).
      onward (suc edges) j last last (subst (λ n. is_busy facts x class n ≡ true) (sym same) busy) (subst (λ n. IsEdge x.code n last) (sym same) edge)
      (here (suc edges) last))
      (λ (on : GoesOn edges j before). onward (suc edges) j on.0 last on.1.0 on.1.1.0 (leads-on edges on.0 before last on.1.1.1 busy edge))
      (first-edge edges j before leads)

  -- the bound may be one more
  leads-more : (edges j last : ℕ) → Leads edges j last → Leads (suc edges) j last
  leads-more zero j last leads = or_left (nat_eq j last) (goes_on zero j last) leads
  leads-more (suc edges) j last leads =
      ⊎_elim (λ (same : j ≡ last). or_left (nat_eq j last) (goes_on (suc edges) j last) (eq-eqb j last same))
      (λ (on : GoesOn edges j last). onward (suc edges) j on.0 last on.1.0 on.1.1.0 (leads-more edges on.0 last on.1.1.1))
      (first-edge edges j last leads)

  -- ---- a bound that is enough

  -- the ends of all paths are reached within the bound
  abbrev Complete : (a edges : ℕ) → Type 0
  Complete a edges = (path : List ℕ) (last : ℕ) → IsBusyPath facts x class a path last → Leads edges a last

  -- what is reached within the bound is closed under edges
  abbrev Closed : (a edges : ℕ) → Type 0
  Closed a edges = (before last : ℕ) → Leads edges a before → is_busy facts x class before ≡ true → IsEdge x.code before last → Leads edges a last

  along-closed : (a edges : ℕ) → Closed a edges → (path : List ℕ) (c last : ℕ) → Leads edges a c → IsBusyPath facts x class c path last → Leads edges a last
  along-closed a edges closed [] c last leads same = subst (λ n. Leads edges a n) same leads
  along-closed a edges closed (next ∷ path) c last leads (busy, (edge, rest)) = along-closed a edges closed path next last (closed c next leads busy edge) rest

  abbrev count : ℕ
  count = length x.code.items

  -- what is reached within the bound, as a row
  abbrev reached : (a edges : ℕ) → List Bool
  reached a edges = map (leads_busily facts x class edges a) (range_with_len 0 count)

  reached-count : (a edges : ℕ) → length (reached a edges) ≡ count
  reached-count a edges = length-map-range_with_len (leads_busily facts x class edges a) 0 count

  reached-is : (a edges j : ℕ) → j < count → has (reached a edges) j ≡ leads_busily facts x class edges a j
  reached-is a edges j inside = get_or-map-range_with_len (leads_busily facts x class edges a) 0 count j j false inside (omega arith)

  -- whether an item is reached by one edge more alone
  abbrev is_new : (a edges j : ℕ) → Bool
  is_new a edges j = leads_busily facts x class (suc edges) a j && not (leads_busily facts x class edges a j)

  closed-from : (a edges : ℕ) → list_any (is_new a edges) (range_with_len 0 count) ≡ false → Closed a edges
  closed-from a edges none before last leads busy edge = by_test (leads_busily facts x class edges a last) refl where
    on : Leads (suc edges) a last
    on = leads-on edges a before last leads busy edge

    inside : last < count
    inside = edge_inside x.code before last edge

    by_test : (b : Bool) → leads_busily facts x class edges a last ≡ b → leads_busily facts x class edges a last ≡ true
    by_test true is = is
    by_test false is =
        absurd (false≢true (sym none ∙ any-from (is_new a edges) (range_with_len 0 count) last (Contains-range 0 count last (omega arith) (omega (arith, inside)))
        (and_from (leads_busily facts x class (suc edges) a last) (not (leads_busily facts x class edges a last)) on
        (not_from_false (leads_busily facts x class edges a last) is))))

  fewer : (a edges : ℕ) → list_any (is_new a edges) (range_with_len 0 count) ≡ true → unset (reached a (suc edges)) + 1 ≤ unset (reached a edges)
  fewer a edges some = of_item (any-found (is_new a edges) (range_with_len 0 count) some) where
    kept : (k : ℕ) → has (reached a edges) k ≡ true → has (reached a (suc edges)) k ≡ true
    kept k is =
        let within = has_inside (reached a edges) k is in
        let all = reached-count a edges in
        let inside : k < count = omega (arith, within, all) in
        reached-is a (suc edges) k inside ∙ leads-more edges a k (sym (reached-is a edges k inside) ∙ is)

    of_item : (j : ℕ) × Contains (range_with_len 0 count) j × (is_new a edges j ≡ true) → unset (reached a (suc edges)) + 1 ≤ unset (reached a edges)
    of_item (j, among, new) =
        let below = (Contains-from_range 0 count j among).1 in
        let inside : j < count = omega (arith, below) in
        unset-lt (reached a edges) (reached a (suc edges)) j (reached-count a (suc edges) ∙ sym (reached-count a edges)) kept
        (reached-is a edges j inside
        ∙ not-true (leads_busily facts x class edges a j)
        (and_right (leads_busily facts x class (suc edges) a j) (not (leads_busily facts x class edges a j)) new))
        (reached-is a (suc edges) j inside
        ∙ and_left (leads_busily facts x class (suc edges) a j) (not (leads_busily facts x class edges a j)) new)

  at-start : (a : ℕ) → Complete a 0 ⊎ (unset (reached a 0) + 0 + 1 ≤ count)
  at-start a = ⊎_elim (λ inside. inr (counted inside)) (λ past. inl (alone past)) (cases_lt a count) where
    alone : count ≤ a → Complete a 0
    alone past [] last same = eq-eqb a last same
    alone past (next ∷ path) last (busy, (edge, rest)) = let inside = edge_from_item x.code a next edge in absurd (omega (arith, inside, past))

    counted : a < count → unset (reached a 0) + 0 + 1 ≤ count
    counted inside =
        let none : List Bool = replicate count false in
        let size = length-replicate count false in
        let most = unset-most none in
        let less = unset-lt none (reached a 0) a (reached-count a 0 ∙ sym size) (λ k is. absurd (false≢true (sym (has-replicate count k) ∙ is)))
        (has-replicate count a) (reached-is a 0 a inside ∙ eq-eqb a a refl) in
        omega (arith, less, most, size)

  -- all is reached, or with each edge more one item more at least
  grows : (a edges : ℕ) → Complete a edges ⊎ (unset (reached a edges) + edges + 1 ≤ count)
  grows a zero = at-start a
  grows a (suc edges) = of_before (grows a edges) where
    more : Complete a edges → Complete a (suc edges)
    more complete path last leads = leads-more edges a last (complete path last leads)

    by_test : unset (reached a edges) + edges + 1 ≤ count → (b : Bool) → list_any (is_new a edges) (range_with_len 0 count) ≡ b
        → Complete a (suc edges) ⊎ (unset (reached a (suc edges)) + suc edges + 1 ≤ count)
    by_test few true some = let less = fewer a edges some in inr (omega (arith, few, less))
    by_test few false none = inl (more (λ path last leads. along-closed a edges (closed-from a edges none) path a last (here edges a) leads))

    of_before : Complete a edges ⊎ (unset (reached a edges) + edges + 1 ≤ count) → Complete a (suc edges) ⊎ (unset (reached a (suc edges)) + suc edges + 1 ≤ count)
    of_before (inl complete) = inl (more complete)
    of_before (inr few) = by_test few (list_any (is_new a edges) (range_with_len 0 count)) refl

  complete-at_count : (a : ℕ) → Complete a count
  complete-at_count a = ⊎_elim (λ complete. complete) (λ few. absurd (omega (arith, few))) (grows a count)

  pub may_hold-from : (site j : ℕ) → MayHold facts x site class j → may_hold facts x site class j ≡ true
  may_hold-from site j (path, leads) = complete-at_count (site + 1) path j leads

  pub may_hold-tells : (site j : ℕ) → may_hold facts x site class j ≡ true → MayHold facts x site class j
  may_hold-tells site j holds = path-from count (site + 1) j holds

-- ---- places

pub places_are_by_paths : PlacesAreByPaths
places_are_by_paths facts x site class j = (forth, back) where
  forth : is_place facts x site class j ≡ true → (is_busy facts x class j ≡ false) × MayHold facts x site class j
  forth holds = (
    not-true (is_busy facts x class j) (and_left (not (is_busy facts x class j)) (may_hold facts x site class j) holds),
    may_hold-tells facts x class site j (and_right (not (is_busy facts x class j)) (may_hold facts x site class j) holds),
  )

  back : (is_busy facts x class j ≡ false) × MayHold facts x site class j → is_place facts x site class j ≡ true
  back (quiet, may) =
      and_from (not (is_busy facts x class j)) (may_hold facts x site class j) (not_from_false (is_busy facts x class j) quiet)
      (may_hold-from facts x class site j may)
