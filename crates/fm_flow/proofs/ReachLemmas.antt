-- The walk from the first item along the edges.
use Rattle.std.proofs.Common.{◌≡◌, ℕ, ◌+◌, ◌<◌, ◌≤◌, ◌⊎◌, ◌↔◌, Bool, true, false, List, [], ◌∷◌, ◌++◌, length, take, replicate, get_or, set, Contains, Option, None, IsSomeAnd, refl, inl, inr, ⊎_elim, ap, sym, ◌∙◌, subst, arith, length-set}
use Rattle.std.proofs.lemmas.Bool.{cases_lt, false≢true, false_from_ne_true}
use Rattle.std.proofs.lemmas.List.{get_or-replicate, length-replicate, length_push}
use Rattle.std.proofs.lemmas.List.Elements.{Contains-append_cases, Contains-append_left, Contains-append_right, Contains-push, Contains-push_cases}
use Rattle.std.proofs.lemmas.Option.{slice_get_past}
use Rattle.std.specs.Option.{option_map}
use Rattle.fm_base.specs.Rows.{has}
use Rattle.fm_code.specs.Edges.{insn_of, LeadsTo, IsEdge, IsFlowPath}
use Rattle.fm_code.specs.declared.code_array.Code.{Code}
use Rattle.fm_code.specs.declared.code_array.Item.{Item}
use Rattle.fm_code.specs.declared.instructions.Insn.{Insn}
use Rattle.fm_flow.proofs.RisingLemmas.{Contains-take_more}
use Rattle.fm_base.proofs.RowFacts.{has_inside, has-set_same, has-set_kept, has-set_only}
use Rattle.fm_flow.proofs.UnsetBits.{unset-set}
use Rattle.fm_flow.specs.Tables.{AreReachableOf}
use Rattle.fm_flow.specs.inner.Walks.{Reaching}
use Rattle.fm_flow.specs.Marking.{Covers, Marks}

-- ---- a list of items is marked

-- none of them
pub Marks-none : (row : List Bool) (waiting : List ℕ) → Marks [] row row waiting waiting
Marks-none row waiting = record {
  same_length = refl;
  kept = λ j is. is;
  listed = λ j (k, inside, there). absurd (omega arith);
  only_listed = λ j is. inl is;
  still_waiting = λ j waits. waits;
  waiting_listed = λ j waits. inl waits;
  work = refl;
}

-- one more, which wasn't marked
pub Marks-new : (list : List ℕ) (i : ℕ) (old row : List Bool) (old_waiting waiting : List ℕ) → i < length list → Marks (take i list) old row old_waiting waiting →
    get_or list i 0 < length row → has row (get_or list i 0) ≡ false →
    Marks (take (i + 1) list) old (set row (get_or list i 0) true) old_waiting (waiting ++ get_or list i 0 ∷ [])
Marks-new list i old row old_waiting waiting inside so_far in_row unmarked =
    let j = get_or list i 0 in
    let more : (x : ℕ) → Contains (take (i + 1) list) x ↔ (Contains (take i list) x ⊎ (j ≡ x)) = λ x. Contains-take_more list i x inside in
    let fewer = unset-set row j in_row unmarked in
    let longer = length_push waiting j in
    let work = so_far.work in
    record {
      same_length = length-set row j true ∙ so_far.same_length;
      kept = λ x is. has-set_kept row j x (so_far.kept x is);
      listed = λ x found.
          ⊎_elim (λ earlier. has-set_kept row j x (so_far.listed x earlier))
          (λ (same : j ≡ x). subst (λ (n : ℕ). has (set row j true) n ≡ true) same (has-set_same row j in_row))
          ((more x).0 found);
      only_listed = λ x is.
          ⊎_elim
          (λ (same : x ≡ j). inr ((more x).1 (inr (sym same)), subst (λ (n : ℕ). Contains (waiting ++ j ∷ []) n) (sym same) (Contains-push waiting j)))
          (λ was. ⊎_elim (λ before. inl before) (λ now. inr ((more x).1 (inl now.0), Contains-append_left waiting (j ∷ []) x now.1)) (so_far.only_listed x was))
          (has-set_only row j x is);
      still_waiting = λ x waits. Contains-append_left waiting (j ∷ []) x (so_far.still_waiting x waits);
      waiting_listed = λ x waits.
          ⊎_elim (λ earlier. ⊎_elim (λ before. inl before) (λ now. inr ((more x).1 (inl now.0), now.1)) (so_far.waiting_listed x earlier))
          (λ (same : j ≡ x). inr ((more x).1 (inr same), subst (λ (n : ℕ). has old n ≡ false) same (false_from_ne_true (has old j) (λ was. false≢true (sym unmarked ∙ so_far.kept j was)))))
          (Contains-push_cases waiting j x waits);
      work = omega arith;
    }

-- one more, which was
pub Marks-known : (list : List ℕ) (i : ℕ) (old row : List Bool) (old_waiting waiting : List ℕ) → i < length list → Marks (take i list) old row old_waiting waiting →
    has row (get_or list i 0) ≡ true → Marks (take (i + 1) list) old row old_waiting waiting
Marks-known list i old row old_waiting waiting inside so_far marked =
    let j = get_or list i 0 in
    let more : (x : ℕ) → Contains (take (i + 1) list) x ↔ (Contains (take i list) x ⊎ (j ≡ x)) = λ x. Contains-take_more list i x inside in
    record {
      same_length = so_far.same_length;
      kept = so_far.kept;
      listed = λ x found.
          ⊎_elim (λ earlier. so_far.listed x earlier) (λ (same : j ≡ x). subst (λ (n : ℕ). has row n ≡ true) same marked) ((more x).0 found);
      only_listed = λ x is. ⊎_elim (λ before. inl before) (λ now. inr ((more x).1 (inl now.0), now.1)) (so_far.only_listed x is);
      still_waiting = so_far.still_waiting;
      waiting_listed = λ x waits. ⊎_elim (λ before. inl before) (λ now. inr ((more x).1 (inl now.0), now.1)) (so_far.waiting_listed x waits);
      work = so_far.work;
    }

-- all of them were marked before
pub Marks-all : (list : List ℕ) (row : List Bool) (waiting : List ℕ) → ((j : ℕ) → Contains list j → has row j ≡ true) → Marks list row row waiting waiting
Marks-all list row waiting all = record {
  same_length = refl;
  kept = λ j is. is;
  listed = all;
  only_listed = λ j is. inl is;
  still_waiting = λ j waits. waits;
  waiting_listed = λ j waits. inl waits;
  work = refl;
}

-- two lists, one after the other
pub Marks-append : (a b : List ℕ) (old mid new : List Bool) (old_waiting mid_waiting waiting : List ℕ) → Marks a old mid old_waiting mid_waiting →
    Marks b mid new mid_waiting waiting → Marks (a ++ b) old new old_waiting waiting
Marks-append a b old mid new old_waiting mid_waiting waiting first second = record {
  same_length = second.same_length ∙ first.same_length;
  kept = λ j is. second.kept j (first.kept j is);
  listed = λ j found.
      ⊎_elim (λ one. second.kept j (first.listed j one)) (λ other. second.listed j other) (Contains-append_cases a b j found);
  only_listed = λ j is.
      ⊎_elim
      (λ before.
      ⊎_elim (λ was. inl was) (λ now. inr (Contains-append_left a b j now.0, second.still_waiting j now.1)) (first.only_listed j before))
      (λ now. inr (Contains-append_right a b j now.0, now.1))
      (second.only_listed j is);
  still_waiting = λ j waits. second.still_waiting j (first.still_waiting j waits);
  waiting_listed = λ j waits.
      ⊎_elim
      (λ before. ⊎_elim (λ was. inl was) (λ now. inr (Contains-append_left a b j now.0, now.1)) (first.waiting_listed j before))
      (λ now. inr (Contains-append_right a b j now.0, false_from_ne_true (has old j) (λ was. false≢true (sym now.1 ∙ first.kept j was))))
      (second.waiting_listed j waits);
  work = second.work ∙ first.work;
}

-- ---- the walk

-- an edge leads to an item
pub edge_inside : (code : Code) (j next : ℕ) → IsEdge code j next → next < length code.items
edge_inside code j next (inl edge) = edge.inside
edge_inside code j next (inr edge) = edge.inside

-- and comes from one
pub edge_from_item : (code : Code) (j next : ℕ) → IsEdge code j next → j < length code.items
edge_from_item code j next (inl edge) =
    ⊎_elim (λ (inside : j < length code.items). inside)
    (λ (past : length code.items ≤ j).
    let none : insn_of code j ≡ None = ap (option_map (λ (item : Item). item.insn)) (slice_get_past code.items j past) in
    absurd (subst (λ (o : Option Insn). IsSomeAnd o (λ i. LeadsTo i j next)) none edge.leads))
    (cases_lt j (length code.items))
edge_from_item code j next (inr edge) = edge.from_item

-- a path goes on along an edge
pub IsFlowPath-more : (code : Code) (a : ℕ) (path : List ℕ) (j next : ℕ) → IsFlowPath code a path j → IsEdge code j next → IsFlowPath code a (path ++ next ∷ []) next
IsFlowPath-more code a [] j next same edge = (subst (λ (n : ℕ). IsEdge code n next) (sym same) edge, refl)
IsFlowPath-more code a (b ∷ path) j next (first, rest) edge = (first, IsFlowPath-more code b path j next rest edge)

-- the first item alone is marked, and waits
pub Reaching-first : (code : Code) (n : ℕ) → 0 < n → n ≡ length code.items → Reaching code (set (replicate n false) 0 true) (0 ∷ [])
Reaching-first code n some count =
    let marks = replicate n false in
    let size : length marks ≡ n = length-replicate n false in
    let only : (j : ℕ) → has (set marks 0 true) j ≡ true → j ≡ 0 = λ j is.
    ⊎_elim (λ same. same)
    (λ (was : has marks j ≡ true). absurd (let inside = has_inside marks j was in false≢true (sym (get_or-replicate n j false false (omega arith)) ∙ was)))
    (has-set_only marks 0 j is) in
    record {
      bits = length-set marks 0 true ∙ size ∙ count;
      first = has-set_same marks 0 (omega arith);
      sound = λ j is. ([], sym (only j is));
      waiting_marked = λ j waits.
          ⊎_elim (λ (none : Contains [] j). absurd (let inside = none.1 in omega arith))
          (λ (same : 0 ≡ j). subst (λ (k : ℕ). has (set marks 0 true) k ≡ true) same (has-set_same marks 0 (omega arith)))
          (Contains-push_cases [] 0 j waits);
      closed = λ j is. inl (subst (λ (k : ℕ). Contains (0 ∷ []) k) (sym (only j is)) (Contains-push [] 0));
    }

-- an item that waits is one
pub waiting_inside : (code : Code) (reached : List Bool) (rest : List ℕ) (j : ℕ) → Reaching code reached (rest ++ j ∷ []) → j < length code.items
waiting_inside code reached rest j so_far =
    let inside = has_inside reached j (so_far.waiting_marked j (Contains-push rest j)) in
    let bits = so_far.bits in omega arith

-- the ends of an item's edges are marked
pub Reaching-more : (code : Code) (ends : List ℕ) (old row : List Bool) (rest waiting : List ℕ) (j : ℕ) → ((x : ℕ) → Contains ends x ↔ IsEdge code j x) →
    Reaching code old (rest ++ j ∷ []) → Marks ends old row rest waiting → Reaching code row waiting
Reaching-more code ends old row rest waiting j are so_far marks =
    let reached = so_far.sound j (so_far.waiting_marked j (Contains-push rest j)) in
    record {
      bits = marks.same_length ∙ so_far.bits;
      first = marks.kept 0 so_far.first;
      sound = λ x is.
          ⊎_elim (λ before. so_far.sound x before)
          (λ now. (reached.0 ++ x ∷ [], IsFlowPath-more code 0 reached.0 j x reached.1 ((are x).0 now.0)))
          (marks.only_listed x is);
      waiting_marked = λ x waits.
          ⊎_elim (λ before. marks.kept x (so_far.waiting_marked x (Contains-append_left rest (j ∷ []) x before))) (λ now. marks.listed x now.0) (marks.waiting_listed x waits);
      closed = λ x is.
          ⊎_elim
          (λ before.
          ⊎_elim
          (λ (waited : Contains (rest ++ j ∷ []) x).
          ⊎_elim (λ still. inl (marks.still_waiting x still))
          (λ (same : j ≡ x). inr (λ next edge. marks.listed next ((are next).1 (subst (λ (n : ℕ). IsEdge code n next) (sym same) edge))))
          (Contains-push_cases rest j x waited))
          (λ closed. inr (λ next edge. marks.kept next (closed next edge)))
          (so_far.closed x before))
          (λ now. inl now.1)
          (marks.only_listed x is);
    }

-- the walk, and the runs whose handlers are marked
pub record ReachingOnce (code : Code) (caught : List (List ℕ)) (reached : List Bool) (waiting : List ℕ) (done : List Bool) : Type 0 where
  pub reaching : Reaching code reached waiting
  pub covers : Covers caught done reached

-- where no item waits, all items along a path are marked
marked_along : (code : Code) (reached : List Bool) → Reaching code reached [] → (path : List ℕ) (a b : ℕ) → has reached a ≡ true → IsFlowPath code a path b →
    has reached b ≡ true
marked_along code reached walked [] a b is same = subst (λ (n : ℕ). has reached n ≡ true) same is
marked_along code reached walked (next ∷ path) a b is (edge, rest) =
    marked_along code reached walked path next b
    (⊎_elim (λ (none : Contains [] a). absurd (let inside = none.1 in omega arith)) (λ closed. closed next edge) (walked.closed a is)) rest

-- and the marked items are the reachable ones
pub AreReachableOf-all : (code : Code) (reached : List Bool) → Reaching code reached [] → AreReachableOf code reached
AreReachableOf-all code reached walked = record {
  one_each = walked.bits;
  each = λ j. (λ is. walked.sound j is, λ (path, leads). marked_along code reached walked path 0 j walked.first leads);
}
