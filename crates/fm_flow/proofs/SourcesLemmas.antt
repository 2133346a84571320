-- Where the edges to an item come from: runs of items that have the same handlers, and the walk over them.
use Rattle.std.proofs.Common.{◌≡◌, ◌≢◌, ℕ, ◌+◌, ◌-◌, ◌<◌, ◌≤◌, ◌⊎◌, ◌↔◌, Bool, List, [], ◌∷◌, ◌++◌, length, take, replicate, get_or, Contains, refl, inl, inr, ⊎_elim, ap, sym, ◌∙◌, subst, arith, append-nil, length-set}
use Rattle.std.proofs.lemmas.Bool.{cases_eq, cases_lt}
use Rattle.std.proofs.lemmas.Grind.{flat_map-append}
use Rattle.std.proofs.lemmas.List.{get_or-set_same, get_or-set_other, get_or-replicate, get_or_append_left, get_or_past, get_or_push, length-replicate, length_push, take_more}
use Rattle.std.proofs.lemmas.List.Elements.{Contains-append_cases, Contains-append_left, Contains-append_right, Contains-push, Contains-push_cases}
use Rattle.std.specs.List.{AllByRecursion, flat_map}
use Rattle.fm_base.proofs.ContainsFacts.{Contains-flat_map, Contains-none}
use Rattle.fm_code.specs.Edges.{IsEdge, IsHandlerEdge}
use Rattle.fm_code.specs.declared.code_array.Code.{Code}
use Rattle.fm_flow.proofs.EdgesOfLemmas.{caught_next}
use Rattle.fm_flow.proofs.ReachLemmas.{Marks-append, Marks-none}
use Rattle.fm_flow.proofs.RunLemmas.{Covers-more}
use Rattle.fm_flow.specs.declared.sources.Sources.{Sources}
use Rattle.fm_flow.specs.inner.LiveWalks.{list_of, Tracing}
use Rattle.fm_flow.specs.inner.Sources.{AreRunsOf, AreSourcesOf, BeginsRun, came_from, HasHandler, HasRuns, IsOpened, items_of, MarksRuns, Running, with_last}
use Rattle.fm_flow.specs.inner.Walks.{IsMarked, MarksRun}
use Rattle.fm_flow.specs.Marking.{Covers, Marks}

-- ---- lists

-- an element of lists that are put one after the other is one of theirs
pub Contains-from_flat_map : {X Y : Type 0} (f : X → List Y) (xs : List X) (y : Y) → Contains (flat_map f xs) y → (x : X) × Contains xs x × Contains (f x) y
Contains-from_flat_map f [] y (k, within, there) = absurd (omega arith)
Contains-from_flat_map f (x ∷ xs) y found =
    ⊎_elim (λ here. (x, (0, omega arith, refl), here))
    (λ later. let was = Contains-from_flat_map f xs y later in (was.0, Contains-append_right (x ∷ []) xs was.0 was.1, was.2))
    (Contains-append_cases (f x) (flat_map f xs) y found)

-- a number more in the last list
last_has : (lists : List (List ℕ)) (j : ℕ) → 0 < length lists → list_of (with_last lists j) (length lists - 1) ≡ list_of lists (length lists - 1) ++ j ∷ []
last_has lists j some = get_or-set_same lists (length lists - 1) (list_of lists (length lists - 1) ++ j ∷ []) [] (omega arith)

other_lists : (lists : List (List ℕ)) (j r : ℕ) → r ≢ length lists - 1 → list_of (with_last lists j) r ≡ list_of lists r
other_lists lists j r apart = get_or-set_other lists (length lists - 1) r (list_of lists (length lists - 1) ++ j ∷ []) [] apart

with_last-has : (lists : List (List ℕ)) (j r x : ℕ) → 0 < length lists → Contains (list_of (with_last lists j) r) x →
    Contains (list_of lists r) x ⊎ ((r ≡ length lists - 1) × (x ≡ j))
with_last-has lists j r x some found =
    ⊎_elim
    (λ (same : r ≡ length lists - 1).
    ⊎_elim (λ was. inl (subst (λ (k : ℕ). Contains (list_of lists k) x) (sym same) was)) (λ (is : j ≡ x). inr (same, sym is))
    (Contains-push_cases (list_of lists (length lists - 1)) j x
    (subst (λ (xs : List ℕ). Contains xs x) (last_has lists j some) (subst (λ (k : ℕ). Contains (list_of (with_last lists j) k) x) same found))))
    (λ (apart : r ≢ length lists - 1). inl (subst (λ (xs : List ℕ). Contains xs x) (other_lists lists j r apart) found))
    (cases_eq r (length lists - 1))

with_last-kept : (lists : List (List ℕ)) (j r x : ℕ) → 0 < length lists → Contains (list_of lists r) x → Contains (list_of (with_last lists j) r) x
with_last-kept lists j r x some found =
    ⊎_elim
    (λ (same : r ≡ length lists - 1).
    subst (λ (k : ℕ). Contains (list_of (with_last lists j) k) x) (sym same)
    (subst (λ (xs : List ℕ). Contains xs x) (sym (last_has lists j some))
    (Contains-append_left (list_of lists (length lists - 1)) (j ∷ []) x (subst (λ (k : ℕ). Contains (list_of lists k) x) same found))))
    (λ (apart : r ≢ length lists - 1). subst (λ (xs : List ℕ). Contains xs x) (sym (other_lists lists j r apart)) found)
    (cases_eq r (length lists - 1))

with_last-new : (lists : List (List ℕ)) (j : ℕ) → 0 < length lists → Contains (list_of (with_last lists j) (length lists - 1)) j
with_last-new lists j some = subst (λ (xs : List ℕ). Contains xs j) (sym (last_has lists j some)) (Contains-push (list_of lists (length lists - 1)) j)

-- an empty list more
pushed_old : (lists : List (List ℕ)) (r : ℕ) → r < length lists → list_of (lists ++ [] ∷ []) r ≡ list_of lists r
pushed_old lists r below = get_or_append_left lists ([] ∷ []) [] r below

pushed_none : (lists : List (List ℕ)) (r : ℕ) → length lists ≤ r → list_of (lists ++ [] ∷ []) r ≡ []
pushed_none lists r past =
    ⊎_elim
    (λ (beyond : length lists < r). get_or_past (lists ++ [] ∷ []) r [] (let longer = length_push lists (let none : List ℕ = [] in none) in omega arith))
    (λ (up_to : r ≤ length lists). get_or_push lists [] [] r (omega arith))
    (cases_lt (length lists) r)

pushed_has : (lists : List (List ℕ)) (r x : ℕ) → Contains (list_of (lists ++ [] ∷ []) r) x → Contains (list_of lists r) x
pushed_has lists r x found =
    ⊎_elim
    (λ (below : r < length lists). subst (λ (xs : List ℕ). Contains xs x) (pushed_old lists r below) found)
    (λ (past : length lists ≤ r). absurd (Contains-none x (subst (λ (xs : List ℕ). Contains xs x) (pushed_none lists r past) found)))
    (cases_lt r (length lists))

-- empty lists
empty_list : (n k : ℕ) → list_of (replicate n []) k ≡ []
empty_list n k =
    ⊎_elim (λ (below : k < n). get_or-replicate n k [] [] below)
    (λ (past : n ≤ k). get_or_past (replicate n []) k [] (let size = length-replicate n (let none : List ℕ = [] in none) in omega arith))
    (cases_lt k n)

-- ---- runs

pub Running-none : (code : Code) (ends : List Bool) → Running code ends (replicate (length code.items) []) [] 0
Running-none code ends = record {
  runs = record {
    one_each = length-replicate (length code.items) [];
    within = λ h r found. absurd (Contains-none r (subst (λ (xs : List ℕ). Contains xs r) (empty_list (length code.items) h) found));
    below = λ r x found. absurd (Contains-none x (subst (λ (xs : List ℕ). Contains xs x) (empty_list 0 r) found));
    sound = λ h r x found there. absurd (Contains-none r (subst (λ (xs : List ℕ). Contains xs r) (empty_list (length code.items) h) found));
    complete = λ h x below handles. absurd (omega arith);
  };
  few = omega arith;
  ready = λ later unmarked. absurd (omega arith);
}

-- a run begins
pub Running-begin : (code : Code) (ends : List Bool) (old_by_handler old_items by_handler items : List (List ℕ)) (j : ℕ) → Running code ends old_by_handler old_items j →
    BeginsRun code j old_by_handler old_items by_handler items → IsOpened code by_handler items j
Running-begin code ends old_by_handler old_items by_handler items j so_far begins =
    let was = so_far.runs in
    let few = so_far.few in
    let n = length old_items in
    let longer : length items ≡ n + 1 = ap length begins.pushed ∙ length_push old_items [] in
    let list_is : (r : ℕ) → list_of items r ≡ list_of (old_items ++ [] ∷ []) r = λ r. ap (λ (lists : List (List ℕ)). list_of lists r) begins.pushed in
    let last : length items - 1 ≡ n = omega arith in
    let old_item : (r x : ℕ) → Contains (list_of items r) x → Contains (list_of old_items r) x =
    λ r x found. pushed_has old_items r x (subst (λ (xs : List ℕ). Contains xs x) (list_is r) found) in
    record {
      runs = record {
        one_each = begins.adds.same_length ∙ was.one_each;
        within = λ h r found.
            ⊎_elim (λ before. let low = was.within h r before in omega arith) (λ now. let same = now.1 in omega arith) ((begins.adds.members h r).0 found);
        below = λ r x found. was.below r x (old_item r x found);
        sound = λ h r x found there.
            ⊎_elim (λ before. was.sound h r x before (old_item r x there))
            (λ now.
            absurd (Contains-none x (subst (λ (xs : List ℕ). Contains xs x) (list_is r ∙ pushed_none old_items r (let same = now.1 in omega arith)) there)))
            ((begins.adds.members h r).0 found);
        complete = λ h x below handles.
            let run = was.complete h x below handles in (
              run.0,
              (begins.adds.members h run.0).1 (inl run.1),
              subst (λ (xs : List ℕ). Contains xs x) (sym (list_is run.0 ∙ pushed_old old_items run.0 (was.within h run.0 run.1))) run.2,
            );
      };
      ready = record {
        some = omega arith;
        few = omega arith;
        each = λ h. (
          λ handles. subst (λ (r : ℕ). Contains (list_of by_handler h) r) (sym last) ((begins.adds.members h n).1 (inr ((begins.are.members h).1 handles, refl))),
          λ found.
              ⊎_elim (λ before. absurd (let low = was.within h n before in omega arith)) (λ now. (begins.are.members h).0 now.0)
              ((begins.adds.members h n).0 (subst (λ (r : ℕ). Contains (list_of by_handler h) r) last found)),
        );
      };
    }

-- item j is put into the last run
pub Running-next : (code : Code) (ends : List Bool) (by_handler items after : List (List ℕ)) (j : ℕ) → AllByRecursion (IsMarked ends) code.handlers →
    IsOpened code by_handler items j → after ≡ with_last items j → Running code ends by_handler after (j + 1)
Running-next code ends by_handler items after j marked opened is =
    let was = opened.runs in
    let ready = opened.ready in
    let some = ready.some in
    let few = ready.few in
    let size : length after ≡ length items = ap length is ∙ length-set items (length items - 1) (list_of items (length items - 1) ++ j ∷ []) in
    let last : length after - 1 ≡ length items - 1 = ap (λ k. k - 1) size in
    let has_item : (r x : ℕ) → Contains (list_of after r) x → Contains (list_of items r) x ⊎ ((r ≡ length items - 1) × (x ≡ j)) =
    λ r x found. with_last-has items j r x some (subst (λ (lists : List (List ℕ)). Contains (list_of lists r) x) is found) in
    record {
      runs = record {
        one_each = was.one_each;
        within = λ h r found. let low = was.within h r found in omega arith;
        below = λ r x found.
            ⊎_elim (λ before. let low = was.below r x before in omega arith) (λ now. let same = now.1 in omega arith) (has_item r x found);
        sound = λ h r x found there.
            ⊎_elim (λ before. was.sound h r x found before)
            (λ now. subst (λ (y : ℕ). HasHandler code y h) (sym now.1) ((ready.each h).1 (subst (λ (k : ℕ). Contains (list_of by_handler h) k) now.0 found)))
            (has_item r x there);
        complete = λ h x below handles.
            ⊎_elim
            (λ (earlier : x < j).
            let run = was.complete h x earlier handles in
            (run.0, run.1, subst (λ (lists : List (List ℕ)). Contains (list_of lists run.0) x) (sym is) (with_last-kept items j run.0 x some run.2)))
            (λ (past : j ≤ x).
            let same : x ≡ j = omega arith in (
              length items - 1,
              (ready.each h).0 (subst (λ (y : ℕ). HasHandler code y h) same handles),
              subst (λ (lists : List (List ℕ)). Contains (list_of lists (length items - 1)) x) (sym is)
                  (subst (λ (y : ℕ). Contains (list_of (with_last items j) (length items - 1)) y) (sym same) (with_last-new items j some)),
            ))
            (cases_lt x j);
      };
      few = omega arith;
      ready = λ later unmarked. record {
        some = omega arith;
        few = omega arith;
        each = λ h.
            let next = caught_next ends code.handlers j h marked unmarked in (
              λ handles. subst (λ (r : ℕ). Contains (list_of by_handler h) r) (sym last) ((ready.each h).0 (next.1 handles)),
              λ found. next.0 ((ready.each h).1 (subst (λ (r : ℕ). Contains (list_of by_handler h) r) last found)),
            );
      };
    }

pub AreRunsOf-all : (code : Code) (ends : List Bool) (by_handler items : List (List ℕ)) (j : ℕ) → j ≡ length code.items → Running code ends by_handler items j →
    AreRunsOf code by_handler items
AreRunsOf-all code ends by_handler items j all running = record {
  runs = subst (HasRuns code by_handler items) all running.runs;
  few = let few = running.few in omega arith;
}

-- ---- the sources of an item

pub came_from-is : (code : Code) (s : Sources) (j : ℕ) → AreSourcesOf code s → j < length code.items → (x : ℕ) → Contains (came_from s j) x ↔ IsEdge code x j
came_from-is code s j are inside x =
    let own = list_of s.own.items j in
    let items = s.runs.items.items in
    let runs = list_of s.runs.by_handler.items j in (
      λ found.
          ⊎_elim (λ one. inl ((are.own.each j inside x).0 one))
          (λ other.
          let run = Contains-from_flat_map (list_of items) runs x other in
          inr (record {
            inside = inside;
            from_item = are.runs.runs.below run.0 x run.2;
            caught = are.runs.runs.sound j run.0 x run.1 run.2;
          }))
          (Contains-append_cases own (items_of items runs) x found),
      λ edge.
          ⊎_elim (λ one. Contains-append_left own (items_of items runs) x ((are.own.each j inside x).1 one))
          (λ (other : IsHandlerEdge code x j).
          let run = are.runs.runs.complete j x other.from_item other.caught in
          Contains-append_right own (items_of items runs) x (Contains-flat_map (list_of items) runs run.0 x run.1 run.2))
          edge,
    )

-- ---- the walk over runs

pub MarksRuns-none : (items : List (List ℕ)) (row : List Bool) (waiting : List ℕ) (done : List Bool) → Covers items done row →
    MarksRuns items [] row row waiting waiting done
MarksRuns-none items row waiting done covers = record { marks = Marks-none row waiting; covers = covers }

-- a run more
pub MarksRuns-more : (items : List (List ℕ)) (runs : List ℕ) (i : ℕ) (old mid new : List Bool) (old_waiting mid_waiting waiting : List ℕ) (mid_done done : List Bool) →
    i < length runs → MarksRuns items (take i runs) old mid old_waiting mid_waiting mid_done →
    MarksRun (list_of items (get_or runs i 0)) (get_or runs i 0) mid new mid_waiting waiting mid_done done →
    MarksRuns items (take (i + 1) runs) old new old_waiting waiting done
MarksRuns-more items runs i old mid new old_waiting mid_waiting waiting mid_done done inside so_far one =
    let run = get_or runs i 0 in
    let is : items_of items (take (i + 1) runs) ≡ items_of items (take i runs) ++ list_of items run =
    ap (items_of items) (take_more runs i 0 inside) ∙ flat_map-append (list_of items) (take i runs) (run ∷ [])
    ∙ ap (λ (xs : List ℕ). items_of items (take i runs) ++ xs) (append-nil (list_of items run)) in
    record {
      marks = subst (λ (xs : List ℕ). Marks xs old new old_waiting waiting) (sym is)
          (Marks-append (items_of items (take i runs)) (list_of items run) old mid new old_waiting mid_waiting waiting so_far.marks one.marks);
      covers = Covers-more items run mid new mid_waiting waiting mid_done done so_far.covers one;
    }

-- ---- the walk back along the edges

-- the walk, and the runs that are done
pub record TracingRuns (code : Code) (k : ℕ) (s : Sources) (row seen : List Bool) (waiting : List ℕ) (done : List Bool) : Type 0 where
  pub tracing : Tracing code k row seen waiting
  pub covers : Covers s.runs.items.items done seen
