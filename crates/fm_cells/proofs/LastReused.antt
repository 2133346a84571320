-- Memory that takes the last freed cell of a size class: its choices are among those of memory that reuses cells in any
-- way, its stores stay what they are, and of each size class as many cells are made as were held at once.
use Rattle.std.proofs.Common.{not, ◌≡◌, ◌≢◌, ℕ, ◌+◌, ◌<◌, ◌≤◌, Bool, true, false, cond, List, [], ◌∷◌, length, refl, sym, ◌∙◌, ap, subst, nat_eq, arith, inl, inr, max, length-set, get_or, set, get_or-set_same, get_or-set_other, replicate}
use Rattle.std.specs.Prelude.{Option, Some, None, IfSome, slice_set, slice_index_or}
use Rattle.std.specs.List.{AllByRecursion, IsDistinct}
use Rattle.std.proofs.lemmas.List.{length-replicate, set-get_or, get_or-replicate, get_or_past}
use Rattle.std.proofs.lemmas.Option.{none-some}
use Rattle.std.proofs.lemmas.Bool.{cases_eq, cases_lt, false≢true}
use Rattle.fm_base.proofs.ListFacts.{AllByRecursion-both, AllByRecursion-weaker, filter-passing}
use Rattle.fm_base.proofs.TestFacts.{apart-nat_eq, nat_eq-comm, same-nat_eq}
use Rattle.fm_cells.specs.Sizes.{cell_words}
use Rattle.fm_cells.specs.Objects.{Object, object_words, size_class_of, Request, request_words, request_size_class, new_object}
use Rattle.fm_cells.specs.Stores.{Store, opened, empty_lists, object_at, held_count, made_count, free_cells, passes_limit}
use Rattle.fm_cells.specs.Changes.{Choice, Take, RefuseStore, without, made_by, made_words_after, without_object, with_object}
use Rattle.fm_cells.specs.Choices.{MayReuse, new_cell_choice, last_choice, last_choice_among}
use Rattle.fm_cells.specs.Soundness.{IsOrderly, IsFree, SharesNoCell, IsLastReused}
use Rattle.fm_cells.proofs.SizeLaws.{cell_words-ge}
use Rattle.fm_cells.proofs.Held.{within_limit, zero_within_limit, not_held, held_if, nothing_held, held_after, held_before}
use Rattle.fm_cells.proofs.Changes.{of_class, object_at-made_by, object_at-without_object, object_at-with_object, held_count-opened, held_count-made_by, held_count-without_object, held_count-with_object}
use Rattle.fm_cells.proofs.Soundness.{IsOrderly-opened, IsOrderly-made_by, IsOrderly-without_object, IsOrderly-with_object, request_size_class-lt, size_class_of-lt, made_after-length}

-- no size class of an opened store has a freed cell
pub nothing_freed : (budget : ℕ) (limit : Option ℕ) (k : ℕ) → free_cells (opened budget limit empty_lists) k ≡ []
nothing_freed budget limit k = elim (cases_lt k 64) as (λ _. free_cells (opened budget limit empty_lists) k ≡ []) [
  | inl h ↦ get_or-replicate {A = List ℕ} 64 k [] [] h
  | inr h ↦ get_or_past (replicate 64 []) k [] (omega (arith, length-replicate {A = List ℕ} 64 []))
]

-- an opened store
pub IsLastReused-opened : (budget : ℕ) (limit : Option ℕ) → IsLastReused (opened budget limit empty_lists)
unfolding IsDistinct
IsLastReused-opened budget limit =
    let store = opened budget limit empty_lists in
    let none = nothing_freed budget limit in
    record {
      orderly = IsOrderly-opened budget limit empty_lists;
      within = λ cell h. absurd (nothing_held cell h);
      made_within_limit = zero_within_limit limit;
      counts = refl;
      lists = length-replicate {A = List ℕ} 64 [];
      free_not_held = λ k. subst (λ cells. AllByRecursion (IsFree store) cells) (sym (none k)) tt;
      listed_once = λ k. subst (λ cells. IsDistinct nat_eq cells) (sym (none k)) tt;
      lists_apart = λ k l apart. subst (λ cells. SharesNoCell cells (free_cells store l)) (sym (none k)) tt;
      balance = λ k below. omega (arith, held_count-opened budget limit empty_lists k, ap length (none k), get_or-replicate {A = ℕ} 64 k 0 0 below);
    }

-- the head of a list of freed cells was made, and isn't held
pub MayReuse-head : (store : Store) (request : Request) (cell : ℕ) (rest : List ℕ) (grows : Bool) → IsLastReused store → free_cells store (request_size_class request) ≡ cell ∷ rest → MayReuse store request (Take cell grows)
MayReuse-head store request cell rest grows last e =
    let all : AllByRecursion (IsFree store) (cell ∷ rest) = subst (λ cells. AllByRecursion (IsFree store) cells) e (last.free_not_held (request_size_class request)) in
    (all.0.0, all.0.2)

-- the cell after all made words isn't held
pub MayReuse-after : (store : Store) (request : Request) (grows : Bool) → IsLastReused store → MayReuse store request (Take (store.made_words + 1) grows)
MayReuse-after store request grows last = (omega arith, not_held (object_at store (store.made_words + 1)) (λ h. absurd (omega (arith, last.within (store.made_words + 1) h))))

-- the freed cells of a size class after a change of one list
pub free_cells-set : (lists : List (List ℕ)) (at k : ℕ) (cells : List ℕ) → at < length lists → slice_index_or (slice_set lists at cells) k [] ≡ cond (nat_eq k at) cells (slice_index_or lists k [])
free_cells-set lists at k cells h = elim (cases_eq k at) as (λ _. slice_index_or (slice_set lists at cells) k [] ≡ cond (nat_eq k at) cells (slice_index_or lists k [])) [
  | inl e ↦ subst (λ j. slice_index_or (slice_set lists at cells) j [] ≡ cond (nat_eq j at) cells (slice_index_or lists j [])) (sym e) (get_or-set_same lists at cells [] h ∙ sym (ap (λ b. cond b cells (slice_index_or lists at [])) (same-nat_eq at)))
  | inr e ↦ get_or-set_other lists at k cells [] e ∙ sym (ap (λ b. cond b cells (slice_index_or lists k [])) (apart-nat_eq k at e))
]

-- a list of freed cells without its head
pub without-head : (cell : ℕ) (rest : List ℕ) → IsDistinct nat_eq (cell ∷ rest) → without cell (cell ∷ rest) ≡ rest
unfolding IsDistinct
without-head cell rest h =
    ap (λ b. cond (not b) (cell ∷ without cell rest) (without cell rest)) (same-nat_eq cell)
    ∙ filter-passing (λ other. not (nat_eq other cell)) rest (AllByRecursion-weaker (λ y. nat_eq cell y ≡ false) (λ y. not (nat_eq y cell) ≡ true) (λ y e. ap not (nat_eq-comm y cell ∙ e)) rest h.0)

-- a freed cell stays free where another cell is taken
IsFree-made_by : (store : Store) (request : Request) (cell : ℕ) (grows : Bool) (other : ℕ) → store.made_words ≤ made_words_after store request grows → IsFree store other → nat_eq cell other ≡ false → IsFree (made_by store request (Take cell grows)) other
IsFree-made_by store request cell grows other more free apart =
    (free.0, omega arith, object_at-made_by store request cell grows other ∙ ap (λ b. cond b (Some (new_object store.births request)) (object_at store other)) (nat_eq-comm other cell ∙ apart) ∙ free.2)

-- the made words don't sink
pub made_words-le : (store : Store) (request : Request) (grows : Bool) → store.made_words ≤ made_words_after store request grows
made_words-le store request true = omega arith
made_words-le store request false = omega arith

-- a make that takes a cell of no list that is left, and leaves parts of the lists
IsLastReused-take : (store : Store) (request : Request) (cell : ℕ) (grows : Bool) → IsLastReused store → MayReuse store request (Take cell grows)
    → IfSome store.limit (λ most. made_words_after store request grows ≤ most) → cell ≤ made_words_after store request grows
    → ((P : ℕ → Type 0) (k : ℕ) → AllByRecursion P (free_cells store k) → AllByRecursion P (free_cells (made_by store request (Take cell grows)) k))
    → ((k : ℕ) → AllByRecursion (λ other. nat_eq cell other ≡ false) (free_cells (made_by store request (Take cell grows)) k))
    → ((k : ℕ) → IsDistinct nat_eq (free_cells (made_by store request (Take cell grows)) k))
    → ((k : ℕ) → k < 64 → held_count store k + of_class k (request_size_class request) + length (free_cells (made_by store request (Take cell grows)) k) ≡ made_count (made_by store request (Take cell grows)) k)
    → IsLastReused (made_by store request (Take cell grows))
IsLastReused-take store request cell grows last may limit inside part gone once count =
    let next = made_by store request (Take cell grows) in
    let more : store.made_words ≤ made_words_after store request grows = made_words-le store request grows in
    record {
      orderly = IsOrderly-made_by store request cell grows last.orderly may;
      within = λ q h. elim (cases_eq q cell) as (λ _. q ≤ next.made_words) [
        | inl e ↦ omega arith
        | inr e ↦ omega (arith, last.within q (held_after q cell _ _ _ (object_at-made_by store request cell grows q) h e))
      ];
      made_within_limit = limit;
      counts = made_after-length store request grows ∙ last.counts;
      lists = length-set store.free (request_size_class request) (without cell (free_cells store (request_size_class request))) ∙ last.lists;
      free_not_held = λ k. AllByRecursion-weaker (λ other. IsFree store other × (nat_eq cell other ≡ false)) (IsFree next) (λ other h. IsFree-made_by store request cell grows other more h.0 h.1) (free_cells next k)
          (AllByRecursion-both (IsFree store) (λ other. nat_eq cell other ≡ false) (free_cells next k) (part (IsFree store) k (last.free_not_held k)) (gone k));
      listed_once = once;
      lists_apart = λ k l apart. part (λ one. AllByRecursion (λ other. nat_eq one other ≡ false) (free_cells next l)) k
          (AllByRecursion-weaker (λ one. AllByRecursion (λ other. nat_eq one other ≡ false) (free_cells store l)) (λ one. AllByRecursion (λ other. nat_eq one other ≡ false) (free_cells next l)) (λ one h. part (λ other. nat_eq one other ≡ false) l h) (free_cells store k) (last.lists_apart k l apart));
      balance = λ k below. omega (arith, held_count-made_by store request cell grows k may.1, count k below);
    }

-- a make that takes the head of the list of its size class
pub IsLastReused-head : (store : Store) (request : Request) (cell : ℕ) (rest : List ℕ) → IsLastReused store → free_cells store (request_size_class request) ≡ cell ∷ rest → IsLastReused (made_by store request (Take cell false))
unfolding IsDistinct
IsLastReused-head store request cell rest last e =
    let class = request_size_class request in
    let next = made_by store request (Take cell false) in
    let all : AllByRecursion (IsFree store) (cell ∷ rest) = subst (λ cells. AllByRecursion (IsFree store) cells) e (last.free_not_held class) in
    let distinct : IsDistinct nat_eq (cell ∷ rest) = subst (λ cells. IsDistinct nat_eq cells) e (last.listed_once class) in
    let left : without cell (free_cells store class) ≡ rest = ap (without cell) e ∙ without-head cell rest distinct in
    let below : class < length store.free = omega (arith, request_size_class-lt request, last.lists) in
    let after = λ (k : ℕ). free_cells-set store.free class k (without cell (free_cells store class)) below in
    let here = λ (k : ℕ) (h : k ≡ class). let is : free_cells next k ≡ rest = after k ∙ ap (λ j. cond (nat_eq j class) (without cell (free_cells store class)) (free_cells store k)) h ∙ ap (λ b. cond b (without cell (free_cells store class)) (free_cells store k)) (same-nat_eq class) ∙ left in is in
    let there = λ (k : ℕ) (h : k ≢ class). let is : free_cells next k ≡ free_cells store k = after k ∙ ap (λ b. cond b (without cell (free_cells store class)) (free_cells store k)) (apart-nat_eq k class h) in is in
    IsLastReused-take store request cell false last (MayReuse-head store request cell rest false last e) last.made_within_limit all.0.1
    (λ P k h. elim (cases_eq k class) as (λ _. AllByRecursion P (free_cells next k)) [
      | inl same ↦ let whole : AllByRecursion P (cell ∷ rest) = subst (λ cells. AllByRecursion P cells) (ap (free_cells store) same ∙ e) h in subst (λ cells. AllByRecursion P cells) (sym (here k same)) whole.1
      | inr other ↦ subst (λ cells. AllByRecursion P cells) (sym (there k other)) h
    ])
    (λ k. elim (cases_eq k class) as (λ _. AllByRecursion (λ other. nat_eq cell other ≡ false) (free_cells next k)) [
      | inl same ↦ subst (λ cells. AllByRecursion (λ other. nat_eq cell other ≡ false) cells) (sym (here k same)) distinct.0
      | inr other ↦
          let apart : SharesNoCell (cell ∷ rest) (free_cells store k) = subst (λ cells. SharesNoCell cells (free_cells store k)) e (last.lists_apart class k (λ h. other (sym h))) in
          subst (λ cells. AllByRecursion (λ other. nat_eq cell other ≡ false) cells) (sym (there k other)) apart.0
    ])
    (λ k. elim (cases_eq k class) as (λ _. IsDistinct nat_eq (free_cells next k)) [
      | inl same ↦ subst (λ cells. IsDistinct nat_eq cells) (sym (here k same)) distinct.1
      | inr other ↦ subst (λ cells. IsDistinct nat_eq cells) (sym (there k other)) (last.listed_once k)
    ])
    (λ k small. elim (cases_eq k class) as (λ _. held_count store k + of_class k class + length (free_cells next k) ≡ made_count store k) [
      | inl same ↦
          let one : of_class k class ≡ 1 = ap (λ j. of_class j class) same ∙ ap (λ b. cond b 1 0) (same-nat_eq class) in
          omega (arith, one, ap length (here k same), ap length (ap (free_cells store) same ∙ e), last.balance k small)
      | inr other ↦
          let none : of_class k class ≡ 0 = ap (λ b. cond b 1 0) (apart-nat_eq class k (λ h. other (sym h))) in
          omega (arith, none, ap length (there k other), last.balance k small)
    ])

-- a make of the cell after all made words, where the list of its size class is empty
pub IsLastReused-fresh : (store : Store) (request : Request) → IsLastReused store → passes_limit store request ≡ false → free_cells store (request_size_class request) ≡ [] → IsLastReused (made_by store request (Take (store.made_words + 1) true))
IsLastReused-fresh store request last limit e =
    let class = request_size_class request in
    let cell = store.made_words + 1 in
    let next = made_by store request (Take cell true) in
    let below : class < length store.free = omega (arith, request_size_class-lt request, last.lists) in
    let counted : class < length store.made = omega (arith, request_size_class-lt request, last.counts) in
    let wide : 2 ≤ cell_words (request_words request) = cell_words-ge (request_words request) (omega arith) in
    let after = λ (k : ℕ). free_cells-set store.free class k (without cell (free_cells store class)) below in
    let same_list = λ (k : ℕ). let is : free_cells next k ≡ free_cells store k = elim (cases_eq k class) as (λ _. free_cells next k ≡ free_cells store k) [
      | inl h ↦ after k ∙ ap (λ j. cond (nat_eq j class) (without cell (free_cells store class)) (free_cells store k)) h ∙ ap (λ b. cond b (without cell (free_cells store class)) (free_cells store k)) (same-nat_eq class) ∙ ap (without cell) e ∙ sym e ∙ ap (free_cells store) (sym h)
      | inr h ↦ after k ∙ ap (λ b. cond b (without cell (free_cells store class)) (free_cells store k)) (apart-nat_eq k class h)
    ] in is in
    IsLastReused-take store request cell true last (MayReuse-after store request true last) (within_limit store.limit _ limit) (omega arith)
    (λ P k h. subst (λ cells. AllByRecursion P cells) (sym (same_list k)) h)
    (λ k. subst (λ cells. AllByRecursion (λ other. nat_eq cell other ≡ false) cells) (sym (same_list k)) (AllByRecursion-weaker (IsFree store) (λ other. nat_eq cell other ≡ false) (λ other h. apart-nat_eq cell other (λ is. absurd (omega (arith, h.1)))) (free_cells store k) (last.free_not_held k)))
    (λ k. subst (λ cells. IsDistinct nat_eq cells) (sym (same_list k)) (last.listed_once k))
    (λ k small. elim (cases_eq k class) as (λ _. held_count store k + of_class k class + length (free_cells next k) ≡ made_count next k) [
      | inl same ↦
          let one : of_class k class ≡ 1 = ap (λ j. of_class j class) same ∙ ap (λ b. cond b 1 0) (same-nat_eq class) in
          let more : made_count next k ≡ made_count store k + 1 = ap (λ j. get_or (set store.made class (made_count store class + 1)) j 0) same ∙ get_or-set_same store.made class (made_count store class + 1) 0 counted ∙ ap (λ j. made_count store j + 1) (sym same) in
          omega (arith, one, more, ap length (same_list k), last.balance k small)
      | inr other ↦
          let none : of_class k class ≡ 0 = ap (λ b. cond b 1 0) (apart-nat_eq class k (λ h. other (sym h))) in
          let kept : made_count next k ≡ made_count store k = get_or-set_other store.made class k (made_count store class + 1) 0 other in
          omega (arith, none, kept, ap length (same_list k), last.balance k small)
    ])

-- a cell that isn't held isn't after a free either
none_either : (there : Bool) (before : Option Object) → before ≡ None → cond there None before ≡ None
none_either true before e = refl
none_either false before e = e

-- a held cell isn't null
pub held_above : (store : Store) (cell : ℕ) (object : Object) → IsOrderly store → object_at store cell ≡ Some object → 0 < cell
held_above store cell object orderly held = elim (cases_lt 0 cell) as (λ _. 0 < cell) [
  | inl h ↦ h
  | inr h ↦ let null : cell ≡ 0 = omega arith in absurd (none-some object (sym orderly.null_not_held ∙ ap (object_at store) (sym null) ∙ held))
]

-- a held cell is none that was freed
pub held-apart : (store : Store) (cell : ℕ) (object : Object) (other : ℕ) → object_at store cell ≡ Some object → IsFree store other → nat_eq cell other ≡ false
held-apart store cell object other held free = apart-nat_eq cell other (λ e. none-some object (sym free.2 ∙ ap (object_at store) (sym e) ∙ held))

-- a free leads from a store that takes the last freed cell to one
pub IsLastReused-without_object : (store : Store) (cell : ℕ) (object : Object) → IsLastReused store → object_at store cell ≡ Some object → IsLastReused (without_object store cell object)
unfolding IsDistinct
IsLastReused-without_object store cell object last held =
    let class = size_class_of object in
    let next = without_object store cell object in
    let below : class < length store.free = omega (arith, size_class_of-lt object, last.lists) in
    let after = λ (k : ℕ). free_cells-set store.free class k (cell ∷ free_cells store class) below in
    let here = λ (k : ℕ) (h : k ≡ class). let is : free_cells next k ≡ cell ∷ free_cells store k = after k ∙ ap (λ j. cond (nat_eq j class) (cell ∷ free_cells store class) (free_cells store k)) h ∙ ap (λ b. cond b (cell ∷ free_cells store class) (free_cells store k)) (same-nat_eq class) ∙ ap (λ j. cell ∷ free_cells store j) (sym h) in is in
    let there = λ (k : ℕ) (h : k ≢ class). let is : free_cells next k ≡ free_cells store k = after k ∙ ap (λ b. cond b (cell ∷ free_cells store class) (free_cells store k)) (apart-nat_eq k class h) in is in
    let still = λ (k : ℕ). AllByRecursion-weaker (IsFree store) (IsFree next) (λ other h. (h.0, h.1, object_at-without_object store cell object other ∙ none_either (nat_eq other cell) (object_at store other) h.2)) (free_cells store k) (last.free_not_held k) in
    let apart_from = λ (k : ℕ). AllByRecursion-weaker (IsFree store) (λ other. nat_eq cell other ≡ false) (λ other h. held-apart store cell object other held h) (free_cells store k) (last.free_not_held k) in
    let freed : IsFree next cell =
    (held_above store cell object last.orderly held, last.within cell (held_if (object_at store cell) object held), object_at-without_object store cell object cell ∙ ap (λ b. cond b None (object_at store cell)) (same-nat_eq cell)) in
    record {
      orderly = IsOrderly-without_object store cell object last.orderly;
      within = λ q h. last.within q (held_before (nat_eq q cell) _ _ (object_at-without_object store cell object q) h);
      made_within_limit = last.made_within_limit;
      counts = last.counts;
      lists = length-set store.free class (cell ∷ free_cells store class) ∙ last.lists;
      free_not_held = λ k. elim (cases_eq k class) as (λ _. AllByRecursion (IsFree next) (free_cells next k)) [
        | inl h ↦ subst (λ cells. AllByRecursion (IsFree next) cells) (sym (here k h)) (freed, still k)
        | inr h ↦ subst (λ cells. AllByRecursion (IsFree next) cells) (sym (there k h)) (still k)
      ];
      listed_once = λ k. elim (cases_eq k class) as (λ _. IsDistinct nat_eq (free_cells next k)) [
        | inl h ↦ subst (λ cells. IsDistinct nat_eq cells) (sym (here k h)) (apart_from k, last.listed_once k)
        | inr h ↦ subst (λ cells. IsDistinct nat_eq cells) (sym (there k h)) (last.listed_once k)
      ];
      lists_apart = λ k l apart. elim (cases_eq k class) as (λ _. SharesNoCell (free_cells next k) (free_cells next l)) [
        | inl h ↦
            let other : l ≢ class = λ e. apart (h ∙ sym e) in
            subst (λ cells. SharesNoCell cells (free_cells next l)) (sym (here k h)) (subst (λ cells. SharesNoCell (cell ∷ free_cells store k) cells) (sym (there l other)) (apart_from l, last.lists_apart k l apart))
        | inr h ↦ subst (λ cells. SharesNoCell cells (free_cells next l)) (sym (there k h)) (elim (cases_eq l class) as (λ _. SharesNoCell (free_cells store k) (free_cells next l)) [
          | inl e ↦ subst (λ cells. SharesNoCell (free_cells store k) cells) (sym (here l e))
              (AllByRecursion-both (λ one. nat_eq one cell ≡ false) (λ one. AllByRecursion (λ other. nat_eq one other ≡ false) (free_cells store l)) (free_cells store k)
              (AllByRecursion-weaker (λ other. nat_eq cell other ≡ false) (λ other. nat_eq other cell ≡ false) (λ other no. nat_eq-comm other cell ∙ no) (free_cells store k) (apart_from k))
              (last.lists_apart k l apart))
          | inr e ↦ subst (λ cells. SharesNoCell (free_cells store k) cells) (sym (there l e)) (last.lists_apart k l apart)
        ])
      ];
      balance = λ k small. elim (cases_eq k class) as (λ _. held_count next k + length (free_cells next k) ≡ made_count store k) [
        | inl h ↦
            let one : of_class k class ≡ 1 = ap (λ j. of_class j class) h ∙ ap (λ b. cond b 1 0) (same-nat_eq class) in
            omega (arith, one, ap length (here k h), held_count-without_object store cell object k held, last.balance k small)
        | inr h ↦
            let none : of_class k class ≡ 0 = ap (λ b. cond b 1 0) (apart-nat_eq class k (λ e. h (sym e))) in
            omega (arith, none, ap length (there k h), held_count-without_object store cell object k held, last.balance k small)
      ];
    }

-- and so does a put, or a change of a chain
pub IsLastReused-with_object : (store : Store) (cell : ℕ) (old object : Object) → IsLastReused store → object_at store cell ≡ Some old → object.birth ≡ old.birth → object_words object ≡ object_words old → IsLastReused (with_object store cell object)
IsLastReused-with_object store cell old object last held same_birth same_words =
    let next = with_object store cell object in
    record {
      orderly = IsOrderly-with_object store cell old object last.orderly held same_birth;
      within = λ q h. elim (cases_eq q cell) as (λ _. q ≤ store.made_words) [
        | inl e ↦ subst (λ c. c ≤ store.made_words) (sym e) (last.within cell (held_if (object_at store cell) old held))
        | inr e ↦ last.within q (held_after q cell _ _ _ (object_at-with_object store cell object q) h e)
      ];
      made_within_limit = last.made_within_limit;
      counts = last.counts;
      lists = last.lists;
      free_not_held = λ k. AllByRecursion-weaker (IsFree store) (IsFree next) (λ other h. (h.0, h.1, object_at-with_object store cell object other ∙ ap (λ b. cond b (Some object) (object_at store other)) (nat_eq-comm other cell ∙ held-apart store cell old other held h) ∙ h.2)) (free_cells store k) (last.free_not_held k);
      listed_once = last.listed_once;
      lists_apart = last.lists_apart;
      balance = λ k small. omega (arith, held_count-with_object store cell old object k held same_words, last.balance k small);
    }

-- of the size class of a make as many cells were made as were held at once: the greater of those made before and those
-- held now; of each other size class as many as before. Here a freed cell is taken
pub made-most_held-head : (store : Store) (request : Request) (cell : ℕ) (rest : List ℕ) → IsLastReused store → free_cells store (request_size_class request) ≡ cell ∷ rest
    → (made_by store request (Take cell false)).made ≡ slice_set store.made (request_size_class request) (max (made_count store (request_size_class request)) (held_count (made_by store request (Take cell false)) (request_size_class request)))
made-most_held-head store request cell rest last e =
    let class = request_size_class request in
    let may = MayReuse-head store request cell rest false last e in
    let one : of_class class class ≡ 1 = ap (λ b. cond b 1 0) (same-nat_eq class) in
    let most : max (made_count store class) (held_count (made_by store request (Take cell false)) class) ≡ made_count store class =
    omega (arith, one, held_count-made_by store request cell false class may.1, ap length e, last.balance class (request_size_class-lt request)) in
    sym (ap (λ n. slice_set store.made class n) most ∙ set-get_or store.made class 0)

-- and here a new cell is made
pub made-most_held-fresh : (store : Store) (request : Request) → IsLastReused store → free_cells store (request_size_class request) ≡ []
    → (made_by store request (Take (store.made_words + 1) true)).made ≡ slice_set store.made (request_size_class request) (max (made_count store (request_size_class request)) (held_count (made_by store request (Take (store.made_words + 1) true)) (request_size_class request)))
made-most_held-fresh store request last e =
    let class = request_size_class request in
    let may = MayReuse-after store request true last in
    let one : of_class class class ≡ 1 = ap (λ b. cond b 1 0) (same-nat_eq class) in
    let most : max (made_count store class) (held_count (made_by store request (Take (store.made_words + 1) true)) class) ≡ made_count store class + 1 =
    omega (arith, one, held_count-made_by store request (store.made_words + 1) true class may.1, ap length e, last.balance class (request_size_class-lt request)) in
    sym (ap (λ n. slice_set store.made class n) most)

-- the lists after a make that takes the head of one: that list loses its head, and the others stay
pub free_cells-head : (store : Store) (request : Request) (cell : ℕ) (rest : List ℕ) → IsLastReused store → free_cells store (request_size_class request) ≡ cell ∷ rest → (k : ℕ) → free_cells (made_by store request (Take cell false)) k ≡ cond (nat_eq k (request_size_class request)) rest (free_cells store k)
free_cells-head store request cell rest last e k =
    let class = request_size_class request in
    let distinct : IsDistinct nat_eq (cell ∷ rest) = subst (λ cells. IsDistinct nat_eq cells) e (last.listed_once class) in
    let left : without cell (free_cells store class) ≡ rest = ap (without cell) e ∙ without-head cell rest distinct in
    free_cells-set store.free class k (without cell (free_cells store class)) (omega (arith, request_size_class-lt request, last.lists)) ∙ ap (λ cells. cond (nat_eq k class) cells (free_cells store k)) left

-- and the cell is in none of them
pub free_cells-head_gone : (store : Store) (request : Request) (cell : ℕ) (rest : List ℕ) → IsLastReused store → free_cells store (request_size_class request) ≡ cell ∷ rest → (k : ℕ) → AllByRecursion (λ other. nat_eq cell other ≡ false) (free_cells (made_by store request (Take cell false)) k)
unfolding IsDistinct
free_cells-head_gone store request cell rest last e k =
    let class = request_size_class request in
    let next = made_by store request (Take cell false) in
    let distinct : IsDistinct nat_eq (cell ∷ rest) = subst (λ cells. IsDistinct nat_eq cells) e (last.listed_once class) in
    let after = free_cells-head store request cell rest last e k in
    elim (cases_eq k class) as (λ _. AllByRecursion (λ other. nat_eq cell other ≡ false) (free_cells next k)) [
      | inl same ↦ subst (λ cells. AllByRecursion (λ other. nat_eq cell other ≡ false) cells) (sym (after ∙ ap (λ b. cond b rest (free_cells store k)) (ap (λ n. nat_eq n class) same ∙ same-nat_eq class))) distinct.0
      | inr other ↦
          let apart : SharesNoCell (cell ∷ rest) (free_cells store k) = subst (λ cells. SharesNoCell cells (free_cells store k)) e (last.lists_apart class k (λ h. other (sym h))) in
          subst (λ cells. AllByRecursion (λ d. nat_eq cell d ≡ false) cells) (sym (after ∙ ap (λ b. cond b rest (free_cells store k)) (apart-nat_eq k class other))) apart.0
    ]

-- the lists after a make of a new cell stay as they were
pub free_cells-fresh : (store : Store) (request : Request) → IsLastReused store → free_cells store (request_size_class request) ≡ [] → (k : ℕ) → free_cells (made_by store request (Take (store.made_words + 1) true)) k ≡ free_cells store k
free_cells-fresh store request last e k =
    let class = request_size_class request in
    let cell = store.made_words + 1 in
    let after = free_cells-set store.free class k (without cell (free_cells store class)) (omega (arith, request_size_class-lt request, last.lists)) in
    elim (cases_eq k class) as (λ _. free_cells (made_by store request (Take cell true)) k ≡ free_cells store k) [
      | inl h ↦ after ∙ ap (λ b. cond b (without cell (free_cells store class)) (free_cells store k)) (ap (λ n. nat_eq n class) h ∙ same-nat_eq class) ∙ ap (without cell) e ∙ sym e ∙ ap (free_cells store) (sym h)
      | inr h ↦ after ∙ ap (λ b. cond b (without cell (free_cells store class)) (free_cells store k)) (apart-nat_eq k class h)
    ]

-- the choice where the list of the size class has a head, where it has none, and where the store is full
pub last_choice-head : (store : Store) (request : Request) (cell : ℕ) (rest : List ℕ) → free_cells store (request_size_class request) ≡ cell ∷ rest → Take cell false ≡ last_choice store request
last_choice-head store request cell rest e = sym (ap (λ cells. last_choice_among cells store request) e)

pub last_choice-fresh : (store : Store) (request : Request) → free_cells store (request_size_class request) ≡ [] → passes_limit store request ≡ false → Take (store.made_words + 1) true ≡ last_choice store request
last_choice-fresh store request e limit = sym (ap (λ cells. last_choice_among cells store request) e ∙ ap (λ b. cond b RefuseStore (Take (store.made_words + 1) true)) limit)

pub last_choice-full : (store : Store) (request : Request) → free_cells store (request_size_class request) ≡ [] → passes_limit store request ≡ true → RefuseStore ≡ last_choice store request
last_choice-full store request e limit = sym (ap (λ cells. last_choice_among cells store request) e ∙ ap (λ b. cond b RefuseStore (Take (store.made_words + 1) true)) limit)

-- a choice that takes a cell isn't a refusal
refuses : Choice → Bool
refuses (Take cell grows) = false
refuses RefuseStore = true

pub take-refuse : (cell : ℕ) (grows : Bool) → Take cell grows ≡ RefuseStore → ⊥
unfolding refuses
take-refuse cell grows e = false≢true (ap refuses e)

-- a refusal of a new cell is for the store limit
pub new_cell_choice-refused : (store : Store) (request : Request) (cell : ℕ) → new_cell_choice store request cell ≡ RefuseStore → passes_limit store request ≡ true
new_cell_choice-refused store request cell refused =
    elim (passes_limit store request) as (λ b. cond b RefuseStore (Take cell true) ≡ RefuseStore → b ≡ true) [
      | true ↦ λ _. refl
      | false ↦ λ e. absurd (take-refuse cell true e)
    ] refused

-- where no cell is free, a refusal is for the store limit
pub last_choice-refused : (store : Store) (request : Request) → free_cells store (request_size_class request) ≡ [] → last_choice store request ≡ RefuseStore → passes_limit store request ≡ true
last_choice-refused store request none refused = new_cell_choice-refused store request (store.made_words + 1) (sym (ap (λ cells. last_choice_among cells store request) none) ∙ refused)
