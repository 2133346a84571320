-- The words, the marks and the heads keep the store after each call: what a call writes lies in one cell, and no other
-- object and no list of freed cells rests on it.
use Rattle.std.proofs.Common.{◌≡◌, ◌≢◌, ℕ, ◌+◌, ◌-◌, ◌<◌, ◌≤◌, ◌⊎◌, Bool, true, false, cond, List, [], ◌∷◌, length, get_or, set, refl, sym, ◌∙◌, ap, subst, nat_eq, arith, inl, inr, get_or-set_same, get_or-set_other}
use Rattle.std.specs.Prelude.{Option, Some, None, IsSome, slice_index}
use Rattle.std.specs.List.{AllByRecursion}
use Rattle.std.proofs.lemmas.Bool.{cases_eq, cases_Bool}
use Rattle.std.proofs.lemmas.Option.{none-some, same_Some}
use Rattle.fm_base.proofs.ListFacts.{AllByRecursion-both, AllByRecursion-weaker}
use Rattle.fm_base.proofs.TestFacts.{apart-nat_eq, same-nat_eq}
use Rattle.fm_cells.specs.Sizes.{class_words}
use Rattle.fm_cells.specs.Objects.{Object, object_words, size_class_of, Request, request_size_class, new_object}
use Rattle.fm_cells.specs.Stores.{Store, object_at, IsHeld, free_cells}
use Rattle.fm_cells.specs.Changes.{Take, made_by, without_object, with_object}
use Rattle.fm_cells.specs.Soundness.{IsSound, IsFree, IsLastReused}
use Rattle.fm_cells.specs.inner.Words.{object_from, mark_in, marked_object}
use Rattle.fm_cells.specs.inner.Layouts.{IsTiling, IsTile, IsLinked, IsListed, Keeps}
use Rattle.fm_cells.proofs.SizeLaws.{words-le-cell_words}
use Rattle.fm_cells.proofs.Held.{held_if}
use Rattle.fm_cells.proofs.LastReused.{held-apart, held_above, free_cells-set}
use Rattle.fm_cells.proofs.Changes.{size_class_of-new_object, object_at-made_by, object_at-without_object, object_at-with_object}
use Rattle.fm_cells.proofs.Lists.{eq-nat_eq}
use Rattle.fm_cells.proofs.Words.{object_from-frame}
use Rattle.fm_cells.proofs.Soundness.{object_words_bound, size_class_of-lt, kept_object}
use Rattle.fm_cells.proofs.Tiles.{tile-within, tile-apart}

-- two lists of words agree outside the words of a cell
abbrev pub SameOutside : List ℕ → List ℕ → ℕ → ℕ → Type 0
SameOutside words words' cell k = (i : ℕ) → (i < cell) ⊎ (cell + class_words k ≤ i) → get_or words' i 0 ≡ get_or words i 0

-- an object in another cell rests on none of the words of a cell
other_object : (words words' : List ℕ) (tiles : List (ℕ × ℕ)) (to cell k q l : ℕ) → IsTiling 1 tiles to → IsTile tiles cell k → IsTile tiles q l → q ≢ cell → object_words (object_from words q) ≤ class_words l → SameOutside words words' cell k → object_from words' q ≡ object_from words q
other_object words words' tiles to cell k q l tiling tile other apart fits same =
    object_from-frame words words' q (class_words l) fits (λ i low high. same i (elim (tile-apart 1 tiles to cell k q l tiling tile other) as (λ _. (i < cell) ⊎ (cell + class_words k ≤ i)) [
      | inl e ↦ absurd (apart (sym e.0))
      | inr (inl h) ↦ inr (omega arith)
      | inr (inr h) ↦ inl (omega arith)
    ]))

-- the first word of another cell is none of the words of a cell
other_first : (words words' : List ℕ) (tiles : List (ℕ × ℕ)) (to cell k q l : ℕ) → IsTiling 1 tiles to → IsTile tiles cell k → IsTile tiles q l → nat_eq cell q ≡ false → SameOutside words words' cell k → get_or words' q 0 ≡ get_or words q 0
other_first words words' tiles to cell k q l tiling tile other apart same =
    let wide = tile-within 1 tiles to q l tiling other in
    same q (elim (tile-apart 1 tiles to cell k q l tiling tile other) as (λ _. (q < cell) ⊎ (cell + class_words k ≤ q)) [
      | inl e ↦ let no : nat_eq cell q ≡ true = ap (nat_eq cell) (sym e.0) ∙ same-nat_eq cell in absurd (cc)
      | inr (inl h) ↦ inr h
      | inr (inr h) ↦ inl (omega (arith, wide.2))
    ])

linked-frame : (words words' : List ℕ) (head : ℕ) (cells : List ℕ) → AllByRecursion (λ d. get_or words' d 0 ≡ get_or words d 0) cells → IsLinked words head cells → IsLinked words' head cells
linked-frame words words' head [] same is = is
linked-frame words words' head (d ∷ ds) same is = (is.0, is.1, subst (λ h. IsLinked words' h ds) (sym same.0) (linked-frame words words' (get_or words d 0) ds same.1 is.2))

-- a list of other cells stays linked
other_links : (words words' : List ℕ) (tiles : List (ℕ × ℕ)) (to cell k head l : ℕ) (cells : List ℕ) → IsTiling 1 tiles to → IsTile tiles cell k → AllByRecursion (λ d. IsTile tiles d l) cells → AllByRecursion (λ d. nat_eq cell d ≡ false) cells → SameOutside words words' cell k → IsLinked words head cells → IsLinked words' head cells
other_links words words' tiles to cell k head l cells tiling tile others apart same is =
    linked-frame words words' head cells (AllByRecursion-weaker (λ d. IsTile tiles d l × (nat_eq cell d ≡ false)) (λ d. get_or words' d 0 ≡ get_or words d 0) (λ d h. other_first words words' tiles to cell k d l tiling tile h.0 h.1 same) cells
    (AllByRecursion-both (λ d. IsTile tiles d l) (λ d. nat_eq cell d ≡ false) cells others apart)) is

-- a cell whose object is marked has its mark, and it is the object that the words hold
pub marked-some : (words marks : List ℕ) (cell : ℕ) (object : Object) → marked_object words marks cell ≡ Some object → (mark_in marks cell ≡ 1) × (object_from words cell ≡ object)
marked-some words marks cell object e =
    elim (nat_eq (mark_in marks cell) 1) as (λ b. nat_eq (mark_in marks cell) 1 ≡ b → cond b (Some (object_from words cell)) None ≡ Some object → (mark_in marks cell ≡ 1) × (object_from words cell ≡ object)) [
      | true ↦ λ t h. (eq-nat_eq (mark_in marks cell) 1 t, same_Some (object_from words cell) object h)
      | false ↦ λ _ h. absurd (none-some object h)
    ] refl e

-- what is kept of another cell
other_held : (words words' marks marks' heads : List ℕ) (store : Store) (tiles : List (ℕ × ℕ)) (to cell k q : ℕ) → (keeps : Keeps words marks heads store) → IsSound store → IsTiling 1 tiles to → IsTile tiles cell k → ((l : ℕ) → IsTile keeps.tiles q l → IsTile tiles q l) → q ≢ cell → mark_in marks' q ≡ mark_in marks q → SameOutside words words' cell k → marked_object words' marks' q ≡ object_at store q
other_held words words' marks marks' heads store tiles to cell k q keeps sound tiling tile more apart mark same =
    ap (λ m. cond (nat_eq m 1) (Some (object_from words' q)) None) mark
    ∙ elim (cases_Bool (nat_eq (mark_in marks q) 1)) as (λ _. marked_object words' marks q ≡ object_at store q) [
      | inl e ↦
          let held : object_at store q ≡ Some (object_from words q) = sym (keeps.held q) ∙ ap (λ b. cond b (Some (object_from words q)) None) e in
          let object = sound.objects_fit q (object_from words q) held in
          let fits : object_words (object_from words q) ≤ class_words (size_class_of (object_from words q)) = words-le-cell_words (object_words (object_from words q)) (omega (arith, object_words_bound (object_from words q) object)) in
          ap (λ b. cond b (Some (object_from words' q)) None) e
          ∙ ap (λ o. Some o) (other_object words words' tiles to cell k q (size_class_of (object_from words q)) tiling tile (more (size_class_of (object_from words q)) (keeps.held_tile q (object_from words q) held)) apart fits same)
          ∙ sym held
      | inr e ↦ ap (λ b. cond b (Some (object_from words' q)) None) e ∙ sym (sym (keeps.held q) ∙ ap (λ b. cond b (Some (object_from words q)) None) e)
    ]

-- what is kept of a cell that has its mark
own_held : (words marks : List ℕ) (cell : ℕ) (object : Object) → mark_in marks cell ≡ 1 → object_from words cell ≡ object → marked_object words marks cell ≡ Some object
own_held words marks cell object mark is = ap (λ m. cond (nat_eq m 1) (Some (object_from words cell)) None) mark ∙ ap (λ o. Some o) is

-- a cell that is held, or gets an object, is held
either_held : (there : Bool) (object : Object) (before : Option Object) → IsSome before → IsSome (cond there (Some object) before)
either_held true object before h = refl
either_held false object before h = h

-- a put, or a change of a chain
pub Keeps-with_object : (words words' marks heads : List ℕ) (store : Store) (cell : ℕ) (old object : Object) → Keeps words marks heads store → IsLastReused store → IsSound store → object_at store cell ≡ Some old → size_class_of object ≡ size_class_of old → length words' ≡ length words
    → SameOutside words words' cell (size_class_of old) → object_from words' cell ≡ object → Keeps words' marks heads (with_object store cell object)
Keeps-with_object words words' marks heads store cell old object keeps last sound held class long same is =
    let k = size_class_of old in
    let tile = keeps.held_tile cell old held in
    let at = object_at-with_object store cell object in
    let mark : mark_in marks cell ≡ 1 = (marked-some words marks cell old (keeps.held cell ∙ held)).0 in
    let apart = λ (l : ℕ). AllByRecursion-weaker (IsFree store) (λ other. nat_eq cell other ≡ false) (λ other h. held-apart store cell old other held h) (free_cells store l) (last.free_not_held l) in
    record {
      held = λ q. elim (cases_eq q cell) as (λ _. marked_object words' marks q ≡ object_at (with_object store cell object) q) [
        | inl e ↦ ap (marked_object words' marks) e ∙ own_held words' marks cell object mark is ∙ sym (at q ∙ ap (λ b. cond b (Some object) (object_at store q)) (ap (λ n. nat_eq n cell) e ∙ same-nat_eq cell))
        | inr e ↦ other_held words words' marks marks heads store keeps.tiles (store.made_words + 1) cell k q keeps sound keeps.tiling tile (λ l t. t) e refl same ∙ sym (at q ∙ ap (λ b. cond b (Some object) (object_at store q)) (apart-nat_eq q cell e))
      ];
      words_made = ap (λ n. n - 1) long ∙ keeps.words_made;
      tiles = keeps.tiles;
      tiling = keeps.tiling;
      held_tile = λ q o h. elim (cases_eq q cell) as (λ _. IsTile keeps.tiles q (size_class_of o)) [
        | inl e ↦
            let here : Some object ≡ Some o = sym (ap (λ b. cond b (Some object) (object_at store q)) (ap (λ n. nat_eq n cell) e ∙ same-nat_eq cell)) ∙ sym (at q) ∙ h in
            subst (λ n. IsTile keeps.tiles n (size_class_of o)) (sym e) (subst (λ n. IsTile keeps.tiles cell n) (sym class ∙ ap size_class_of (same_Some object o here)) tile)
        | inr e ↦ keeps.held_tile q o (sym (ap (λ b. cond b (Some object) (object_at store q)) (apart-nat_eq q cell e)) ∙ sym (at q) ∙ h)
      ];
      free_tile = keeps.free_tile;
      linked = λ l below. other_links words words' keeps.tiles (store.made_words + 1) cell k (slice_index heads l) l (free_cells store l) keeps.tiling tile (keeps.free_tile l) (apart l) same (keeps.linked l below);
      covered = λ q l t. elim (keeps.covered q l t) as (λ _. IsHeld (with_object store cell object) q ⊎ IsListed q (free_cells store l)) [
        | inl h ↦ inl (subst IsSome (sym (at q)) (either_held (nat_eq q cell) object (object_at store q) h))
        | inr h ↦ inr h
      ];
    }

-- a free: the first word of the cell keeps the old head of its list, and the cell is the new head
pub Keeps-without_object : (words words' marks marks' heads : List ℕ) (store : Store) (cell : ℕ) (object : Object) → Keeps words marks heads store → IsLastReused store → IsSound store → object_at store cell ≡ Some object → 64 ≤ length heads → length words' ≡ length words
    → SameOutside words words' cell (size_class_of object) → get_or words' cell 0 ≡ slice_index heads (size_class_of object) → ((q : ℕ) → mark_in marks' q ≡ cond (nat_eq q cell) 0 (mark_in marks q))
    → Keeps words' marks' (set heads (size_class_of object) cell) (without_object store cell object)
Keeps-without_object words words' marks marks' heads store cell object keeps last sound held room long same first marked =
    let k = size_class_of object in
    let next = without_object store cell object in
    let tile = keeps.held_tile cell object held in
    let at = object_at-without_object store cell object in
    let few : k < 64 = size_class_of-lt object in
    let below : k < length store.free = omega (arith, last.lists) in
    let after = λ (l : ℕ). free_cells-set store.free k l (cell ∷ free_cells store k) below in
    let here = λ (l : ℕ) (h : l ≡ k). let is : free_cells next l ≡ cell ∷ free_cells store l = after l ∙ ap (λ b. cond b (cell ∷ free_cells store k) (free_cells store l)) (ap (λ n. nat_eq n k) h ∙ same-nat_eq k) ∙ ap (λ j. cell ∷ free_cells store j) (sym h) in is in
    let there = λ (l : ℕ) (h : l ≢ k). let is : free_cells next l ≡ free_cells store l = after l ∙ ap (λ b. cond b (cell ∷ free_cells store k) (free_cells store l)) (apart-nat_eq l k h) in is in
    let apart = λ (l : ℕ). AllByRecursion-weaker (IsFree store) (λ other. nat_eq cell other ≡ false) (λ other h. held-apart store cell object other held h) (free_cells store l) (last.free_not_held l) in
    let links = λ (l : ℕ) (few : l < 64). other_links words words' keeps.tiles (store.made_words + 1) cell k (slice_index heads l) l (free_cells store l) keeps.tiling tile (keeps.free_tile l) (apart l) same (keeps.linked l few) in
    record {
      held = λ q. elim (cases_eq q cell) as (λ _. marked_object words' marks' q ≡ object_at next q) [
        | inl e ↦
            ap (λ m. cond (nat_eq m 1) (Some (object_from words' q)) None) (marked q ∙ ap (λ b. cond b 0 (mark_in marks q)) (ap (λ n. nat_eq n cell) e ∙ same-nat_eq cell))
            ∙ sym (at q ∙ ap (λ b. cond b None (object_at store q)) (ap (λ n. nat_eq n cell) e ∙ same-nat_eq cell))
        | inr e ↦
            other_held words words' marks marks' heads store keeps.tiles (store.made_words + 1) cell k q keeps sound keeps.tiling tile (λ l t. t) e (marked q ∙ ap (λ b. cond b 0 (mark_in marks q)) (apart-nat_eq q cell e)) same
            ∙ sym (at q ∙ ap (λ b. cond b None (object_at store q)) (apart-nat_eq q cell e))
      ];
      words_made = ap (λ n. n - 1) long ∙ keeps.words_made;
      tiles = keeps.tiles;
      tiling = keeps.tiling;
      held_tile = λ q o h. keeps.held_tile q o (kept_object (nat_eq q cell) (object_at store q) _ o (at q) h);
      free_tile = λ l. elim (cases_eq l k) as (λ _. AllByRecursion (λ d. IsTile keeps.tiles d l) (free_cells next l)) [
        | inl h ↦ subst (λ cells. AllByRecursion (λ d. IsTile keeps.tiles d l) cells) (sym (here l h)) (subst (λ j. IsTile keeps.tiles cell j) (sym h) tile, keeps.free_tile l)
        | inr h ↦ subst (λ cells. AllByRecursion (λ d. IsTile keeps.tiles d l) cells) (sym (there l h)) (keeps.free_tile l)
      ];
      linked = λ l below. elim (cases_eq l k) as (λ _. IsLinked words' (slice_index (set heads k cell) l) (free_cells next l)) [
        | inl h ↦
            let head : slice_index (set heads k cell) l ≡ cell = ap (slice_index (set heads k cell)) h ∙ get_or-set_same heads k cell 0 (omega arith) in
            subst (λ cells. IsLinked words' (slice_index (set heads k cell) l) cells) (sym (here l h))
            (head, held_above store cell object last.orderly held, subst (λ n. IsLinked words' n (free_cells store l)) (sym (first ∙ ap (slice_index heads) (sym h))) (links l below))
        | inr h ↦
            subst (λ cells. IsLinked words' (slice_index (set heads k cell) l) cells) (sym (there l h)) (subst (λ n. IsLinked words' n (free_cells store l)) (sym (get_or-set_other heads k l cell 0 h)) (links l below))
      ];
      covered = λ q l t. elim (cases_eq q cell) as (λ _. IsHeld next q ⊎ IsListed q (free_cells next l)) [
        | inl e ↦
            let class : l ≡ k = elim (tile-apart 1 keeps.tiles (store.made_words + 1) q l cell k keeps.tiling t tile) as (λ _. l ≡ k) [
              | inl is ↦ is.1
              | inr (inl is) ↦ let wide = tile-within 1 keeps.tiles (store.made_words + 1) q l keeps.tiling t in absurd (omega (arith, wide.2))
              | inr (inr is) ↦ let wide = tile-within 1 keeps.tiles (store.made_words + 1) cell k keeps.tiling tile in absurd (omega (arith, wide.2))
            ] in
            inr (subst (λ cells. IsListed q cells) (sym (here l class)) (inl (sym e)))
        | inr e ↦ elim (keeps.covered q l t) as (λ _. IsHeld next q ⊎ IsListed q (free_cells next l)) [
          | inl h ↦ inl (subst IsSome (sym (at q ∙ ap (λ b. cond b None (object_at store q)) (apart-nat_eq q cell e))) h)
          | inr h ↦ inr (elim (cases_eq l k) as (λ _. IsListed q (free_cells next l)) [
            | inl same ↦ subst (λ cells. IsListed q cells) (sym (here l same)) (inr h)
            | inr other ↦ subst (λ cells. IsListed q cells) (sym (there l other)) h
          ])
        ]
      ];
    }

-- a make: the words of its cell hold the new object, and the cell has its mark
pub Keeps-made_by : (words words' marks marks' heads heads' : List ℕ) (store : Store) (request : Request) (cell : ℕ) (grows : Bool) (tiles' : List (ℕ × ℕ)) → (keeps : Keeps words marks heads store) → IsSound store → object_at store cell ≡ None
    → length words' - 1 ≡ (made_by store request (Take cell grows)).made_words
    → IsTiling 1 tiles' ((made_by store request (Take cell grows)).made_words + 1) → IsTile tiles' cell (request_size_class request)
    → ((q l : ℕ) → IsTile keeps.tiles q l → IsTile tiles' q l) → ((q l : ℕ) → IsTile tiles' q l → IsTile keeps.tiles q l ⊎ ((cell ≡ q) × (request_size_class request ≡ l)))
    → ((P : ℕ → Type 0) (l : ℕ) → AllByRecursion P (free_cells store l) → AllByRecursion P (free_cells (made_by store request (Take cell grows)) l))
    → ((l : ℕ) → AllByRecursion (λ other. nat_eq cell other ≡ false) (free_cells (made_by store request (Take cell grows)) l))
    → ((l : ℕ) → l < 64 → IsLinked words (slice_index heads' l) (free_cells (made_by store request (Take cell grows)) l))
    → ((q l : ℕ) → q ≢ cell → IsListed q (free_cells store l) → IsListed q (free_cells (made_by store request (Take cell grows)) l))
    → SameOutside words words' cell (request_size_class request) → object_from words' cell ≡ new_object store.births request → ((q : ℕ) → mark_in marks' q ≡ cond (nat_eq q cell) 1 (mark_in marks q))
    → Keeps words' marks' heads' (made_by store request (Take cell grows))
Keeps-made_by words words' marks marks' heads heads' store request cell grows tiles' keeps sound free long tiling tile more before part gone links still same is marked =
    let k = request_size_class request in
    let next = made_by store request (Take cell grows) in
    let object = new_object store.births request in
    let at = object_at-made_by store request cell grows in
    record {
      held = λ q. elim (cases_eq q cell) as (λ _. marked_object words' marks' q ≡ object_at next q) [
        | inl e ↦
            let mark : mark_in marks' cell ≡ 1 = marked cell ∙ ap (λ b. cond b 1 (mark_in marks cell)) (same-nat_eq cell) in
            ap (marked_object words' marks') e ∙ own_held words' marks' cell object mark is ∙ sym (at q ∙ ap (λ b. cond b (Some object) (object_at store q)) (ap (λ n. nat_eq n cell) e ∙ same-nat_eq cell))
        | inr e ↦
            other_held words words' marks marks' heads store tiles' (next.made_words + 1) cell k q keeps sound tiling tile (more q) e (marked q ∙ ap (λ b. cond b 1 (mark_in marks q)) (apart-nat_eq q cell e)) same
            ∙ sym (at q ∙ ap (λ b. cond b (Some object) (object_at store q)) (apart-nat_eq q cell e))
      ];
      words_made = long;
      tiles = tiles';
      tiling = tiling;
      held_tile = λ q o h. elim (cases_eq q cell) as (λ _. IsTile tiles' q (size_class_of o)) [
        | inl e ↦
            let here : Some object ≡ Some o = sym (ap (λ b. cond b (Some object) (object_at store q)) (ap (λ n. nat_eq n cell) e ∙ same-nat_eq cell)) ∙ sym (at q) ∙ h in
            subst (λ n. IsTile tiles' n (size_class_of o)) (sym e) (subst (λ n. IsTile tiles' cell n) (sym (size_class_of-new_object store.births request) ∙ ap size_class_of (same_Some object o here)) tile)
        | inr e ↦ more q (size_class_of o) (keeps.held_tile q o (sym (ap (λ b. cond b (Some object) (object_at store q)) (apart-nat_eq q cell e)) ∙ sym (at q) ∙ h))
      ];
      free_tile = λ l. AllByRecursion-weaker (λ d. IsTile keeps.tiles d l) (λ d. IsTile tiles' d l) (λ d t. more d l t) (free_cells next l) (part (λ d. IsTile keeps.tiles d l) l (keeps.free_tile l));
      linked = λ l below. other_links words words' tiles' (next.made_words + 1) cell k (slice_index heads' l) l (free_cells next l) tiling tile
          (AllByRecursion-weaker (λ d. IsTile keeps.tiles d l) (λ d. IsTile tiles' d l) (λ d t. more d l t) (free_cells next l) (part (λ d. IsTile keeps.tiles d l) l (keeps.free_tile l))) (gone l) same (links l below);
      covered = λ q l t. elim (cases_eq q cell) as (λ _. IsHeld next q ⊎ IsListed q (free_cells next l)) [
        | inl e ↦ inl (held_if (object_at next q) object (at q ∙ ap (λ b. cond b (Some object) (object_at store q)) (ap (λ n. nat_eq n cell) e ∙ same-nat_eq cell)))
        | inr e ↦ elim (before q l t) as (λ _. IsHeld next q ⊎ IsListed q (free_cells next l)) [
          | inl old ↦ elim (keeps.covered q l old) as (λ _. IsHeld next q ⊎ IsListed q (free_cells next l)) [
            | inl h ↦ inl (subst IsSome (sym (at q)) (either_held (nat_eq q cell) object (object_at store q) h))
            | inr h ↦ inr (still q l e h)
          ]
          | inr new ↦ absurd (e (sym new.0))
        ]
      ];
    }
