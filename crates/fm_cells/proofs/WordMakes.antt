-- The store that the fields of the word cells are when they are opened and after a make.
use Rattle.std.proofs.Common.{◌≡◌, ◌≢◌, ℕ, ◌+◌, ◌-◌, ◌*◌, ◌/◌, ◌%◌, ◌^◌, ◌<◌, ◌≤◌, Bool, true, false, cond, List, [], ◌∷◌, ◌++◌, length, get_or, set, replicate, max, refl, sym, ◌∙◌, ap, subst, nat_eq, arith, inl, inr, length-set, get_or-set_same, get_or-set_other, Global}
use Rattle.std.specs.Prelude.{Some, None, Result, Ok, Err, IfSome, IfOk, OnOk, slice_index}
use Rattle.std.specs.List.{AllByRecursion}
use Rattle.std.specs.Ordering.{nat_cmp}
use Rattle.std.specs.FinMap.{get-empty}
use Rattle.std.specs.declared.vec.Vec.{Vec}
use Rattle.std.proofs.lemmas.List.{get_or-replicate, get_or_past}
use Rattle.std.proofs.lemmas.Bool.{cases_eq, le-ltb}
use Rattle.std.proofs.lemmas.Option.{none-some}
use Rattle.fm_base.proofs.ListFacts.{AllByRecursion-weaker}
use Rattle.fm_base.proofs.TestFacts.{apart-nat_eq, same-nat_eq}
use Rattle.fm_cells.specs.Sizes.{packed_words, class_words, cell_words, size_class}
use Rattle.fm_cells.specs.Objects.{Request, IsRequest, request_words, request_size_class, new_object, request_of}
use Rattle.fm_cells.specs.Stores.{Store, opened, empty_lists, object_at, live_words, words_needed, free_cells, passes_limit, made_count, held_count}
use Rattle.fm_cells.specs.Changes.{Take, made_by}
use Rattle.fm_cells.specs.Soundness.{CellsFit, IsSound, IsFree, IsLastReused}
use Rattle.fm_cells.specs.inner.Words.{digit, with_digit, class_in, birth_in, pack_in, is_fixed, len_in, chain_in, extent_word, object_from, mark_in, marked_object}
use Rattle.fm_cells.specs.Choices.{TakesCell, last_choice}
use Rattle.fm_cells.specs.declared.answers.Cell.{Cell}
use Rattle.fm_cells.specs.declared.answers.MakeFail.{MakeFail}
use Rattle.fm_cells.specs.inner.Layouts.{Keeps, IsTile, IsTiling, IsLinked, IsListed}
use Rattle.fm_cells.specs.inner.WordStores.{word_store, IsWords}
use Rattle.fm_cells.specs.declared.word_cells.WordCells.TheInside.{Inside}
use Rattle.fm_cells.proofs.SizeLaws.{words-le-cell_words}
use Rattle.fm_cells.proofs.Layouts.{SameOutside, Keeps-made_by}
use Rattle.fm_cells.proofs.LastReused.{last_choice-fresh, made-most_held-fresh, nothing_freed, IsLastReused-opened, IsLastReused-head, IsLastReused-fresh, MayReuse-head, MayReuse-after, free_cells-head, free_cells-head_gone, free_cells-fresh}
use Rattle.fm_cells.proofs.Changes.{live_words-opened, live_words-made_by}
use Rattle.fm_cells.proofs.Words.{zero-digit, object_from-new}
use Rattle.fm_cells.proofs.Soundness.{IsSound-opened, IsSound-made_by, request_words_bound, request_size_class-lt}
use Rattle.fm_cells.proofs.Tiles.{tile-within, tiling-more, tile-more, tile-last, tile-before}
use Rattle.fm_cells.proofs.WordStores.{IsWords-is, marks-set, len_in-extent_word, chain_in-extent_word}

-- no words, no marks and no heads keep a store in which nothing was made
Keeps-opened : (words marks heads : List ℕ) (budget limit : ℕ) → words ≡ [] → marks ≡ [] → heads ≡ replicate 64 0 → Keeps words marks heads (opened budget (Some limit) empty_lists)
Keeps-opened words marks heads budget limit no_words no_marks no_heads =
    let store = opened budget (Some limit) empty_lists in
    let none = nothing_freed budget (Some limit) in
    let free : (cell : ℕ) → object_at store cell ≡ None = λ cell. get-empty nat_cmp cell in
    record {
      held = λ cell. ap (λ all. marked_object words all cell) no_marks ∙ ap (λ m. cond (nat_eq m 1) (Some (object_from words cell)) None) (zero-digit 1 (cell % 64)) ∙ sym (free cell);
      words_made = ap (λ all. length all - 1) no_words;
      tiles = [];
      tiling = omega arith;
      held_tile = λ cell object h. absurd (none-some object (sym (free cell) ∙ h));
      free_tile = λ k. subst (λ cells. AllByRecursion (λ cell. IsTile [] cell k) cells) (sym (none k)) tt;
      linked = λ k few. subst (λ cells. IsLinked words (slice_index heads k) cells) (sym (none k)) (ap (λ all. slice_index all k) no_heads ∙ get_or-replicate {A = ℕ} 64 k 0 0 few);
      covered = λ cell k tile. absurd tile;
    }

pub opened-done : (inside : Inside) (budget limit : ℕ) → inside.words.items ≡ [] → inside.marks.items ≡ [] → inside.heads ≡ replicate 64 0 → inside.made ≡ replicate 64 0 → inside.budget ≡ budget → inside.limit ≡ limit → inside.births ≡ 0 → inside.live ≡ 0 → inside.peak ≡ 0 → limit ≤ 2 ^ 32 - 2
    → (word_store inside ≡ opened budget (Some limit) empty_lists) × IsWords inside
opened-done inside budget limit no_words no_marks no_heads none_made is_budget is_limit no_births none_live no_peak fits =
    IsWords-is inside (opened budget (Some limit) empty_lists) (Keeps-opened inside.words.items inside.marks.items inside.heads budget limit no_words no_marks no_heads) (IsLastReused-opened budget (Some limit)) (IsSound-opened budget (Some limit) empty_lists)
    none_made is_budget (ap (λ n. Some n) is_limit) no_births no_peak (none_live ∙ sym (live_words-opened budget (Some limit) empty_lists)) (omega arith) (omega (arith, ap length no_words))

-- header words and zeros that were written into the words of a cell
pub record IsWritten (words words' : List ℕ) (cell identity extent count : ℕ) : Type 0 where
  pub first : get_or words' cell 0 ≡ identity
  pub second : get_or words' (cell + 1) 0 ≡ extent
  pub zeros : (k : ℕ) → cell + 2 ≤ k → k < cell + count → get_or words' k 0 ≡ 0
  pub before : (k : ℕ) → k < cell → get_or words' k 0 ≡ get_or words k 0
  pub after : (k : ℕ) → cell + count ≤ k → get_or words' k 0 ≡ get_or words k 0

-- the header word of a request
pub record IsIdentity (identity class birth pack : ℕ) (fixed : Bool) : Type 0 where
  pub class_is : class_in identity ≡ class
  pub birth_is : birth_in identity ≡ birth
  pub pack_is : pack_in identity ≡ pack
  pub fixed_is : is_fixed identity ≡ fixed

written-object : (words words' : List ℕ) (cell identity extent class birth pack len : ℕ) (fixed : Bool) → IsRequest (request_of class len pack fixed) → IsWritten words words' cell identity extent (packed_words len pack) → IsIdentity identity class birth pack fixed → extent ≡ extent_word len 0 → object_from words' cell ≡ new_object birth (request_of class len pack fixed)
written-object words words' cell identity extent class birth pack len fixed asked written head is_extent =
    let second : get_or words' (cell + 1) 0 ≡ extent_word len 0 = written.second ∙ is_extent in
    object_from-new words' cell class birth pack len fixed asked.pack_is (ap class_in written.first ∙ head.class_is) (ap birth_in written.first ∙ head.birth_is) (ap pack_in written.first ∙ head.pack_is) (ap is_fixed written.first ∙ head.fixed_is)
    (ap len_in second ∙ len_in-extent_word len 0 asked.len_fits) (ap chain_in second ∙ chain_in-extent_word len 0 asked.len_fits (omega arith)) written.zeros

written-outside : (words words' : List ℕ) (cell identity extent count k : ℕ) → IsWritten words words' cell identity extent count → count ≤ class_words k → SameOutside words words' cell k
written-outside words words' cell identity extent count k written fits = λ i out. elim out as (λ _. get_or words' i 0 ≡ get_or words i 0) [
  | inl h ↦ written.before i h
  | inr h ↦ written.after i (omega arith)
]

-- a request's words fit its cell
pub request-fits : (request : Request) → IsRequest request → request_words request ≤ class_words (request_size_class request)
request-fits request asked = words-le-cell_words (request_words request) (omega (arith, request_words_bound request asked))

-- held cells are within the made words, and so within the limit
cells_fit-last : (store : Store) (limit : ℕ) → Some limit ≡ store.limit → limit ≤ 2 ^ 32 - 2 → IsLastReused store → CellsFit store
cells_fit-last store limit is fits last cell held =
    let made : store.made_words ≤ limit = subst (λ o. IfSome o (λ most. store.made_words ≤ most)) (sym is) last.made_within_limit in
    omega (arith, last.within cell held)

-- the words, the marks and the heads after a make that takes the head of a list
Keeps-head : (words words' marks marks' heads : List ℕ) (store : Store) (request : Request) (cell : ℕ) (rest : List ℕ) → Keeps words marks heads store → IsLastReused store → IsSound store → IsRequest request → free_cells store (request_size_class request) ≡ cell ∷ rest → 64 ≤ length heads → length words' ≡ length words
    → SameOutside words words' cell (request_size_class request) → object_from words' cell ≡ new_object store.births request → ((q : ℕ) → mark_in marks' q ≡ cond (nat_eq q cell) 1 (mark_in marks q))
    → Keeps words' marks' (set heads (request_size_class request) (get_or words cell 0)) (made_by store request (Take cell false))
Keeps-head words words' marks marks' heads store request cell rest keeps last sound asked e room long same is marked =
    let k = request_size_class request in
    let next = made_by store request (Take cell false) in
    let few = request_size_class-lt request in
    let after = free_cells-head store request cell rest last e in
    let here = λ (l : ℕ) (h : l ≡ k). let is : free_cells next l ≡ rest = after l ∙ ap (λ b. cond b rest (free_cells store l)) (ap (λ n. nat_eq n k) h ∙ same-nat_eq k) in is in
    let there = λ (l : ℕ) (h : l ≢ k). let is : free_cells next l ≡ free_cells store l = after l ∙ ap (λ b. cond b rest (free_cells store l)) (apart-nat_eq l k h) in is in
    let tiles : AllByRecursion (λ d. IsTile keeps.tiles d k) (cell ∷ rest) = subst (λ cells. AllByRecursion (λ d. IsTile keeps.tiles d k) cells) e (keeps.free_tile k) in
    let link : IsLinked words (slice_index heads k) (cell ∷ rest) = subst (λ cells. IsLinked words (slice_index heads k) cells) e (keeps.linked k few) in
    let heads' = set heads k (get_or words cell 0) in
    Keeps-made_by words words' marks marks' heads heads' store request cell false keeps.tiles keeps sound (MayReuse-head store request cell rest false last e).1 (ap (λ n. n - 1) long ∙ keeps.words_made) keeps.tiling tiles.0 (λ q l t. t) (λ q l t. inl t)
    (λ P l h. elim (cases_eq l k) as (λ _. AllByRecursion P (free_cells next l)) [
      | inl s ↦ let whole : AllByRecursion P (cell ∷ rest) = subst (λ cells. AllByRecursion P cells) (ap (free_cells store) s ∙ e) h in subst (λ cells. AllByRecursion P cells) (sym (here l s)) whole.1
      | inr o ↦ subst (λ cells. AllByRecursion P cells) (sym (there l o)) h
    ])
    (free_cells-head_gone store request cell rest last e)
    (λ l below. elim (cases_eq l k) as (λ _. IsLinked words (slice_index heads' l) (free_cells next l)) [
      | inl s ↦
          let head : slice_index heads' l ≡ get_or words cell 0 = ap (slice_index heads') s ∙ get_or-set_same heads k (get_or words cell 0) 0 (omega arith) in
          subst (λ cells. IsLinked words (slice_index heads' l) cells) (sym (here l s)) (subst (λ n. IsLinked words n rest) (sym head) link.2)
      | inr o ↦ subst (λ cells. IsLinked words (slice_index heads' l) cells) (sym (there l o)) (subst (λ n. IsLinked words n (free_cells store l)) (sym (get_or-set_other heads k l (get_or words cell 0) 0 o)) (keeps.linked l below))
    ])
    (λ q l apart h. elim (cases_eq l k) as (λ _. IsListed q (free_cells next l)) [
      | inl s ↦
          let whole : IsListed q (cell ∷ rest) = subst (λ cells. IsListed q cells) (ap (free_cells store) s ∙ e) h in
          subst (λ cells. IsListed q cells) (sym (here l s)) (elim whole as (λ _. IsListed q rest) [ inl first ↦ absurd (apart (sym first)) | inr later ↦ later ])
      | inr o ↦ subst (λ cells. IsListed q cells) (sym (there l o)) h
    ])
    same is marked

pub head-done : (inside after : Inside) (now : Store) (cell : ℕ) (rest : List ℕ) (class len pack : ℕ) (fixed : Bool) (identity extent size kclass peak next : ℕ) (words marks : Vec ℕ Global) → word_store inside ≡ now → IsWords inside → IsRequest (request_of class len pack fixed) → now.births < 2 ^ 32 - 1
    → words_needed now (request_of class len pack fixed) ≤ now.budget → free_cells now (request_size_class (request_of class len pack fixed)) ≡ cell ∷ rest → 64 ≤ length inside.heads
    → size ≡ packed_words len pack → kclass ≡ size_class size → next ≡ get_or inside.words.items cell 0 → length words.items ≡ length inside.words.items → IsWritten inside.words.items words.items cell identity extent size → IsIdentity identity class inside.births pack fixed → extent ≡ extent_word len 0
    → cell / 64 < length inside.marks.items → marks.items ≡ set inside.marks.items (cell / 64) (with_digit 1 (cell % 64) 1 (get_or inside.marks.items (cell / 64) 0)) → peak ≡ max inside.peak (inside.live + size)
    → after ≡ record inside { words = words; marks = marks; heads = set inside.heads kclass next; births = inside.births + 1; live = inside.live + size; peak = peak }
    → (word_store after ≡ made_by now (request_of class len pack fixed) (Take cell false)) × IsWords after
head-done inside after now cell rest class len pack fixed identity extent size kclass peak next words marks view kept asked fits within e room is_size is_class is_next long written head is_extent bit marked is_peak changed =
    let request = request_of class len pack fixed in
    let last : IsLastReused now = subst (λ s. IsLastReused s) view kept.last_reused in
    let sound : IsSound now = subst (λ s. IsSound s) view kept.sound in
    let keeps : Keeps inside.words.items inside.marks.items inside.heads now = subst (λ s. Keeps inside.words.items inside.marks.items inside.heads s) view kept.keeps in
    let written' : IsWritten inside.words.items words.items cell identity extent (packed_words len pack) = subst (λ n. IsWritten inside.words.items words.items cell identity extent n) is_size written in
    let births : inside.births ≡ now.births = ap (λ s. s.births) view in
    let object : object_from words.items cell ≡ new_object now.births request = written-object inside.words.items words.items cell identity extent class inside.births pack len fixed asked written' head is_extent ∙ ap (λ n. new_object n request) births in
    let next_keeps = Keeps-head inside.words.items words.items inside.marks.items marks.items inside.heads now request cell rest keeps last sound asked e room long (written-outside inside.words.items words.items cell identity extent (packed_words len pack) (request_size_class request) written' (request-fits request asked)) object
    (marks-set inside.marks.items marks.items cell 1 bit (omega arith) marked) in
    let same_heads : set inside.heads (request_size_class request) (get_or inside.words.items cell 0) ≡ set inside.heads kclass next = ap (λ n. set inside.heads n (get_or inside.words.items cell 0)) (sym (is_class ∙ ap size_class is_size)) ∙ ap (λ n. set inside.heads kclass n) (sym is_next) in
    let all : Keeps words.items marks.items (set inside.heads kclass next) (made_by now request (Take cell false)) = subst (λ hs. Keeps words.items marks.items hs (made_by now request (Take cell false))) same_heads next_keeps in
    let live : inside.live ≡ live_words now = kept.live_is ∙ ap live_words view in
    let most : peak ≡ max now.peak (words_needed now request) = is_peak ∙ ap (λ p. max p (inside.live + size)) (ap (λ s. s.peak) view) ∙ ap (λ n. max now.peak (n + size)) live ∙ ap (λ n. max now.peak (live_words now + n)) is_size in
    let next_last = IsLastReused-head now request cell rest last e in
    let done = IsWords-is (record inside { words = words; marks = marks; heads = set inside.heads kclass next; births = inside.births + 1; live = inside.live + size; peak = peak }) (made_by now request (Take cell false)) all
    next_last (IsSound-made_by now request cell false sound asked fits within (MayReuse-head now request cell rest false last e) (cells_fit-last (made_by now request (Take cell false)) inside.limit (ap (λ s. s.limit) view) kept.limit_fits next_last)) (ap (λ s. s.made) view) (ap (λ s. s.budget) view) (ap (λ s. s.limit) view) (ap (λ n. n + 1) births) most
    (omega (arith, live_words-made_by now request cell false (MayReuse-head now request cell rest false last e).1)) kept.limit_fits
    (omega (arith, kept.marks_long, ap length marked, length-set inside.marks.items (cell / 64) (with_digit 1 (cell % 64) 1 (get_or inside.marks.items (cell / 64) 0)))) in
    (ap word_store changed ∙ done.0, subst (λ a. IsWords a) (sym changed) done.1)

-- the head of a list is a cell within the words, and what its first word keeps is a number of 32 bits
pub head_within : (inside : Inside) (now : Store) (cell : ℕ) (rest : List ℕ) (request : Request) → word_store inside ≡ now → IsWords inside → IsRequest request → free_cells now (request_size_class request) ≡ cell ∷ rest → (cell + request_words request ≤ length inside.words.items) × (get_or inside.words.items cell 0 < 2 ^ 32)
head_within inside now cell rest request view kept asked e =
    let k = request_size_class request in
    let last : IsLastReused now = subst (λ s. IsLastReused s) view kept.last_reused in
    let sound : IsSound now = subst (λ s. IsSound s) view kept.sound in
    let keeps : Keeps inside.words.items inside.marks.items inside.heads now = subst (λ s. Keeps inside.words.items inside.marks.items inside.heads s) view kept.keeps in
    let tiles : AllByRecursion (λ d. IsTile keeps.tiles d k) (cell ∷ rest) = subst (λ cells. AllByRecursion (λ d. IsTile keeps.tiles d k) cells) e (keeps.free_tile k) in
    let within = tile-within 1 keeps.tiles (now.made_words + 1) cell k keeps.tiling tiles.0 in
    let link : IsLinked inside.words.items (slice_index inside.heads k) (cell ∷ rest) = subst (λ cells. IsLinked inside.words.items (slice_index inside.heads k) cells) e (keeps.linked k (request_size_class-lt request)) in
    let free : AllByRecursion (IsFree now) (cell ∷ rest) = subst (λ cells. AllByRecursion (IsFree now) cells) e (last.free_not_held k) in
    let limit : now.made_words ≤ inside.limit = subst (λ s. s.made_words ≤ inside.limit) view kept.last_reused.made_within_limit in (
      omega (arith, within.0, within.1, within.2, keeps.words_made, request-fits request asked),
      elim rest as (λ cells. IsLinked inside.words.items (get_or inside.words.items cell 0) cells → AllByRecursion (IsFree now) cells → get_or inside.words.items cell 0 < 2 ^ 32) [
        | [] ↦ λ is _. omega (arith, is)
        | d ∷ _ ↦ λ is all. omega (arith, is.0, all.0.1, kept.limit_fits)
      ] link.2 free.1,
    )

-- marks that are the same at each place, and more of them, are the same marks
pub same-marks : (inside after : Inside) (now : Store) (words marks : Vec ℕ Global) → word_store inside ≡ now → IsWords inside → words.items ≡ inside.words.items → ((k : ℕ) → get_or marks.items k 0 ≡ get_or inside.marks.items k 0) → length inside.marks.items ≤ length marks.items
    → after ≡ record inside { words = words; marks = marks } → (word_store after ≡ now) × IsWords after
same-marks inside after now words marks view kept same_words same longer changed =
    let last : IsLastReused now = subst (λ s. IsLastReused s) view kept.last_reused in
    let sound : IsSound now = subst (λ s. IsSound s) view kept.sound in
    let keeps : Keeps inside.words.items inside.marks.items inside.heads now = subst (λ s. Keeps inside.words.items inside.marks.items inside.heads s) view kept.keeps in
    let next : Keeps inside.words.items marks.items inside.heads now = record {
      held = λ cell. ap (λ w. cond (nat_eq (digit 1 (cell % 64) w) 1) (Some (object_from inside.words.items cell)) None) (same (cell / 64)) ∙ keeps.held cell;
      words_made = keeps.words_made;
      tiles = keeps.tiles;
      tiling = keeps.tiling;
      held_tile = keeps.held_tile;
      free_tile = keeps.free_tile;
      linked = keeps.linked;
      covered = keeps.covered;
    } in
    let all : Keeps words.items marks.items inside.heads now = subst (λ ws. Keeps ws marks.items inside.heads now) (sym same_words) next in
    let done = IsWords-is (record inside { words = words; marks = marks }) now all last sound (ap (λ s. s.made) view) (ap (λ s. s.budget) view) (ap (λ s. s.limit) view) (ap (λ s. s.births) view) (ap (λ s. s.peak) view)
    (kept.live_is ∙ ap live_words view) kept.limit_fits (omega (arith, kept.marks_long, ap length same_words)) in
    (ap word_store changed ∙ done.0, subst (λ a. IsWords a) (sym changed) done.1)

-- the words, the marks and the heads after a make of a new cell
Keeps-fresh : (words words' marks marks' heads : List ℕ) (store : Store) (request : Request) → Keeps words marks heads store → IsLastReused store → IsSound store → IsRequest request → free_cells store (request_size_class request) ≡ []
    → length words' ≡ store.made_words + 1 + class_words (request_size_class request) → SameOutside words words' (store.made_words + 1) (request_size_class request) → object_from words' (store.made_words + 1) ≡ new_object store.births request
    → ((q : ℕ) → mark_in marks' q ≡ cond (nat_eq q (store.made_words + 1)) 1 (mark_in marks q))
    → Keeps words' marks' heads (made_by store request (Take (store.made_words + 1) true))
Keeps-fresh words words' marks marks' heads store request keeps last sound asked e long same is marked =
    let k = request_size_class request in
    let cell = store.made_words + 1 in
    let next = made_by store request (Take cell true) in
    let lists = free_cells-fresh store request last e in
    let wide : 2 ≤ class_words k = omega (arith, request-fits request asked) in
    let end : cell + class_words k ≡ next.made_words + 1 = omega arith in
    Keeps-made_by words words' marks marks' heads heads store request cell true (keeps.tiles ++ (cell, k) ∷ []) keeps sound (MayReuse-after store request true last).1 (omega arith)
    (subst (λ to. IsTiling 1 (keeps.tiles ++ (cell, k) ∷ []) to) end (tiling-more 1 keeps.tiles cell k keeps.tiling wide)) (tile-last keeps.tiles cell k)
    (λ q l t. tile-more keeps.tiles (cell, k) q l t) (λ q l t. tile-before keeps.tiles (cell, k) q l t)
    (λ P l h. subst (λ cells. AllByRecursion P cells) (sym (lists l)) h)
    (λ l. subst (λ cells. AllByRecursion (λ other. nat_eq cell other ≡ false) cells) (sym (lists l)) (AllByRecursion-weaker (IsFree store) (λ other. nat_eq cell other ≡ false) (λ other h. apart-nat_eq cell other (λ same. absurd (omega (arith, h.1)))) (free_cells store l) (last.free_not_held l)))
    (λ l below. subst (λ cells. IsLinked words (slice_index heads l) cells) (sym (lists l)) (keeps.linked l below))
    (λ q l apart h. subst (λ cells. IsListed q cells) (sym (lists l)) h)
    same is marked

pub fresh-done : (inside after : Inside) (now : Store) (class len pack : ℕ) (fixed : Bool) (cell identity extent size kclass peak : ℕ) (grown room words marks : Vec ℕ Global) → word_store inside ≡ now → IsWords inside → IsRequest (request_of class len pack fixed) → now.births < 2 ^ 32 - 1
    → words_needed now (request_of class len pack fixed) ≤ now.budget → free_cells now (request_size_class (request_of class len pack fixed)) ≡ [] → passes_limit now (request_of class len pack fixed) ≡ false
    → cell ≡ now.made_words + 1 → size ≡ packed_words len pack → kclass ≡ size_class size
    → ((i : ℕ) → i < cell → get_or grown.items i 0 ≡ get_or inside.words.items i 0) → length grown.items ≡ cell + class_words kclass
    → length words.items ≡ length grown.items → IsWritten grown.items words.items cell identity extent size → IsIdentity identity class inside.births pack fixed → extent ≡ extent_word len 0
    → ((k : ℕ) → get_or room.items k 0 ≡ get_or inside.marks.items k 0) → cell + class_words kclass ≤ 64 * length room.items
    → marks.items ≡ set room.items (cell / 64) (with_digit 1 (cell % 64) 1 (get_or room.items (cell / 64) 0)) → peak ≡ max inside.peak (inside.live + size)
    → after ≡ record inside { words = words; marks = marks; made = set inside.made kclass (get_or inside.made kclass 0 + 1); births = inside.births + 1; live = inside.live + size; peak = peak }
    → (word_store after ≡ made_by now (request_of class len pack fixed) (Take (now.made_words + 1) true)) × IsWords after
fresh-done inside after now class len pack fixed cell identity extent size kclass peak grown room words marks view kept asked fits within e open_limit is_cell is_size is_class front grown_long long written head is_extent same_room roomy marked is_peak changed =
    let request = request_of class len pack fixed in
    let k = request_size_class request in
    let last : IsLastReused now = subst (λ s. IsLastReused s) view kept.last_reused in
    let sound : IsSound now = subst (λ s. IsSound s) view kept.sound in
    let keeps : Keeps inside.words.items inside.marks.items inside.heads now = subst (λ s. Keeps inside.words.items inside.marks.items inside.heads s) view kept.keeps in
    let class_is : kclass ≡ k = is_class ∙ ap size_class is_size in
    let cell_words_are : class_words kclass ≡ class_words k = ap class_words class_is in
    let written' : IsWritten grown.items words.items cell identity extent (packed_words len pack) = subst (λ n. IsWritten grown.items words.items cell identity extent n) is_size written in
    let births : inside.births ≡ now.births = ap (λ s. s.births) view in
    let object : object_from words.items cell ≡ new_object now.births request = written-object grown.items words.items cell identity extent class inside.births pack len fixed asked written' head is_extent ∙ ap (λ n. new_object n request) births in
    let outside : SameOutside inside.words.items words.items cell k = λ i out. written-outside grown.items words.items cell identity extent (packed_words len pack) k written' (request-fits request asked) i out
    ∙ elim out as (λ _. get_or grown.items i 0 ≡ get_or inside.words.items i 0) [
      | inl h ↦ front i h
      | inr h ↦ get_or_past grown.items i 0 (omega arith) ∙ sym (get_or_past inside.words.items i 0 (omega (arith, keeps.words_made)))
    ] in
    let marks_are : (q : ℕ) → mark_in marks.items q ≡ cond (nat_eq q cell) 1 (mark_in inside.marks.items q) = λ q.
    marks-set room.items marks.items cell 1 (omega (arith, request-fits request asked)) (omega arith) marked q ∙ ap (λ w. cond (nat_eq q cell) 1 (digit 1 (q % 64) w)) (same_room (q / 64)) in
    let next_keeps = Keeps-fresh inside.words.items words.items inside.marks.items marks.items inside.heads now request keeps last sound asked e (omega (arith, long, grown_long, cell_words_are))
    (subst (λ c. SameOutside inside.words.items words.items c k) is_cell outside) (ap (object_from words.items) (sym is_cell) ∙ object) (λ q. marks_are q ∙ ap (λ c. cond (nat_eq q c) 1 (mark_in inside.marks.items q)) is_cell) in
    let live : inside.live ≡ live_words now = kept.live_is ∙ ap live_words view in
    let most : peak ≡ max now.peak (words_needed now request) = is_peak ∙ ap (λ p. max p (inside.live + size)) (ap (λ s. s.peak) view) ∙ ap (λ n. max now.peak (n + size)) live ∙ ap (λ n. max now.peak (live_words now + n)) is_size in
    let made : set inside.made kclass (get_or inside.made kclass 0 + 1) ≡ set now.made k (get_or now.made k 0 + 1) = ap (λ all. set all kclass (get_or all kclass 0 + 1)) (ap (λ s. s.made) view) ∙ ap (λ n. set now.made n (get_or now.made n 0 + 1)) class_is in
    let next_last = IsLastReused-fresh now request last open_limit e in
    let done = IsWords-is (record inside { words = words; marks = marks; made = set inside.made kclass (get_or inside.made kclass 0 + 1); births = inside.births + 1; live = inside.live + size; peak = peak }) (made_by now request (Take (now.made_words + 1) true)) next_keeps
    next_last (IsSound-made_by now request (now.made_words + 1) true sound asked fits within (MayReuse-after now request true last) (cells_fit-last (made_by now request (Take (now.made_words + 1) true)) inside.limit (ap (λ s. s.limit) view) kept.limit_fits next_last)) made (ap (λ s. s.budget) view) (ap (λ s. s.limit) view) (ap (λ n. n + 1) births) most
    (omega (arith, live_words-made_by now request (now.made_words + 1) true (MayReuse-after now request true last).1)) kept.limit_fits
    (omega (arith, long, grown_long, ap length marked, length-set room.items (cell / 64) (with_digit 1 (cell % 64) 1 (get_or room.items (cell / 64) 0)))) in
    (ap word_store changed ∙ done.0, subst (λ a. IsWords a) (sym changed) done.1)

-- what was written is written in each list that is the same
pub rewritten : (words words' again : List ℕ) (cell identity extent count : ℕ) → words' ≡ again → IsWritten words words' cell identity extent count → IsWritten words again cell identity extent count
rewritten words words' again cell identity extent count same written = subst (λ ws. IsWritten words ws cell identity extent count) same written

-- the next cell is the one after all made words
pub next_cell : (inside : Inside) (now : Store) (cell : ℕ) → word_store inside ≡ now → cell ≡ max inside.words.len 1 → cell ≡ now.made_words + 1
next_cell inside now cell view is =
    let made : length inside.words.items - 1 ≡ now.made_words = ap (λ s. s.made_words) view in
    omega (arith, inside.words.ok.0)

-- a new cell that ends within the limit doesn't pass it
pub within-passes : (inside : Inside) (now : Store) (cell cells : ℕ) (request : Request) → word_store inside ≡ now → cell ≡ now.made_words + 1 → cells ≡ cell_words (request_words request) → cell + cells - 1 ≤ inside.limit → passes_limit now request ≡ false
within-passes inside now cell cells request view is_cell is_cells within =
    let made : length inside.words.items - 1 ≡ now.made_words = ap (λ s. s.made_words) view in
    ap (λ s. passes_limit s request) (sym view) ∙ le-ltb inside.limit (length inside.words.items - 1 + cell_words (request_words request)) (omega arith)

-- a list whose head is 0 is empty, and any other begins with its head
pub head-none : (inside : Inside) (now : Store) (head : ℕ) (request : Request) → word_store inside ≡ now → IsWords inside → IsRequest request → get_or inside.heads (request_size_class request) 0 ≡ head → head ≡ 0 → free_cells now (request_size_class request) ≡ []
head-none inside now head request view kept asked is zero =
    let k = request_size_class request in
    let link : IsLinked inside.words.items (slice_index inside.heads k) (free_cells now k) = subst (λ s. IsLinked inside.words.items (slice_index inside.heads k) (free_cells s k)) view (kept.keeps.linked k (request_size_class-lt request)) in
    elim (free_cells now k) as (λ cells. IsLinked inside.words.items (slice_index inside.heads k) cells → cells ≡ []) [
      | [] ↦ λ _. refl
      | d ∷ ds ↦ λ l. absurd (omega (arith, l.0, l.1))
    ] link

pub head-some : (inside : Inside) (now : Store) (head : ℕ) (request : Request) → word_store inside ≡ now → IsWords inside → IsRequest request → get_or inside.heads (request_size_class request) 0 ≡ head → head ≢ 0 → (rest : List ℕ) × (free_cells now (request_size_class request) ≡ head ∷ rest)
head-some inside now head request view kept asked is other =
    let k = request_size_class request in
    let link : IsLinked inside.words.items (slice_index inside.heads k) (free_cells now k) = subst (λ s. IsLinked inside.words.items (slice_index inside.heads k) (free_cells s k)) view (kept.keeps.linked k (request_size_class-lt request)) in
    elim (free_cells now k) as (λ cells. IsLinked inside.words.items (slice_index inside.heads k) cells → (rest : List ℕ) × (cells ≡ head ∷ rest)) [
      | [] ↦ λ l. absurd (other (sym is ∙ l))
      | d ∷ ds ↦ λ l. (ds, ap (λ c. c ∷ ds) (sym l.0 ∙ is))
    ] link

-- what a make of a new cell says, in the words of memory that takes the last freed cell
pub fresh-taken : (now new : Store) (request : Request) (r : Result Cell MakeFail) → free_cells now (request_size_class request) ≡ [] → IfOk r (λ cell. (cell.0 ≡ now.made_words + 1) × (new ≡ made_by now request (Take (now.made_words + 1) true))) → IfOk r (λ _. passes_limit now request ≡ false) → IfOk r (λ cell. TakesCell (last_choice now request) cell.0)
fresh-taken now new request (Ok cell) e made open_limit = (true, sym (last_choice-fresh now request e open_limit) ∙ ap (λ n. Take n true) (sym made.0))
fresh-taken now new request (Err x) e made open_limit = tt

pub fresh-made : (now new : Store) (request : Request) (r : Result Cell MakeFail) → free_cells now (request_size_class request) ≡ [] → IfOk r (λ cell. (cell.0 ≡ now.made_words + 1) × (new ≡ made_by now request (Take (now.made_words + 1) true))) → IfOk r (λ _. passes_limit now request ≡ false) → OnOk r (new ≡ made_by now request (last_choice now request))
fresh-made now new request (Ok cell) e made open_limit = made.1 ∙ ap (made_by now request) (last_choice-fresh now request e open_limit)
fresh-made now new request (Err x) e made open_limit = tt

pub fresh-most_held : (now new : Store) (request : Request) (r : Result Cell MakeFail) → IsLastReused now → free_cells now (request_size_class request) ≡ [] → IfOk r (λ cell. (cell.0 ≡ now.made_words + 1) × (new ≡ made_by now request (Take (now.made_words + 1) true)))
    → OnOk r (new.made ≡ set now.made (request_size_class request) (max (made_count now (request_size_class request)) (held_count new (request_size_class request))))
fresh-most_held now new request (Ok cell) last e made = subst (λ s. s.made ≡ set now.made (request_size_class request) (max (made_count now (request_size_class request)) (held_count s (request_size_class request)))) (sym made.1) (made-most_held-fresh now request last e)
fresh-most_held now new request (Err x) last e made = tt
