-- Old items with what is inserted before and after each, whatever that is: these are new items as layout requires them.
use Rattle.std.proofs.Common.{◌≡◌, ℕ, zero, suc, ◌+◌, ◌<◌, ◌≤◌, List, [], ◌∷◌, ◌++◌, length, map, Some, refl, sym, ap, subst, ◌∙◌, arith}
use Rattle.std.specs.Prelude.{IsSomeAnd, slice_get, slice_index}
use Rattle.std.specs.List.{AllByRecursion, filter_map, flat_map, range_with_len, sum}
use Rattle.std.proofs.lemmas.List.{length-append}
use Rattle.std.proofs.lemmas.List.Elements.{filter_map-append}
use Rattle.std.proofs.lemmas.List.Sums.{sum_by-cons, sum-map}
use Rattle.fm_base.proofs.ListFacts.{AllByRecursion-append, AllByRecursion-at}
use Rattle.fm_code.specs.SpellsCode.{ItemIsSpelled, targets_of, with_targets}
use Rattle.fm_code.specs.declared.code_array.Code.{Code}
use Rattle.fm_code.specs.declared.code_array.Item.{Item}
use Rattle.fm_code.specs.declared.instructions.Insn.{Insn}
use Rattle.fm_layout.proofs.LayoutLemmas.{one_each}
use Rattle.fm_layout.proofs.TablesLemmas.{length-firsts_from}
use Rattle.fm_layout.specs.Conditions.{AreNewItems, AreOldItems, HasOrigin, IsSameButTargets}
use Rattle.fm_layout.specs.Laid.{laid_of}
use Rattle.fm_layout.specs.Rooms.{rooms_of, widened_rooms}
use Rattle.fm_layout.specs.Tables.{AreAnchors}
use Rattle.fm_layout.specs.declared.laying.TheConstants.{MAX_NEW_ITEMS}
use Rattle.fm_layout.specs.declared.new_items.NewItem.{NewItem}
use Rattle.fm_place.proofs.WovenLemmas.{all-map, same-but-targets, targets-of-with}
use Rattle.fm_place.specs.Woven.{kept}

-- what is inserted at items, by their numbers
abbrev pub Inserts : Type 0
Inserts = ℕ → List NewItem

-- one old item
abbrev pub replaced_item : List ℕ → (ahead behind : Inserts) → ℕ → Insn → List NewItem
replaced_item anchors ahead behind j i = ahead j ++ kept anchors j i ∷ behind j

-- these old items, from a number on
abbrev pub replaced_items : List ℕ → (ahead behind : Inserts) → ℕ → List Item → List NewItem
replaced_items anchors ahead behind j [] = []
replaced_items anchors ahead behind j (item ∷ items) =
    replaced_item anchors ahead behind j item.insn ++ replaced_items anchors ahead behind (j + 1) items

-- their anchors, by how many new items each becomes
abbrev pub numbers_from : (count : ℕ → ℕ) → (number j : ℕ) → List Item → List ℕ
numbers_from count number j [] = number ∷ []
numbers_from count number j (item ∷ items) = number ∷ numbers_from count (number + count j) (j + 1) items

-- each item becomes itself and what is inserted at it
abbrev pub AreCounted : (count : ℕ → ℕ) → (ahead behind : Inserts) → Type 0
AreCounted count ahead behind = (j : ℕ) → count j ≡ length (ahead j) + 1 + length (behind j)

-- ---- lengths

pub sum_cons : {X : Type 0} (size : X → ℕ) (h : X) (hs : List X) → sum (map size (h ∷ hs)) ≡ size h + sum (map size hs)
sum_cons size h hs = sum-map size (h ∷ hs) ∙ sum_by-cons size h hs ∙ ap (λ n. size h + n) (sym (sum-map size hs))

pub flat_size : (f : Inserts) (size : ℕ → ℕ) → ((h : ℕ) → length (f h) ≡ size h) → (hs : List ℕ) → length (flat_map f hs) ≡ sum (map size hs)
flat_size f size each [] = refl
flat_size f size each (h ∷ hs) =
    let both = length-append (f h) (flat_map f hs) in
    let one = each h in
    let rest = flat_size f size each hs in
    let sum = sum_cons size h hs in
    omega (arith, both, one, rest, sum)

one_size : (anchors : List ℕ) (ahead behind : Inserts) (count : ℕ → ℕ) → AreCounted count ahead behind → (j : ℕ) (item : Item) (items : List Item)
    → length (replaced_items anchors ahead behind j (item ∷ items)) ≡ count j + length (replaced_items anchors ahead behind (j + 1) items)
one_size anchors ahead behind count counted j item items =
    let both = length-append (replaced_item anchors ahead behind j item.insn) (replaced_items anchors ahead behind (j + 1) items) in
    let one = length-append (ahead j) (kept anchors j item.insn ∷ behind j) in
    let is = counted j in
    omega (arith, both, one, is)

-- ---- anchors

anchor_below : (anchors : List ℕ) (ahead behind : Inserts) (count : ℕ → ℕ) → AreCounted count ahead behind → (n j : ℕ) (items : List Item) (k : ℕ)
    → k < length items → slice_index (numbers_from count n j items) k < n + length (replaced_items anchors ahead behind j items)
anchor_below anchors ahead behind count counted n j [] k inside = absurd (omega arith)
anchor_below anchors ahead behind count counted n j (item ∷ items) zero inside =
    let all = one_size anchors ahead behind count counted j item items in
    let is = counted j in
    omega (arith, all, is)
anchor_below anchors ahead behind count counted n j (item ∷ items) (suc k) inside =
    let all = one_size anchors ahead behind count counted j item items in
    let rest = anchor_below anchors ahead behind count counted (n + count j) (j + 1) items k (omega arith) in
    omega (arith, all, rest)

anchor_most : (anchors : List ℕ) (ahead behind : Inserts) (count : ℕ → ℕ) → AreCounted count ahead behind → (n j : ℕ) (items : List Item) (k : ℕ)
    → k ≤ length items → slice_index (numbers_from count n j items) k ≤ n + length (replaced_items anchors ahead behind j items)
anchor_most anchors ahead behind count counted n j [] zero inside = omega arith
anchor_most anchors ahead behind count counted n j [] (suc k) inside = absurd (omega arith)
anchor_most anchors ahead behind count counted n j (item ∷ items) zero inside = omega arith
anchor_most anchors ahead behind count counted n j (item ∷ items) (suc k) inside =
    let all = one_size anchors ahead behind count counted j item items in
    let rest = anchor_most anchors ahead behind count counted (n + count j) (j + 1) items k (omega arith) in
    omega (arith, all, rest)

first_number : (count : ℕ → ℕ) (n j : ℕ) (items : List Item) → slice_index (numbers_from count n j items) 0 ≡ n
first_number count n j [] = refl
first_number count n j (item ∷ items) = refl

numbers_size : (count : ℕ → ℕ) (n j : ℕ) (items : List Item) → length (numbers_from count n j items) ≡ length items + 1
numbers_size count n j [] = refl
numbers_size count n j (item ∷ items) = let rest = numbers_size count (n + count j) (j + 1) items in omega (arith, rest)

numbers_rise : (ahead behind : Inserts) (count : ℕ → ℕ) → AreCounted count ahead behind → (n j : ℕ) (items : List Item) (k : ℕ)
    → suc k < length (numbers_from count n j items) → slice_index (numbers_from count n j items) k < slice_index (numbers_from count n j items) (suc k)
numbers_rise ahead behind count counted n j [] k inside = absurd (omega arith)
numbers_rise ahead behind count counted n j (item ∷ items) zero inside =
    let next = first_number count (n + count j) (j + 1) items in
    let is = counted j in
    omega (arith, next, is)
numbers_rise ahead behind count counted n j (item ∷ items) (suc k) inside =
    numbers_rise ahead behind count counted (n + count j) (j + 1) items k (omega arith)

pub numbers_are_anchors : (code : Code) (started : List NewItem) (anchors : List ℕ) (ahead behind : Inserts) (count : ℕ → ℕ) → AreCounted count ahead behind
    → AreAnchors code (laid_of code.items (started ++ replaced_items anchors ahead behind 0 code.items)) (numbers_from count (length started) 0 code.items)
unfolding laid_of
numbers_are_anchors code started anchors ahead behind count counted =
    let numbers = numbers_from count (length started) 0 code.items in
    let all = started ++ replaced_items anchors ahead behind 0 code.items in
    record {
      count = numbers_size count (length started) 0 code.items;
      rising = λ k inside.
          subst (λ l. slice_index numbers k < slice_index numbers l) (omega arith)
          (numbers_rise ahead behind count counted (length started) 0 code.items k (omega arith));
      within = λ k inside.
          let most = anchor_most anchors ahead behind count counted (length started) 0 code.items k
          (let size = numbers_size count (length started) 0 code.items in omega (arith, size)) in
          let rooms = one_each code.items all in
          let firsts = length-firsts_from 0 (widened_rooms (rooms_of code.items all)) in
          let whole = length-append started (replaced_items anchors ahead behind 0 code.items) in
          omega (arith, most, rooms, firsts, whole);
    }

-- ---- each item

-- what holds of what is inserted, and of each kept item, holds of all
all_replaced : (P : NewItem → Type 0) (anchors : List ℕ) (ahead behind : Inserts) (Q : ℕ → Item → Type 0)
    → ((j : ℕ) → AllByRecursion P (ahead j)) → ((j : ℕ) → AllByRecursion P (behind j)) → ((j : ℕ) (item : Item) → Q j item → P (kept anchors j item.insn))
    → (j : ℕ) (items : List Item) → ((k : ℕ) (item : Item) → slice_get items k ≡ Some item → Q (j + k) item)
    → AllByRecursion P (replaced_items anchors ahead behind j items)
all_replaced P anchors ahead behind Q before after keeps j [] there = tt
all_replaced P anchors ahead behind Q before after keeps j (item ∷ items) there =
    AllByRecursion-append P (replaced_item anchors ahead behind j item.insn) (replaced_items anchors ahead behind (j + 1) items)
    (AllByRecursion-append P (ahead j) (kept anchors j item.insn ∷ behind j) (before j) (
      keeps j item (subst (λ n. Q n item) (omega arith) (there 0 item refl)),
      after j,
    ))
    (all_replaced P anchors ahead behind Q before after keeps (j + 1) items (λ k other is. subst (λ n. Q n other) (omega arith) (there (suc k) other is)))

-- ---- order

-- none of these is an old item
abbrev pub AreInserted : List NewItem → Type 0
AreInserted items = filter_map (λ (new : NewItem). new.kept) items ≡ []

pub flat_inserted : (f : Inserts) (hs : List ℕ) → ((h : ℕ) → AreInserted (f h)) → AreInserted (flat_map f hs)
flat_inserted f [] none = refl
flat_inserted f (h ∷ hs) none =
    filter_map-append (λ (new : NewItem). new.kept) (f h) (flat_map f hs)
    ∙ ap (λ xs. xs ++ filter_map (λ (new : NewItem). new.kept) (flat_map f hs)) (none h) ∙ flat_inserted f hs none

in_turn : (anchors : List ℕ) (ahead behind : Inserts) → ((j : ℕ) → AreInserted (ahead j)) → ((j : ℕ) → AreInserted (behind j)) → (j : ℕ) (items : List Item)
    → filter_map (λ (new : NewItem). new.kept) (replaced_items anchors ahead behind j items) ≡ range_with_len j (length items)
in_turn anchors ahead behind before after j [] = refl
in_turn anchors ahead behind before after j (item ∷ items) =
    filter_map-append (λ (new : NewItem). new.kept) (replaced_item anchors ahead behind j item.insn) (replaced_items anchors ahead behind (j + 1) items)
    ∙ ap (λ xs. xs ++ filter_map (λ (new : NewItem). new.kept) (replaced_items anchors ahead behind (j + 1) items))
    (filter_map-append (λ (new : NewItem). new.kept) (ahead j) (kept anchors j item.insn ∷ behind j)
    ∙ ap (λ xs. xs ++ j ∷ filter_map (λ (new : NewItem). new.kept) (behind j)) (before j) ∙ ap (λ xs. j ∷ xs) (after j))
    ∙ ap (λ xs. j ∷ xs) (in_turn anchors ahead behind before after (j + 1) items)

-- ---- together

-- what is inserted is, and goes nowhere
pub record MayBeInserted (old : List Item) (items : List NewItem) : Type 0 where
  pub origin : AllByRecursion (HasOrigin old) items
  pub nowhere : AllByRecursion (λ (new : NewItem). targets_of new.insn ≡ []) items
  pub inserted : AreInserted items

module _ (code : Code) (started : List NewItem) (ahead behind : Inserts) (count : ℕ → ℕ) (counted : AreCounted count ahead behind) where
  abbrev numbers : List ℕ
  numbers = numbers_from count (length started) 0 code.items

  abbrev all : List NewItem
  all = started ++ replaced_items numbers ahead behind 0 code.items

  abbrev Named : NewItem → Type 0
  Named new = AllByRecursion (λ target. target < length all) (targets_of new.insn)

  unnamed : (items : List NewItem) → AllByRecursion (λ (new : NewItem). targets_of new.insn ≡ []) items → AllByRecursion Named items
  unnamed [] none = tt
  unnamed (new ∷ items) (one, rest) = (subst (AllByRecursion (λ target. target < length all)) (sym one) tt, unnamed items rest)

  reaches : (t : ℕ) → t < length code.items → slice_index numbers t < length all
  reaches t inside =
      let below = anchor_below numbers ahead behind count counted (length started) 0 code.items t inside in
      let whole = length-append started (replaced_items numbers ahead behind 0 code.items) in
      omega (arith, below, whole)

  keeps : (j : ℕ) (item : Item) → slice_get code.items j ≡ Some item → HasOrigin code.items (kept numbers j item.insn)
  keeps j item is =
      subst (λ o. IsSomeAnd o (λ (old : Item). IsSameButTargets (with_targets (slice_index numbers) item.insn) old.insn)) (sym is)
      (same-but-targets (slice_index numbers) item.insn)

  named : (j : ℕ) (item : Item) → ItemIsSpelled code.items item → Named (kept numbers j item.insn)
  named j item spelled =
      subst (AllByRecursion (λ target. target < length all)) (sym (targets-of-with (slice_index numbers) item.insn))
      (all-map (λ t. t < length all) (λ t. t < length code.items) (slice_index numbers) (targets_of item.insn) reaches spelled.targets)

  pub replaced_is_laid_out : AreOldItems code.items → MayBeInserted code.items started → ((j : ℕ) → MayBeInserted code.items (ahead j))
      → ((j : ℕ) → MayBeInserted code.items (behind j)) → length all < MAX_NEW_ITEMS → AreNewItems code.items all
  replaced_is_laid_out old start before after few = record {
    each =
        AllByRecursion-append (HasOrigin code.items) started (replaced_items numbers ahead behind 0 code.items) start.origin
        (all_replaced (HasOrigin code.items) numbers ahead behind (λ j item. slice_get code.items j ≡ Some item) (λ j. (before j).origin) (λ j. (after j).origin)
        keeps 0 code.items (λ k item is. subst (λ n. slice_get code.items n ≡ Some item) (omega arith) is));
    targets =
        AllByRecursion-append Named started (replaced_items numbers ahead behind 0 code.items) (unnamed started start.nowhere)
        (all_replaced Named numbers ahead behind (λ j item. ItemIsSpelled code.items item) (λ j. unnamed (ahead j) (before j).nowhere)
        (λ j. unnamed (behind j) (after j).nowhere) named 0 code.items
        (λ k item is. AllByRecursion-at (ItemIsSpelled code.items) code.items k item old.spelled.spelled is));
    in_order =
        filter_map-append (λ (new : NewItem). new.kept) started (replaced_items numbers ahead behind 0 code.items)
        ∙ ap (λ xs. xs ++ filter_map (λ (new : NewItem). new.kept) (replaced_items numbers ahead behind 0 code.items)) start.inserted
        ∙ in_turn numbers ahead behind (λ j. (before j).inserted) (λ j. (after j).inserted) 0 code.items;
    few = few;
  }
