-- The woven items are what layout asks for, and the anchors are anchors.
use Rattle.std.proofs.Common.{◌≡◌, ℕ, zero, suc, ◌+◌, ◌*◌, ◌<◌, ◌≤◌, List, [], ◌∷◌, ◌++◌, length, map, Some, refl, sym, ap, subst, ◌∙◌, arith, Contains}
use Rattle.std.specs.Prelude.{IsSomeAnd, nat_eq, slice_get, slice_index}
use Rattle.std.specs.List.{AllByRecursion, filter_map, flat_map, range_with_len}
use Rattle.std.proofs.lemmas.List.{length-append}
use Rattle.std.proofs.lemmas.List.Elements.{filter_map-append}
use Rattle.std.proofs.lemmas.List.FromFn.{length-range_with_len}
use Rattle.std.proofs.lemmas.Option.{slice_get_within}
use Rattle.fm_base.proofs.ListFacts.{AllByRecursion-append, AllByRecursion-at}
use Rattle.fm_base.specs.declared.limits.TheConstants.{MAX_LOCAL_WORDS}
use Rattle.fm_code.proofs.EdgesLemmas.{Contains-first, Contains-later}
use Rattle.fm_code.specs.Fits.{FitsTwo}
use Rattle.fm_code.specs.SpellsCode.{ItemIsSpelled, targets_of, with_targets}
use Rattle.fm_code.specs.declared.code_array.Code.{Code}
use Rattle.fm_code.specs.declared.code_array.Item.{Item}
use Rattle.fm_code.specs.declared.instructions.Insn.{Insn}
use Rattle.fm_code.specs.declared.instructions.Insn.TheVariants as insn
use Rattle.fm_conn.proofs.ListLemmas.{Contains-from_range}
use Rattle.fm_layout.proofs.LayoutLemmas.{one_each}
use Rattle.fm_layout.proofs.TablesLemmas.{length-firsts_from}
use Rattle.fm_layout.specs.Conditions.{HasOrigin, IsSameButTargets}
use Rattle.fm_layout.specs.Laid.{laid_of}
use Rattle.fm_layout.specs.Rooms.{rooms_of, widened_rooms}
use Rattle.fm_layout.specs.declared.new_items.NewItem.{NewItem}
use Rattle.fm_place.proofs.FullLemmas.{numbers-found}
use Rattle.fm_place.specs.Insertions.{after_at, before_at, Holder, Insertions}
use Rattle.fm_place.specs.Laws.{AnchorsAreAnchors, WovenIsLaidOut}
use Rattle.fm_place.specs.Woven.{anchors_from, anchors_of, count_at, freed, freed_items, kept, local_of, null_stored, null_stored_items, top_stored, top_stored_items, woven, woven_from, woven_item}

-- ---- lengths

length-freed : (free : ℕ) (code : Code) (hs : List ℕ) → length (flat_map (λ h. freed free (local_of code h)) hs) ≡ freed_items * length hs
length-freed free code [] = refl
length-freed free code (h ∷ hs) = let rest = length-freed free code hs in omega (arith, rest)

length-top : (code : Code) (hs : List ℕ) → length (flat_map (λ h. top_stored (local_of code h)) hs) ≡ top_stored_items * length hs
length-top code [] = refl
length-top code (h ∷ hs) = let rest = length-top code hs in omega (arith, rest)

length-null : (code : Code) (hs : List ℕ) → length (flat_map (λ h. null_stored (local_of code h)) hs) ≡ null_stored_items * length hs
length-null code [] = refl
length-null code (h ∷ hs) = let rest = length-null code hs in omega (arith, rest)

length-item : (free : ℕ) (code : Code) (plan : Insertions) (anchors : List ℕ) (j : ℕ) (i : Insn)
    → length (woven_item free code plan anchors j i) ≡ count_at plan j
length-item free code plan anchors j i =
    let before = length-freed free code (before_at plan j) in
    let after = length-top code (after_at plan j) in
    let both = length-append (flat_map (λ h. freed free (local_of code h)) (before_at plan j))
    (kept anchors j i ∷ flat_map (λ h. top_stored (local_of code h)) (after_at plan j)) in
    omega (arith, before, after, both)

length-from : (free : ℕ) (code : Code) (plan : Insertions) (anchors : List ℕ) (j : ℕ) (item : Item) (items : List Item)
    → length (woven_from free code plan anchors j (item ∷ items)) ≡ count_at plan j + length (woven_from free code plan anchors (j + 1) items)
length-from free code plan anchors j item items =
    length-append (woven_item free code plan anchors j item.insn) (woven_from free code plan anchors (j + 1) items)
    ∙ ap (λ n. n + length (woven_from free code plan anchors (j + 1) items)) (length-item free code plan anchors j item.insn)

length-woven : (free : ℕ) (code : Code) (plan : Insertions)
    → length (woven free code plan)
    ≡ null_stored_items * length plan.holders + length (woven_from free code plan (anchors_of plan code.items) 0 code.items)
length-woven free code plan =
    length-append (flat_map (λ h. null_stored (local_of code h)) (range_with_len 0 (length plan.holders)))
    (woven_from free code plan (anchors_of plan code.items) 0 code.items)
    ∙ ap (λ n. n + length (woven_from free code plan (anchors_of plan code.items) 0 code.items))
    (length-null code (range_with_len 0 (length plan.holders)) ∙ ap (λ n. null_stored_items * n) (length-range_with_len 0 (length plan.holders)))

-- ---- anchors

anchor-below : (free : ℕ) (code : Code) (plan : Insertions) (anchors : List ℕ) (n j : ℕ) (items : List Item) (k : ℕ) → k < length items
    → slice_index (anchors_from plan n j items) k < n + length (woven_from free code plan anchors j items)
anchor-below free code plan anchors n j [] k inside = absurd (omega arith)
anchor-below free code plan anchors n j (item ∷ items) zero inside = let all = length-from free code plan anchors j item items in omega (arith, all)
anchor-below free code plan anchors n j (item ∷ items) (suc k) inside =
    let all = length-from free code plan anchors j item items in
    let rest = anchor-below free code plan anchors (n + count_at plan j) (j + 1) items k (omega arith) in
    omega (arith, all, rest)

anchor-most : (free : ℕ) (code : Code) (plan : Insertions) (anchors : List ℕ) (n j : ℕ) (items : List Item) (k : ℕ) → k ≤ length items
    → slice_index (anchors_from plan n j items) k ≤ n + length (woven_from free code plan anchors j items)
anchor-most free code plan anchors n j [] zero inside = omega arith
anchor-most free code plan anchors n j [] (suc k) inside = absurd (omega arith)
anchor-most free code plan anchors n j (item ∷ items) zero inside = omega arith
anchor-most free code plan anchors n j (item ∷ items) (suc k) inside =
    let all = length-from free code plan anchors j item items in
    let rest = anchor-most free code plan anchors (n + count_at plan j) (j + 1) items k (omega arith) in
    omega (arith, all, rest)

pub anchor-first : (plan : Insertions) (n j : ℕ) (items : List Item) → slice_index (anchors_from plan n j items) 0 ≡ n
anchor-first plan n j [] = refl
anchor-first plan n j (item ∷ items) = refl

length-anchors : (plan : Insertions) (n j : ℕ) (items : List Item) → length (anchors_from plan n j items) ≡ length items + 1
length-anchors plan n j [] = refl
length-anchors plan n j (item ∷ items) = let rest = length-anchors plan (n + count_at plan j) (j + 1) items in omega (arith, rest)

anchors-rise : (plan : Insertions) (n j : ℕ) (items : List Item) (k : ℕ) → suc k < length (anchors_from plan n j items)
    → slice_index (anchors_from plan n j items) k < slice_index (anchors_from plan n j items) (suc k)
anchors-rise plan n j [] k inside = absurd (omega arith)
anchors-rise plan n j (item ∷ items) zero inside = let next = anchor-first plan (n + count_at plan j) (j + 1) items in omega (arith, next)
anchors-rise plan n j (item ∷ items) (suc k) inside = anchors-rise plan (n + count_at plan j) (j + 1) items k (omega arith)

pub anchors_are_anchors : AnchorsAreAnchors
unfolding laid_of
anchors_are_anchors free code plan = record {
  count = length-anchors plan (null_stored_items * length plan.holders) 0 code.items;
  rising = λ k inside.
      subst (λ l. slice_index (anchors_of plan code.items) k < slice_index (anchors_of plan code.items) l) (omega arith)
      (anchors-rise plan (null_stored_items * length plan.holders) 0 code.items k (omega arith));
  within = λ k inside.
      let most = anchor-most free code plan (anchors_of plan code.items) (null_stored_items * length plan.holders) 0 code.items k
      (let count = length-anchors plan (null_stored_items * length plan.holders) 0 code.items in omega (arith, count)) in
      let rooms = one_each code.items (woven free code plan) in
      let firsts = length-firsts_from 0 (widened_rooms (rooms_of code.items (woven free code plan))) in
      let all = length-woven free code plan in
      omega (arith, most, rooms, firsts, all);
}

-- ---- each item

all-zero : (f : ℕ → ℕ) (targets : List ℕ) → map (λ (t : ℕ). zero) (map f targets) ≡ map (λ (t : ℕ). zero) targets
all-zero f [] = refl
all-zero f (t ∷ targets) = ap (λ ts. zero ∷ ts) (all-zero f targets)

pub same-but-targets : (f : ℕ → ℕ) (i : Insn) → IsSameButTargets (with_targets f i) i
same-but-targets f (insn.IfInt t n) = refl
same-but-targets f (insn.IfPair t n) = refl
same-but-targets f (insn.IfSame t n) = refl
same-but-targets f (insn.IfNull t n) = refl
same-but-targets f (insn.Goto n) = refl
same-but-targets f (insn.Table low others targets) = ap (λ ts. insn.Table low zero ts) (all-zero f targets)
same-but-targets f (insn.Lookup others keys targets) = ap (λ ts. insn.Lookup zero keys ts) (all-zero f targets)
same-but-targets f i = refl

pub targets-of-with : (f : ℕ → ℕ) (i : Insn) → targets_of (with_targets f i) ≡ map f (targets_of i)
targets-of-with f (insn.IfInt t n) = refl
targets-of-with f (insn.IfPair t n) = refl
targets-of-with f (insn.IfSame t n) = refl
targets-of-with f (insn.IfNull t n) = refl
targets-of-with f (insn.Goto n) = refl
targets-of-with f (insn.Table low others targets) = refl
targets-of-with f (insn.Lookup others keys targets) = refl
targets-of-with f i = refl

pub all-flat : (P : NewItem → Type 0) (f : ℕ → List NewItem) (hs : List ℕ) → ((h : ℕ) → Contains hs h → AllByRecursion P (f h))
    → AllByRecursion P (flat_map f hs)
all-flat P f [] each = tt
all-flat P f (h ∷ hs) each =
    AllByRecursion-append P (f h) (flat_map f hs) (each h (Contains-first h hs h refl))
    (all-flat P f hs (λ k found. each k (Contains-later h hs k found)))

-- what holds of what is inserted for each holder, and of each kept item, holds of all
all-from_items : (P : NewItem → Type 0) (free : ℕ) (code : Code) (plan : Insertions) (anchors : List ℕ) (Q : ℕ → Item → Type 0)
    → ((j h : ℕ) → Contains (before_at plan j) h → AllByRecursion P (freed free (local_of code h)))
    → ((j h : ℕ) → Contains (after_at plan j) h → AllByRecursion P (top_stored (local_of code h)))
    → ((j : ℕ) (item : Item) → Q j item → P (kept anchors j item.insn))
    → (j : ℕ) (items : List Item) → ((k : ℕ) (item : Item) → slice_get items k ≡ Some item → Q (j + k) item)
    → AllByRecursion P (woven_from free code plan anchors j items)
all-from_items P free code plan anchors Q before after keeps j [] there = tt
all-from_items P free code plan anchors Q before after keeps j (item ∷ items) there =
    AllByRecursion-append P (woven_item free code plan anchors j item.insn) (woven_from free code plan anchors (j + 1) items)
    (AllByRecursion-append P (flat_map (λ h. freed free (local_of code h)) (before_at plan j))
    (kept anchors j item.insn ∷ flat_map (λ h. top_stored (local_of code h)) (after_at plan j))
    (all-flat P (λ h. freed free (local_of code h)) (before_at plan j) (before j)) (
      keeps j item (subst (λ n. Q n item) (omega arith) (there 0 item refl)),
      all-flat P (λ h. top_stored (local_of code h)) (after_at plan j) (after j),
    ))
    (all-from_items P free code plan anchors Q before after keeps (j + 1) items
    (λ k other is. subst (λ n. Q n other) (omega arith) (there (suc k) other is)))

-- ---- order

none-kept : (f : ℕ → List NewItem) (hs : List ℕ) → ((h : ℕ) → filter_map (λ (new : NewItem). new.kept) (f h) ≡ [])
    → filter_map (λ (new : NewItem). new.kept) (flat_map f hs) ≡ []
none-kept f [] none = refl
none-kept f (h ∷ hs) none =
    filter_map-append (λ (new : NewItem). new.kept) (f h) (flat_map f hs)
    ∙ ap (λ xs. xs ++ filter_map (λ (new : NewItem). new.kept) (flat_map f hs)) (none h) ∙ none-kept f hs none

item-order : (free : ℕ) (code : Code) (plan : Insertions) (anchors : List ℕ) (j : ℕ) (i : Insn)
    → filter_map (λ (new : NewItem). new.kept) (woven_item free code plan anchors j i) ≡ j ∷ []
item-order free code plan anchors j i =
    filter_map-append (λ (new : NewItem). new.kept) (flat_map (λ h. freed free (local_of code h)) (before_at plan j))
    (kept anchors j i ∷ flat_map (λ h. top_stored (local_of code h)) (after_at plan j))
    ∙ ap (λ xs. xs ++ j ∷ filter_map (λ (new : NewItem). new.kept) (flat_map (λ h. top_stored (local_of code h)) (after_at plan j)))
    (none-kept (λ h. freed free (local_of code h)) (before_at plan j) (λ h. refl))
    ∙ ap (λ xs. j ∷ xs) (none-kept (λ h. top_stored (local_of code h)) (after_at plan j) (λ h. refl))

items-order : (free : ℕ) (code : Code) (plan : Insertions) (anchors : List ℕ) (j : ℕ) (items : List Item)
    → filter_map (λ (new : NewItem). new.kept) (woven_from free code plan anchors j items) ≡ range_with_len j (length items)
items-order free code plan anchors j [] = refl
items-order free code plan anchors j (item ∷ items) =
    filter_map-append (λ (new : NewItem). new.kept) (woven_item free code plan anchors j item.insn) (woven_from free code plan anchors (j + 1) items)
    ∙ ap (λ xs. xs ++ filter_map (λ (new : NewItem). new.kept) (woven_from free code plan anchors (j + 1) items))
    (item-order free code plan anchors j item.insn) ∙ ap (λ xs. j ∷ xs) (items-order free code plan anchors (j + 1) items)

-- ---- together

local-fits : (code : Code) (plan : Insertions) (h : ℕ) → code.max_locals + length plan.holders ≤ MAX_LOCAL_WORDS → h < length plan.holders
    → FitsTwo (local_of code h)
local-fits code plan h room inside = omega (arith, room, inside)

pub after-inside : (plan : Insertions) (j h : ℕ) → Contains (after_at plan j) h → h < length plan.holders
after-inside plan j h found =
    let was = numbers-found (λ (holder : Holder). nat_eq holder.site j) 0 plan.holders h found in
    let inside = slice_get_within plan.holders was.place was.holder was.there in
    omega (arith, inside, was.number)

pub all-map : (P Q : ℕ → Type 0) (f : ℕ → ℕ) (xs : List ℕ) → ((x : ℕ) → Q x → P (f x)) → AllByRecursion Q xs → AllByRecursion P (map f xs)
all-map P Q f [] each all = tt
all-map P Q f (x ∷ xs) each (first, rest) = (each x first, all-map P Q f xs each rest)

pub woven_is_laid_out : WovenIsLaidOut
woven_is_laid_out free code plan old suits few = record {
  each =
      AllByRecursion-append (HasOrigin code.items) (flat_map (λ h. null_stored (local_of code h)) (range_with_len 0 (length plan.holders)))
      (woven_from free code plan anchors 0 code.items)
      (all-flat (HasOrigin code.items) (λ h. null_stored (local_of code h)) (range_with_len 0 (length plan.holders))
      (λ h found. (tt, (fits h (started h found), tt))))
      (all-from_items (HasOrigin code.items) free code plan anchors (λ j item. slice_get code.items j ≡ Some item)
      (λ j h found. (fits h (suits.before j h found), (suits.entry, (tt, (fits h (suits.before j h found), tt)))))
      (λ j h found. (tt, (fits h (after-inside plan j h found), tt)))
      keeps 0 code.items (λ k item is. subst (λ n. slice_get code.items n ≡ Some item) (omega arith) is));
  targets =
      AllByRecursion-append Named (flat_map (λ h. null_stored (local_of code h)) (range_with_len 0 (length plan.holders)))
      (woven_from free code plan anchors 0 code.items)
      (all-flat Named (λ h. null_stored (local_of code h)) (range_with_len 0 (length plan.holders)) (λ h found. (tt, (tt, tt))))
      (all-from_items Named free code plan anchors (λ j item. ItemIsSpelled code.items item)
      (λ j h found. (tt, (tt, (tt, (tt, tt)))))
      (λ j h found. (tt, (tt, tt)))
      named 0 code.items (λ k item is. AllByRecursion-at (ItemIsSpelled code.items) code.items k item old.spelled.spelled is));
  in_order =
      filter_map-append (λ (new : NewItem). new.kept) (flat_map (λ h. null_stored (local_of code h)) (range_with_len 0 (length plan.holders)))
      (woven_from free code plan anchors 0 code.items)
      ∙ ap (λ xs. xs ++ filter_map (λ (new : NewItem). new.kept) (woven_from free code plan anchors 0 code.items))
      (none-kept (λ h. null_stored (local_of code h)) (range_with_len 0 (length plan.holders)) (λ h. refl))
      ∙ items-order free code plan anchors 0 code.items;
  few = few;
} where
  anchors : List ℕ
  anchors = anchors_of plan code.items

  Named : NewItem → Type 0
  Named new = AllByRecursion (λ target. target < length (woven free code plan)) (targets_of new.insn)

  fits : (h : ℕ) → h < length plan.holders → FitsTwo (local_of code h)
  fits h inside = local-fits code plan h suits.room inside

  started : (h : ℕ) → Contains (range_with_len 0 (length plan.holders)) h → h < length plan.holders
  started h found = let inside = (Contains-from_range 0 (length plan.holders) h found).1 in omega (arith, inside)

  keeps : (j : ℕ) (item : Item) → slice_get code.items j ≡ Some item → HasOrigin code.items (kept anchors j item.insn)
  keeps j item is =
      subst (λ o. IsSomeAnd o (λ (old : Item). IsSameButTargets (with_targets (slice_index anchors) item.insn) old.insn)) (sym is)
      (same-but-targets (slice_index anchors) item.insn)

  reaches : (t : ℕ) → t < length code.items → slice_index anchors t < length (woven free code plan)
  reaches t inside =
      let below = anchor-below free code plan anchors (null_stored_items * length plan.holders) 0 code.items t inside in
      let all = length-woven free code plan in
      omega (arith, below, all)

  named : (j : ℕ) (item : Item) → ItemIsSpelled code.items item → Named (kept anchors j item.insn)
  named j item spelled =
      subst (AllByRecursion (λ target. target < length (woven free code plan))) (sym (targets-of-with (slice_index anchors) item.insn))
      (all-map (λ t. t < length (woven free code plan)) (λ t. t < length code.items) (slice_index anchors) (targets_of item.insn) reaches spelled.targets)
