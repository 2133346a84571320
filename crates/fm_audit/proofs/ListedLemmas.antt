-- What is read of new items is listed item by item.
use Rattle.std.proofs.Common.{◌≡◌, ℕ, suc, ◌+◌, ◌≤◌, ◌++◌, ◌==◌, cond, true, false, List, [], ◌∷◌, length, map, Option, Some, None, refl, sym, ap, subst, ◌∙◌, arith}
use Rattle.std.specs.Prelude.{nat_eq}
use Rattle.std.specs.List.{flat_map, range_with_len}
use Rattle.std.specs.Option.{option_map}
use Rattle.std.proofs.lemmas.Bool.{false≢true}
use Rattle.std.proofs.lemmas.Option.{none-some, same_Some}
use Rattle.fm_base.proofs.OptionFacts.{cond-some_else, option_map-some}
use Rattle.fm_base.proofs.TestFacts.{apart-nat_eq, same-nat_eq}
use Rattle.fm_code.specs.declared.code_array.Item.{Item}
use Rattle.fm_place.proofs.HolderLemmas.{flat_range_same}
use Rattle.fm_place.specs.PlansBy.{paired}
use Rattle.fm_place.specs.inner.PlanRows.{listed as one_or_none}
use Rattle.fm_audit.proofs.ReadingLemmas.{next_of}
use Rattle.fm_audit.specs.ReadBy.{pairs_in, read_in}
use Rattle.fm_audit.specs.Reading.{after_frees, after_nulls, after_taken, frees, nulls, pair_if, Pairs, pairs_of, Read, read, read_from, taken, with_pairs}
use Rattle.fm_audit.specs.inner.Listed.{AreListed}
use Rattle.fm_audit.specs.declared.reading.Found.{Found}

-- ---- one item more

-- numbers for one item, and others for the later ones
abbrev first_then : (j : ℕ) → List ℕ → (ℕ → List ℕ) → ℕ → List ℕ
first_then j own later i = cond (nat_eq i j) own (later i)

listed_first : (j n : ℕ) (own : List ℕ) (later : ℕ → List ℕ)
    → flat_map (paired (first_then j own later)) (range_with_len j (suc n)) ≡ map (λ h. (j, h)) own ++ flat_map (paired later) (range_with_len (j + 1) n)
listed_first j n own later =
    (λ k. map (λ h. (j, h)) (cond (same-nat_eq j k) own (later j)) ++ flat_map (paired (first_then j own later)) (range_with_len (j + 1) n))
    ∙ ap (λ ps. map (λ h. (j, h)) own ++ ps)
    (flat_range_same (paired (first_then j own later)) (paired later) (j + 1) n
    (λ i low high. λ k. map (λ h. (i, h)) (cond (apart-nat_eq i j (λ same. absurd (omega (arith, same, low))) k) own (later i))))

pair_if-is : (j : ℕ) (o : Option ℕ) → pair_if j o ≡ map (λ h. (j, h)) (one_or_none o)
pair_if-is j None = refl
pair_if-is j (Some h) = refl

one_at_most : (o : Option ℕ) → length (one_or_none o) ≤ 1
one_at_most None = omega arith
one_at_most (Some h) = omega arith

more_listed : (j n : ℕ) (freed : List ℕ) (o : Option ℕ) (p : Pairs) → AreListed (j + 1) n p
    → AreListed j (suc n) (with_pairs (pairs_of j freed) (pair_if j o) p)
more_listed j n freed o p rest = record {
  before = first_then j freed rest.before;
  after = first_then j (one_or_none o) rest.after;
  before_is = ap (λ ps. pairs_of j freed ++ ps) rest.before_is ∙ sym (listed_first j n freed rest.before);
  after_is = (λ k. pair_if-is j o k ++ rest.after_is k) ∙ sym (listed_first j n (one_or_none o) rest.after);
  single = λ i. elim (nat_eq i j) as (λ b. length (cond b (one_or_none o) (rest.after i)) ≤ 1) [ true ↦ one_at_most o | false ↦ rest.single i ];
}

-- ---- all items

pub read_listed : (free first j : ℕ) (old new : List Item) (p : Pairs) → read_from free first j old new ≡ Some p → AreListed j (length old) p
read_listed free first j [] [] p is =
    subst (AreListed j 0) (same_Some _ _ is)
    (record { before = λ i. []; after = λ i. []; before_is = refl; after_is = refl; single = λ i. omega arith })
read_listed free first j [] (a ∷ new) p is = absurd (none-some p is)
read_listed free first j (item ∷ old) new p is =
    let here = after_frees free first new in
    let next = next_of item here in
    let freed = frees free first new in
    let found = read_from free first (j + 1) old (after_taken (taken first next) next) in
    let more = with_pairs (pairs_of j freed) (pair_if j (taken first next)) in
    let some = option_map-some more found p (cond-some_else (length here == 0) (option_map more found) p is).1 in
    subst (AreListed j (suc (length old))) some.2
    (more_listed j (length old) freed (taken first next) some.0
    (read_listed free first (j + 1) old (after_taken (taken first next) next) some.0 some.1))

-- what is read of a method's new items
abbrev pub with_starts : List ℕ → Pairs → Read
with_starts starts pairs = record { starts = starts; pairs = pairs }

pub found_listed : (free first : ℕ) (old new : List Item) (f : Found) → read free first old new ≡ Some (read_in f)
    → AreListed 0 (length old) (pairs_in f.inserted)
found_listed free first old new f is =
    let found = read_from free first 0 old (after_nulls first new) in
    let some = option_map-some (with_starts (nulls first new)) found (read_in f) is in
    subst (AreListed 0 (length old)) (ap (λ (r : Read). r.pairs) some.2) (read_listed free first 0 old (after_nulls first new) some.0 some.1)

-- what was read, by what the code returns
pub read_is : (free first : ℕ) (old items new : List Item) (o : Option Found) (f : Found) → option_map read_in o ≡ read free first old new → o ≡ Some f
    → old ≡ items → read free first items new ≡ Some (read_in f)
read_is free first old items new o f returned found same =
    sym (ap (λ (l : List Item). read free first l new) same) ∙ sym returned ∙ ap (option_map read_in) found

-- those of the start are the ones that are null there
starts_null : (free first : ℕ) (items new : List Item) (f : Found) → read free first items new ≡ Some (read_in f) → f.starts.items ≡ nulls first new
starts_null free first items new f is =
    let some = option_map-some (with_starts (nulls first new)) (read_from free first 0 items (after_nulls first new)) (read_in f) is in
    sym (ap (λ (r : Read). r.starts) some.2)

-- where some are, one is
pub some_null : (free first : ℕ) (items new : List Item) (f : Found) → read free first items new ≡ Some (read_in f) → (length f.starts.items == 0) ≡ false
    → nulls first new ≡ [] → ⊥
some_null free first items new f is some none =
    false≢true (sym some ∙ ap (λ (l : List ℕ). length l == 0) (starts_null free first items new f is ∙ none))

-- ---- what the code returns

-- it was the only thing that can be read
pub same_read : (free first : ℕ) (items new : List Item) (f : Found) (found : Read) → read free first items new ≡ Some (read_in f)
    → read free first items new ≡ Some found → found ≡ read_in f
same_read free first items new f found own other = same_Some found (read_in f) (sym other ∙ own)
