-- The items by which holders are made null, freed, or take an object.
use Rattle.std.proofs.Common.{◌≡◌, ℕ, zero, suc, ◌+◌, ◌<◌, ◌≤◌, ◌++◌, Bool, true, false, cond, List, [], ◌∷◌, length, drop, Option, Some, None, refl, sym, ap, ◌∙◌, ◌==◌, append_assoc, arith, get_or, add-one, drop-cons}
use Rattle.std.specs.Option.{option_map}
use Rattle.fm_code.specs.declared.code_array.Item.{Item}
use Rattle.fm_audit.specs.Reading.{after_frees, after_nulls, after_taken, and_after, and_more, calls, found_twice, freed, frees, kept_count, loaded, nulled, nulls, pair_if, pairs_of, Pairs, read_from, taken, with_pairs}

-- ---- none and one

pub none_twice : (h : Option ℕ) → found_twice h None ≡ None
none_twice None = refl
none_twice (Some h) = refl

none_either : (b : Bool) (h : Option ℕ) → cond b (found_twice h None) None ≡ None
none_either true h = none_twice h
none_either false h = refl

-- ---- null

pub record Nulled (first : ℕ) (items : List Item) (h : ℕ) : Type 0 where
  pub two : 2 ≤ length items
  pub holders : nulls first items ≡ h ∷ nulls first (drop 2 items)
  pub rest : after_nulls first items ≡ after_nulls first (drop 2 items)

pub nulls_some : (first : ℕ) (items : List Item) (h : ℕ) → nulled first items ≡ Some h → Nulled first items h
nulls_some first [] h is = cc
nulls_some first (a ∷ []) h is = cc
nulls_some first (a ∷ b ∷ items) h is = record {
  two = omega arith;
  holders = ap (λ o. and_more o (nulls first items)) is;
  rest = ap (λ o. and_after o (after_nulls first items) (a ∷ b ∷ items)) is;
}

pub nulls_none : (first : ℕ) (items : List Item) → nulled first items ≡ None → (nulls first items ≡ []) × (after_nulls first items ≡ items)
nulls_none first [] is = (refl, refl)
nulls_none first (a ∷ []) is = (refl, refl)
nulls_none first (a ∷ b ∷ items) is = (ap (λ o. and_more o (nulls first items)) is, ap (λ o. and_after o (after_nulls first items) (a ∷ b ∷ items)) is)

-- ---- frees

pub record Freed (free first : ℕ) (items : List Item) (h : ℕ) : Type 0 where
  pub four : 4 ≤ length items
  pub holders : frees free first items ≡ h ∷ frees free first (drop 4 items)
  pub rest : after_frees free first items ≡ after_frees free first (drop 4 items)

pub frees_some : (free first : ℕ) (items : List Item) (h : ℕ) → freed free first items ≡ Some h → Freed free first items h
frees_some free first [] h is = cc
frees_some free first (a ∷ []) h is = cc
frees_some free first (a ∷ b ∷ []) h is = let e = sym (none_either (calls free b.insn) (loaded first a.insn)) ∙ is in cc
frees_some free first (a ∷ b ∷ c ∷ []) h is = let e = sym (none_either (calls free b.insn) (loaded first a.insn)) ∙ is in cc
frees_some free first (a ∷ b ∷ c ∷ d ∷ items) h is = record {
  four = omega arith;
  holders = ap (λ o. and_more o (frees free first items)) is;
  rest = ap (λ o. and_after o (after_frees free first items) (a ∷ b ∷ c ∷ d ∷ items)) is;
}

pub frees_none : (free first : ℕ) (items : List Item) → freed free first items ≡ None
    → (frees free first items ≡ []) × (after_frees free first items ≡ items)
frees_none free first [] is = (refl, refl)
frees_none free first (a ∷ []) is = (refl, refl)
frees_none free first (a ∷ b ∷ []) is = (refl, refl)
frees_none free first (a ∷ b ∷ c ∷ []) is = (refl, refl)
frees_none free first (a ∷ b ∷ c ∷ d ∷ items) is =
    (ap (λ o. and_more o (frees free first items)) is, ap (λ o. and_after o (after_frees free first items) (a ∷ b ∷ c ∷ d ∷ items)) is)

-- ---- a holder that takes

pub taken_two : (first : ℕ) (items : List Item) (h : ℕ) → taken first items ≡ Some h → 2 ≤ length items
taken_two first [] h is = cc
taken_two first (a ∷ []) h is = cc
taken_two first (a ∷ b ∷ items) h is = omega arith

-- ---- all items

-- the items after those that keep an old one
abbrev pub next_of : Item → List Item → List Item
next_of item here = drop (kept_count item here) here

-- and after those by which a holder takes its object
abbrev pub rest_of : (first : ℕ) → Item → List Item → List Item
rest_of first item here = after_taken (taken first (next_of item here)) (next_of item here)

pairs-joined : (before after more_before more_after : List (ℕ × ℕ)) (found : Option Pairs)
    → option_map (with_pairs (before ++ more_before) (after ++ more_after)) found
    ≡ option_map (with_pairs before after) (option_map (with_pairs more_before more_after) found)
pairs-joined before after more_before more_after None = refl
pairs-joined before after more_before more_after (Some p) =
    λ k. Some (record { before = append_assoc before more_before p.before k; after = append_assoc after more_after p.after k })

not-empty : (b : Bool) (found : Option Pairs) → b ≡ false → cond b None found ≡ found
not-empty true found is = cc
not-empty false found is = refl

step : (free first j : ℕ) (item : Item) (old new : List Item) (before after : List (ℕ × ℕ)) → (length (after_frees free first new) == 0) ≡ false
    → option_map (with_pairs (before ++ pairs_of j (frees free first new)) (after ++ pair_if j (taken first (next_of item (after_frees free first new)))))
    (read_from free first (j + 1) old (rest_of first item (after_frees free first new)))
    ≡ option_map (with_pairs before after) (read_from free first j (item ∷ old) new)
step free first j item old new before after some =
    pairs-joined before after (pairs_of j (frees free first new)) (pair_if j (taken first (next_of item (after_frees free first new))))
    (read_from free first (j + 1) old (rest_of first item (after_frees free first new)))
    ∙ ap (option_map (with_pairs before after)) (sym (not-empty (length (after_frees free first new) == 0)
    (option_map (with_pairs (pairs_of j (frees free first new)) (pair_if j (taken first (next_of item (after_frees free first new)))))
    (read_from free first (j + 1) old (rest_of first item (after_frees free first new)))) some))

-- an old item is read, and what is found after it follows
pub read_more : (free first j : ℕ) (item : Item) (old new here next rest : List Item) (before after more_before more_after : List (ℕ × ℕ)) (whole : Option Pairs)
    → here ≡ after_frees free first new → (length here == 0) ≡ false → next ≡ drop (kept_count item here) here
    → rest ≡ after_taken (taken first next) next
    → more_before ≡ before ++ pairs_of j (frees free first new) → more_after ≡ after ++ pair_if j (taken first next)
    → option_map (with_pairs before after) (read_from free first j (item ∷ old) new) ≡ whole
    → option_map (with_pairs more_before more_after) (read_from free first (j + 1) old rest) ≡ whole
read_more free first j item old new here next rest before after more_before more_after whole here_is some next_is rest_is before_is after_is is =
    let here_next : next ≡ next_of item (after_frees free first new) = next_is ∙ ap (next_of item) here_is in
    let pairs_are : more_after ≡ after ++ pair_if j (taken first (next_of item (after_frees free first new))) =
    after_is ∙ ap (λ items. after ++ pair_if j (taken first items)) here_next in
    let items_are : rest ≡ rest_of first item (after_frees free first new) = rest_is ∙ ap (λ items. after_taken (taken first items) items) here_next in
    (λ k. option_map (with_pairs (before_is k) (pairs_are k)) (read_from free first (j + 1) old (items_are k)))
    ∙ step free first j item old new before after (sym (ap (λ items. length items == 0) here_is) ∙ some) ∙ is

stop : (b : Bool) (found : Option Pairs) → b ≡ true → cond b None found ≡ None
stop true found is = refl
stop false found is = cc

-- where nothing is left for an old item, nothing is read
pub read_stops : (free first j i : ℕ) (old new here : List Item) (before after : List (ℕ × ℕ)) (whole : Option Pairs) → i < length old
    → here ≡ after_frees free first new → (length here == 0) ≡ true
    → option_map (with_pairs before after) (read_from free first j (drop i old) new) ≡ whole → whole ≡ None
read_stops free first j i [] new here before after whole within here_is none is = absurd (omega arith)
read_stops free first j zero (item ∷ old) new here before after whole within here_is none is =
    sym is ∙ ap (option_map (with_pairs before after)) (stop (length (after_frees free first new) == 0)
    (option_map (with_pairs (pairs_of j (frees free first new)) (pair_if j (taken first (next_of item (after_frees free first new)))))
    (read_from free first (j + 1) old (rest_of first item (after_frees free first new)))) (sym (ap (λ items. length items == 0) here_is) ∙ none))
read_stops free first j (suc i) (item ∷ old) new here before after whole within here_is none is =
    read_stops free first j i old new here before after whole (omega arith) here_is none is

-- the items from one on are this one and those after it
pub cut_at : (items : List Item) (i : ℕ) (item : Item) → i < length items → item ≡ get_or items i item → drop i items ≡ item ∷ drop (i + 1) items
cut_at items i item within is =
    drop-cons items i item within ∙ ap (λ n. get_or items i item ∷ drop n items) (sym (add-one i)) ∙ ap (λ x. x ∷ drop (i + 1) items) (sym is)
