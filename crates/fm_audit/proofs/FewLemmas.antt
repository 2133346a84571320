-- What is read of new items names no more pairs than there are items.
use Rattle.std.proofs.Common.{◌≡◌, ℕ, ◌+◌, ◌≤◌, ◌==◌, Bool, cond, true, false, List, [], ◌∷◌, length, drop, Option, Some, None, refl, sym, subst, ◌∙◌, length-append, arith}
use Rattle.std.specs.Option.{option_map}
use Rattle.std.proofs.lemmas.Bool.{eq-eqb, false≢true}
use Rattle.std.proofs.lemmas.List.{length-drop, length-map}
use Rattle.std.proofs.lemmas.Option.{none-some, same_Some}
use Rattle.fm_base.proofs.OptionFacts.{cond-some_else, option_map-some}
use Rattle.fm_code.specs.declared.code_array.Item.{Item}
use Rattle.fm_audit.proofs.ReadingLemmas.{next_of}
use Rattle.fm_audit.specs.Reading.{after_frees, after_nulls, after_taken, and_after, and_more, freed, frees, is_widened, nulled, pair_if, pairs_of, Pairs, Read, read, read_from, taken, with_pairs}

frees_few : (free first : ℕ) (items : List Item) → length (frees free first items) + length (after_frees free first items) ≤ length items
frees_few free first [] = omega arith
frees_few free first (a ∷ []) = omega arith
frees_few free first (a ∷ b ∷ []) = omega arith
frees_few free first (a ∷ b ∷ c ∷ []) = omega arith
frees_few free first (a ∷ b ∷ c ∷ d ∷ items) = by_first (freed free first (a ∷ b ∷ c ∷ d ∷ items)) (frees_few free first items) where
  by_first : (o : Option ℕ) → length (frees free first items) + length (after_frees free first items) ≤ length items
      → length (and_more o (frees free first items)) + length (and_after o (after_frees free first items) (a ∷ b ∷ c ∷ d ∷ items)) ≤ length (a ∷ b ∷ c ∷ d ∷ items)
  by_first None few = omega arith
  by_first (Some h) few = omega (arith, few)

nulls_few : (first : ℕ) (items : List Item) → length (after_nulls first items) ≤ length items
nulls_few first [] = omega arith
nulls_few first (a ∷ []) = omega arith
nulls_few first (a ∷ b ∷ items) = by_first (nulled first (a ∷ b ∷ items)) (nulls_few first items) where
  by_first : (o : Option ℕ) → length (after_nulls first items) ≤ length items
      → length (and_after o (after_nulls first items) (a ∷ b ∷ items)) ≤ length (a ∷ b ∷ items)
  by_first None few = omega arith
  by_first (Some h) few = omega (arith, few)

taken_few : (j : ℕ) (o : Option ℕ) (items : List Item) → length (pair_if j o) + length (after_taken o items) ≤ length items + 1
taken_few j None items = omega arith
taken_few j (Some h) items = let left = length-drop 2 items in omega (arith, left)

kept_some : (b : Bool) (items : List Item) → (length items == 0) ≡ false → length (drop (cond b 2 1) items) + 1 ≤ length items
kept_some b [] some = absurd (false≢true (sym some ∙ eq-eqb 0 0 refl))
kept_some true (a ∷ items) some = let left = length-drop 2 (a ∷ items) in omega (arith, left)
kept_some false (a ∷ items) some = omega arith

read_few : (free first j : ℕ) (old new : List Item) (p : Pairs) → read_from free first j old new ≡ Some p → length p.before + length p.after ≤ length new
read_few free first j [] [] p is = let same = same_Some _ p is in subst (λ (q : Pairs). length q.before + length q.after ≤ 0) same (omega arith)
read_few free first j [] (a ∷ new) p is = absurd (none-some p is)
read_few free first j (item ∷ old) new p is =
    let here = after_frees free first new in
    let next = next_of item here in
    let own = frees free first new in
    let more = with_pairs (pairs_of j own) (pair_if j (taken first next)) in
    let found = read_from free first (j + 1) old (after_taken (taken first next) next) in
    let both = cond-some_else (length here == 0) (option_map more found) p is in
    let some = option_map-some more found p both.1 in
    let rest = read_few free first (j + 1) old (after_taken (taken first next) next) some.0 some.1 in
    let before = length-append (pairs_of j own) some.0.before in
    let after = length-append (pair_if j (taken first next)) some.0.after in
    let freed_count = length-map {B = ℕ × ℕ} own (λ h. (j, h)) in
    let freed_few = frees_few free first new in
    let kept_few = kept_some (is_widened item here) here both.0 in
    let after_few = taken_few j (taken first next) next in
    subst (λ (q : Pairs). length q.before + length q.after ≤ length new) some.2
    (omega (arith, rest, before, after, freed_count, freed_few, kept_few, after_few))

-- the pairs of new items
pub pairs_few : (free first : ℕ) (old new : List Item) (found : Read) → read free first old new ≡ Some found
    → length found.pairs.before + length found.pairs.after ≤ length new
pairs_few free first old new found is =
    let some = option_map-some _ (read_from free first 0 old (after_nulls first new)) found is in
    let few = read_few free first 0 old (after_nulls first new) some.0 some.1 in
    let left = nulls_few first new in
    let all : length some.0.before + length some.0.after ≤ length new = omega (arith, few, left) in
    subst (λ (r : Read). length r.pairs.before + length r.pairs.after ≤ length new) some.2 all
