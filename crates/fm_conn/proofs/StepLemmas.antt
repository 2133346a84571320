-- What loops over words and items have listed after one more.
use Rattle.std.proofs.Common.{◌≡◌, ℕ, suc, ◌+◌, ◌-◌, ◌<◌, ◌||◌, Bool, false, List, ◌++◌, length, drop, get_or, ap, sym, ◌∙◌, append_assoc, arith, length-drop}
use Rattle.std.proofs.Math.Seq.{drop-cons}
use Rattle.std.specs.List.{list_any, range_with_len}
use Rattle.fm_conn.specs.Rows.{moved_words, Given, Taken}
use Rattle.fm_conn.specs.inner.NodeTables.{NodeTable}
use Rattle.fm_conn.specs.inner.PairLists.{joined_pairs, number_pair, place_number, ItemPlace}

-- a place more of the words that are moved
pub moved_step : (t : NodeTable) (x : ItemPlace) (places : List ℕ) (i above : ℕ) (before after all : List (ℕ × ℕ)) → above + i ≡ length places →
    i < length places → before ++ joined_pairs t x (moved_words (drop i places)) ≡ all →
    after ≡ before ++ number_pair (place_number t x (Taken (get_or places i 0))) (place_number t x (Given (above - 1))) →
    after ++ joined_pairs t x (moved_words (drop (i + 1) places)) ≡ all
moved_step t x places i above before after all left inside so_far more =
    let place = get_or places i 0 in
    let next : i + 1 ≡ suc i = omega arith in
    let rest = joined_pairs t x (moved_words (drop (suc i) places)) in
    let size : above - 1 ≡ length (drop (suc i) places) = omega (arith, length-drop (suc i) places) in
    let pair : ℕ → List (ℕ × ℕ) = λ k. number_pair (place_number t x (Taken place)) (place_number t x (Given k)) in
    ap (λ k. after ++ joined_pairs t x (moved_words (drop k places))) next
    ∙ ap (λ list. list ++ rest) more
    ∙ append_assoc before (pair (above - 1)) rest
    ∙ ap (λ k. before ++ (pair k ++ rest)) size
    ∙ ap (λ list. before ++ joined_pairs t x (moved_words list)) (sym (drop-cons places i 0 inside))
    ∙ so_far

-- a number more of a range at which the test fails
pub any_step : (test : ℕ → Bool) (item end : ℕ) → item < end → test item ≡ false →
    list_any test (range_with_len (item + 1) (end - (item + 1))) ≡ list_any test (range_with_len item (end - item))
any_step test item end below fails =
    let size : end - item ≡ suc (end - (item + 1)) = omega arith in
    let rest = list_any test (range_with_len (item + 1) (end - (item + 1))) in
    sym (ap (λ n. list_any test (range_with_len item n)) size ∙ ap (λ b. b || rest) fails)
