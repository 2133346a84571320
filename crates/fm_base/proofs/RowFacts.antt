-- Rows of bits: what a set bit means.
use Rattle.std.proofs.Common.{◌≡◌, ◌≢◌, ℕ, ◌<◌, ◌≤◌, ◌⊎◌, replicate, Bool, true, false, List, length, get_or, set, inl, inr, ⊎_elim, ap, sym, ◌∙◌, arith}
use Rattle.std.proofs.lemmas.Bool.{cases_eq, cases_lt, false≢true}
use Rattle.std.proofs.lemmas.List.{get_or-set_same, get_or-set_other, get_or_past, get_or-replicate, length-replicate}
use Rattle.fm_base.specs.Rows.{has}

-- a bit that is set lies in the row
pub has_inside : (row : List Bool) (k : ℕ) → has row k ≡ true → k < length row
has_inside row k is =
    ⊎_elim (λ (inside : k < length row). inside)
    (λ (past : length row ≤ k). absurd (false≢true (sym (get_or_past row k false past) ∙ is)))
    (cases_lt k (length row))

-- the bit that is set
pub has-set_same : (row : List Bool) (i : ℕ) → i < length row → has (set row i true) i ≡ true
has-set_same row i inside = get_or-set_same row i true false inside

-- a bit that was set stays so
pub has-set_kept : (row : List Bool) (i k : ℕ) → has row k ≡ true → has (set row i true) k ≡ true
has-set_kept row i k is =
    ⊎_elim
    (λ (same : k ≡ i).
    let inside = has_inside row k is in
    ap (λ n. get_or (set row i true) n false) same ∙ has-set_same row i (omega arith))
    (λ apart. get_or-set_other row i k true false apart ∙ is)
    (cases_eq k i)

-- no other bit is set
pub has-set_only : (row : List Bool) (i k : ℕ) → has (set row i true) k ≡ true → (k ≡ i) ⊎ (has row k ≡ true)
has-set_only row i k is =
    ⊎_elim (λ same. inl same) (λ (apart : k ≢ i). inr (sym (get_or-set_other row i k true false apart) ∙ is)) (cases_eq k i)

-- no bit is set in a row that is made so
pub has-replicate : (n i : ℕ) → has (replicate n false) i ≡ false
has-replicate n i =
    ⊎_elim (λ below. get_or-replicate n i false false below)
    (λ past. get_or_past (replicate n false) i false (let e = length-replicate n false in omega arith))
    (cases_lt i n)
