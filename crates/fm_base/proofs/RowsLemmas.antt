-- How the bits of a row follow its words.
use Rattle.std.proofs.Common.{◌≡◌, ◌≢◌, ℕ, zero, suc, ◌+◌, ◌*◌, ◌<◌, ◌≤◌, ◌/◌, ◌%◌, ◌^◌, ◌⊎◌, Bool, true, false, List, length, get_or, set, replicate, bit_or, eqb, take, drop, ◌++◌, refl, ap, sym, ◌∙◌, inl, inr, arith, max, not, ◌||◌, ◌&&◌, ⊎_elim}
use Rattle.std.specs.Int.{bit_at, w64, div_ceil}
use Rattle.std.proofs.lemmas.List.{take-append-le, take_all, ext_get_or, get_or_past, length-replicate, get_or-replicate, get_or-set_same, get_or-set_other}
use Rattle.std.proofs.lemmas.List.FromFn.{length-map-range_with_len, get_or-map-range_with_len}
use Rattle.std.proofs.lemmas.Nat.Bits.{bit_at_set_same, bit_at_set_other, bit_at_or, bit_at-zero, bit_at-lt, same_from_bits_below}
use Rattle.std.proofs.lemmas.Grind.{div_ceil_times}
use Rattle.std.proofs.lemmas.Bool.{cases_lt, cases_eq, false≢true}
use Rattle.std.proofs.lemmas.Nat.{or_lt}
use Rattle.std.proofs.Math.ListN.{length-set}
use Rattle.fm_base.specs.Rows.{has, IsUnion, AddsBit}
use Rattle.fm_base.specs.inner.Rows.{bit_of, bits_of, IsRow, GainsBit}

pub length-bits_of : (words : List ℕ) (bits : ℕ) → length (bits_of words bits) ≡ bits
unfolding bits_of
length-bits_of words bits = length-map-range_with_len (bit_of words) 0 bits

pub has-bits_of : (words : List ℕ) (bits i : ℕ) → i < bits → has (bits_of words bits) i ≡ bit_of words i
unfolding bits_of
has-bits_of words bits i below = get_or-map-range_with_len (bit_of words) 0 bits i i false below (omega arith)

-- past the row's end neither the row nor its words have a bit
pub has-row : (words : List ℕ) (bits i : ℕ) → IsRow words bits → has (bits_of words bits) i ≡ bit_of words i
has-row words bits i row =
    ⊎_elim (λ below. has-bits_of words bits i below)
    (λ past. get_or_past (bits_of words bits) i false (let e = length-bits_of words bits in omega arith) ∙ sym (row.rest_unset i past))
    (cases_lt i bits)

-- the word of a bit of the row is there
pub word_within : (words : List ℕ) (bits i : ℕ) → IsRow words bits → i < bits → i / 64 < length words
word_within words bits i row below = let enough = (div_ceil_times bits 64 (omega arith)).0 in let needed = row.words_needed in omega arith

pub bit_of-word : (words : List ℕ) (i : ℕ) → bit_of words i ≡ eqb (bit_at (get_or words (i / 64) 0) (i % 64)) 1
unfolding bit_of
bit_of-word words i = refl

pub bit_of-set_same : (words : List ℕ) (i : ℕ) → i / 64 < length words →
    bit_of (set words (i / 64) (bit_or (get_or words (i / 64) 0) (1 * 2 ^ (i % 64) % 2 ^ 64))) i ≡ true
unfolding bit_of
bit_of-set_same words i within =
    ap (λ n. eqb (bit_at n (i % 64)) 1) (get_or-set_same words (i / 64) (bit_or (get_or words (i / 64) 0) (1 * 2 ^ (i % 64) % 2 ^ 64)) 0 within)
    ∙ ap (λ n. eqb n 1) (bit_at_set_same w64 (get_or words (i / 64) 0) (i % 64) (omega arith))

pub bit_of-set_other : (words : List ℕ) (i j : ℕ) → i / 64 < length words → j ≢ i →
    bit_of (set words (i / 64) (bit_or (get_or words (i / 64) 0) (1 * 2 ^ (i % 64) % 2 ^ 64))) j ≡ bit_of words j
unfolding bit_of
bit_of-set_other words i j within other =
    ⊎_elim
    (λ (same : j / 64 ≡ i / 64).
    let apart : j % 64 ≢ i % 64 = λ e. other (omega arith) in
    ap (λ k. eqb (bit_at (get_or (set words (i / 64) (bit_or (get_or words (i / 64) 0) (1 * 2 ^ (i % 64) % 2 ^ 64))) k 0) (j % 64)) 1) same
    ∙ ap (λ n. eqb (bit_at n (j % 64)) 1) (get_or-set_same words (i / 64) (bit_or (get_or words (i / 64) 0) (1 * 2 ^ (i % 64) % 2 ^ 64)) 0 within)
    ∙ ap (λ n. eqb n 1) (bit_at_set_other w64 (get_or words (i / 64) 0) (i % 64) (omega arith) (j % 64) apart)
    ∙ ap (λ k. eqb (bit_at (get_or words k 0) (j % 64)) 1) (sym same))
    (λ (apart : j / 64 ≢ i / 64).
    ap (λ n. eqb (bit_at n (j % 64)) 1) (get_or-set_other words (i / 64) (j / 64) (bit_or (get_or words (i / 64) 0) (1 * 2 ^ (i % 64) % 2 ^ 64)) 0 apart))
    (cases_eq (j / 64) (i / 64))

pub IsRow-set : (words : List ℕ) (bits i : ℕ) → IsRow words bits → i < bits →
    IsRow (set words (i / 64) (bit_or (get_or words (i / 64) 0) (1 * 2 ^ (i % 64) % 2 ^ 64))) bits
IsRow-set words bits i row below = record {
  words_needed = length-set words (i / 64) (bit_or (get_or words (i / 64) 0) (1 * 2 ^ (i % 64) % 2 ^ 64)) ∙ row.words_needed;
  rest_unset = λ j past. bit_of-set_other words i j (word_within words bits i row below) (omega arith) ∙ row.rest_unset j past;
}

-- setting a bit of its word sets that bit of the row alone
pub bits_of-set : (words : List ℕ) (bits i : ℕ) → IsRow words bits → i < bits →
    bits_of (set words (i / 64) (bit_or (get_or words (i / 64) 0) (1 * 2 ^ (i % 64) % 2 ^ 64))) bits ≡ set (bits_of words bits) i true
bits_of-set words bits i row below =
    let word = bit_or (get_or words (i / 64) 0) (1 * 2 ^ (i % 64) % 2 ^ 64) in
    let within = word_within words bits i row below in
    let before = length-bits_of words bits in
    let after = length-bits_of (set words (i / 64) word) bits in
    ext_get_or false (bits_of (set words (i / 64) word) bits) (set (bits_of words bits) i true)
    (after ∙ sym before ∙ sym (length-set (bits_of words bits) i true))
    (λ j inside.
    let j_below : j < bits = omega arith in
    has-bits_of (set words (i / 64) word) bits j j_below
    ∙ ⊎_elim
    (λ (same : j ≡ i).
    ap (bit_of (set words (i / 64) word)) same ∙ bit_of-set_same words i within
    ∙ sym (ap (λ k. get_or (set (bits_of words bits) i true) k false) same ∙ get_or-set_same (bits_of words bits) i true false (omega arith)))
    (λ (other : j ≢ i).
    bit_of-set_other words i j within other ∙ sym (has-bits_of words bits j j_below)
    ∙ sym (get_or-set_other (bits_of words bits) i j true false other))
    (cases_eq j i))

-- words of zeros are a row of unset bits
pub bit_of-zeros : (words : List ℕ) (i : ℕ) → ((k : ℕ) → get_or words k 0 ≡ 0) → bit_of words i ≡ false
unfolding bit_of
bit_of-zeros words i zeros = ap (λ n. eqb (bit_at n (i % 64)) 1) (zeros (i / 64)) ∙ ap (λ n. eqb n 1) (bit_at-zero (i % 64))

pub bits_of-zeros : (words : List ℕ) (bits : ℕ) → ((k : ℕ) → get_or words k 0 ≡ 0) → bits_of words bits ≡ replicate bits false
bits_of-zeros words bits zeros =
    let made = length-bits_of words bits in
    ext_get_or false (bits_of words bits) (replicate bits false) (made ∙ sym (length-replicate bits false))
    (λ j inside.
    let below : j < bits = omega arith in
    has-bits_of words bits j below ∙ bit_of-zeros words j zeros ∙ sym (get_or-replicate bits j false false below))

pub IsRow-zeros : (words : List ℕ) (bits : ℕ) → length words ≡ div_ceil bits 64 → ((k : ℕ) → get_or words k 0 ≡ 0) → IsRow words bits
IsRow-zeros words bits needed zeros = record { words_needed = needed; rest_unset = λ i _. bit_of-zeros words i zeros }

pub get_or-zeros : (n k : ℕ) → get_or (replicate n zero) k zero ≡ zero
get_or-zeros n k =
    ⊎_elim (λ below. get_or-replicate n k zero zero below)
    (λ past. get_or_past (replicate n zero) k zero (let e = length-replicate n zero in omega arith))
    (cases_lt k n)

-- ---- the union of two rows

bit_of_either : (x y : ℕ) → x < 2 → y < 2 → eqb (max x y) 1 ≡ (eqb x 1 || eqb y 1)
bit_of_either zero zero _ _ = refl
bit_of_either zero (suc zero) _ _ = refl
bit_of_either (suc zero) zero _ _ = refl
bit_of_either (suc zero) (suc zero) _ _ = refl
bit_of_either zero (suc (suc y)) _ h = absurd (omega arith)
bit_of_either (suc zero) (suc (suc y)) _ h = absurd (omega arith)
bit_of_either (suc (suc x)) y h _ = absurd (omega arith)

-- the words of both rows, joined
abbrev pub JoinsWords : List ℕ → List ℕ → List ℕ → Type 0
JoinsWords old other new = (k : ℕ) → get_or new k 0 ≡ bit_or (get_or old k 0) (get_or other k 0)

pub bit_of-joined : (old other new : List ℕ) → JoinsWords old other new → (i : ℕ) → bit_of new i ≡ (bit_of old i || bit_of other i)
unfolding bit_of
bit_of-joined old other new joins i =
    let a = get_or old (i / 64) 0 in
    let b = get_or other (i / 64) 0 in
    ap (λ n. eqb (bit_at n (i % 64)) 1) (joins (i / 64))
    ∙ ap (λ n. eqb n 1) (bit_at_or a b (i % 64))
    ∙ bit_of_either (bit_at a (i % 64)) (bit_at b (i % 64)) (bit_at-lt a (i % 64)) (bit_at-lt b (i % 64))

pub IsRow-joined : (old other new : List ℕ) (bits : ℕ) → IsRow old bits → IsRow other bits → length new ≡ length old → JoinsWords old other new → IsRow new bits
IsRow-joined old other new bits first second same joins = record {
  words_needed = same ∙ first.words_needed;
  rest_unset = λ i past.
      bit_of-joined old other new joins i ∙ ap (λ b. b || bit_of other i) (first.rest_unset i past) ∙ second.rest_unset i past;
}

pub IsUnion-joined : (old other new : List ℕ) (bits : ℕ) → IsRow old bits → IsRow other bits → length new ≡ length old → JoinsWords old other new →
    IsUnion (bits_of old bits) (bits_of other bits) (bits_of new bits)
IsUnion-joined old other new bits first second same joins = record {
  same_length = length-bits_of new bits ∙ sym (length-bits_of old bits);
  members = λ i.
      has-row new bits i (IsRow-joined old other new bits first second same joins) ∙ bit_of-joined old other new joins i
      ∙ ap (λ b. b || bit_of other i) (sym (has-row old bits i first)) ∙ ap (λ b. has (bits_of old bits) i || b) (sym (has-row other bits i second));
}

-- ---- a bit that was added

-- whether a bit is set now and wasn't before
abbrev gains : Bool → Bool → Bool
gains before now = not before && now

gains_true : (before now : Bool) → gains before now ≡ true → (before ≡ false) × (now ≡ true)
gains_true true now e = absurd (false≢true e)
gains_true false now e = (refl, e)

-- the least number below n that passes, or none does
search_below : (p : ℕ → Bool) (n : ℕ) → ((i : ℕ) × ((i < n) × (p i ≡ true))) ⊎ ((i : ℕ) → i < n → p i ≡ false)
search_below p zero = inr (λ i below. absurd (omega arith))
search_below p (suc n) =
    ⊎_elim (λ found. inl (found.0, (omega arith, found.1.1)))
    (λ none.
    elim (p n) as (λ b. p n ≡ b → ((i : ℕ) × ((i < suc n) × (p i ≡ true))) ⊎ ((i : ℕ) → i < suc n → p i ≡ false)) [
      | true ↦ (λ e. inl (n, (omega arith, e)))
      | false ↦ (λ e. inr (λ i below. ⊎_elim (λ (lt : i < n). none i lt) (λ (ge : n ≤ i). let same : i ≡ n = omega arith in ap p same ∙ e) (cases_lt i n)))
    ] refl)
    (search_below p n)

-- a bit of a joined word that isn't gained is as before
kept_bit : (x y : ℕ) → x < 2 → y < 2 → gains (eqb x 1) (eqb (max x y) 1) ≡ false → max x y ≡ x
kept_bit zero zero _ _ _ = refl
kept_bit zero (suc zero) _ _ e = absurd (false≢true (sym e))
kept_bit (suc zero) zero _ _ _ = refl
kept_bit (suc zero) (suc zero) _ _ _ = refl
kept_bit zero (suc (suc y)) _ h _ = absurd (omega arith)
kept_bit (suc zero) (suc (suc y)) _ h _ = absurd (omega arith)
kept_bit (suc (suc x)) y h _ _ = absurd (omega arith)

-- a word that changes in a join gains a bit
gained_bit : (a b : ℕ) → a < 2 ^ 64 → b < 2 ^ 64 → bit_or a b ≢ a → (j : ℕ) × ((j < 64) × ((eqb (bit_at a j) 1 ≡ false) × (eqb (bit_at (bit_or a b) j) 1 ≡ true)))
gained_bit a b a_fits b_fits changed =
    ⊎_elim
    (λ found. let both = gains_true (eqb (bit_at a found.0) 1) (eqb (bit_at (bit_or a b) found.0) 1) found.1.1 in (found.0, (found.1.0, both)))
    (λ none. absurd (changed (same_from_bits_below 64 (bit_or a b) a (or_lt 64 a b a_fits b_fits) a_fits
    (λ j below. bit_at_or a b j ∙ kept_bit (bit_at a j) (bit_at b j) (bit_at-lt a j) (bit_at-lt b j)
    (ap (λ n. gains (eqb (bit_at a j) 1) (eqb n 1)) (sym (bit_at_or a b j)) ∙ none j below)))))
    (search_below (λ j. gains (eqb (bit_at a j) 1) (eqb (bit_at (bit_or a b) j) 1)) 64)

bit_of-at : (words : List ℕ) (k j : ℕ) → j < 64 → bit_of words (k * 64 + j) ≡ eqb (bit_at (get_or words k 0) j) 1
unfolding bit_of
bit_of-at words k j below =
    let quotient : (k * 64 + j) / 64 ≡ k = omega arith in
    let remainder : (k * 64 + j) % 64 ≡ j = omega arith in
    ap (λ q. eqb (bit_at (get_or words q 0) ((k * 64 + j) % 64)) 1) quotient ∙ ap (λ r. eqb (bit_at (get_or words k 0) r) 1) remainder

-- a word that changed has a bit that it hadn't
pub GainsBit-changed : (old other new : List ℕ) → JoinsWords old other new → ((k : ℕ) → get_or old k 0 < 2 ^ 64) → ((k : ℕ) → get_or other k 0 < 2 ^ 64) →
    (k : ℕ) → get_or new k 0 ≢ get_or old k 0 → GainsBit old new
GainsBit-changed old other new joins old_fits other_fits k changed =
    let a = get_or old k 0 in
    let b = get_or other k 0 in
    let bit = gained_bit a b (old_fits k) (other_fits k) (λ e. changed (joins k ∙ e)) in (
      k * 64 + bit.0,
      (
        bit_of-at old k bit.0 bit.1.0 ∙ bit.1.1.0,
        bit_of-at new k bit.0 bit.1.0 ∙ ap (λ n. eqb (bit_at n bit.0) 1) (joins k) ∙ bit.1.1.1,
      ),
    )

-- the rows of such words differ in that bit
pub AddsBit-GainsBit : (old new : List ℕ) (bits : ℕ) → IsRow old bits → IsRow new bits → GainsBit old new → AddsBit (bits_of old bits) (bits_of new bits)
AddsBit-GainsBit old new bits first third (i, (unset, is_set)) =
    (i, (has-row old bits i first ∙ unset, has-row new bits i third ∙ is_set))

pub no-AddsBit : (row : List Bool) → AddsBit row row → ⊥
no-AddsBit row (i, (unset, is_set)) = false≢true (sym unset ∙ is_set)

-- a slice that was lent whole and written
pub written_whole : (new old : List ℕ) (n : ℕ) → length new ≡ n → length old ≡ n → take n (new ++ drop (length new) old) ≡ new
written_whole new old n new_length old_length = take-append-le n new (drop (length new) old) (omega arith) ∙ take_all n new (omega arith)
