-- The object that words hold: what it rests on, and what a write to one element changes.
use Rattle.std.proofs.Common.{◌≡◌, ◌≢◌, ℕ, ◌+◌, ◌*◌, ◌/◌, ◌%◌, ◌^◌, ◌<◌, ◌≤◌, Bool, cond, List, length, map, replicate, get_or, set, sym, ◌∙◌, ap, subst, nat_eq, arith, inl, inr, get_or-set_same, get_or-set_other, zero-add}
use Rattle.std.specs.List.{range_with_len}
use Rattle.std.proofs.lemmas.List.{ext_get_or, get_or-replicate, length-replicate}
use Rattle.std.proofs.lemmas.List.FromFn.{fill_by_all, length-map-range_with_len, get_or-map-range_with_len}
use Rattle.std.proofs.lemmas.Bool.{cases_eq}
use Rattle.std.proofs.Math.Nat.{zero-div, zero-mod}
use Rattle.std.proofs.lemmas.Nat.{mod_below, div-add-mod'}
use Rattle.fm_base.proofs.TestFacts.{apart-nat_eq, same-nat_eq}
use Rattle.fm_cells.specs.Sizes.{IsPack, element_bits, body_words, packed_words}
use Rattle.fm_cells.specs.Objects.{object_words, new_object, request_of}
use Rattle.fm_cells.specs.inner.Words.{digit, with_digit, element_in, elements_in, class_in, birth_in, pack_in, is_fixed, len_in, chain_in, object_from, mark_in}
use Rattle.fm_cells.proofs.DigitLaws.{IsPack-power, digit-with_digit_same, digit-with_digit_other}

-- functions that agree below n give the same list
pub map-range-ext : (f g : ℕ → ℕ) (n : ℕ) → ((k : ℕ) → k < n → f k ≡ g k) → map f (range_with_len 0 n) ≡ map g (range_with_len 0 n)
map-range-ext f g n same =
    fill_by_all g (map f (range_with_len 0 n)) n 0 (length-map-range_with_len f 0 n) (λ k h. get_or-map-range_with_len f 0 n k k 0 h (omega arith) ∙ same k h)

-- the elements of a body are as many as the header says
pub length-elements_in : (words : List ℕ) (start pack len : ℕ) → length (elements_in words start pack len) ≡ len
length-elements_in words start pack len = length-map-range_with_len (element_in words start pack) 0 len

-- an element lies in the body
pub place-in-body : (place len pack : ℕ) → IsPack pack → place < len → place / pack < body_words len pack
place-in-body place len pack (inl e) h = subst (λ p. place / p < body_words len p) (sym e) (omega arith)
place-in-body place len pack (inr (inl e)) h = subst (λ p. place / p < body_words len p) (sym e) (omega arith)
place-in-body place len pack (inr (inr (inl e))) h = subst (λ p. place / p < body_words len p) (sym e) (omega arith)
place-in-body place len pack (inr (inr (inr e))) h = subst (λ p. place / p < body_words len p) (sym e) (omega arith)

-- the pack that a header says is a pack
pub IsPack-pack_in : (identity : ℕ) → IsPack (pack_in identity)
IsPack-pack_in identity = IsPack-power (identity / 2 ^ 60 % 2 ^ 2) (mod_below (identity / 2 ^ 60) 4 (omega arith))

-- the words of the object are those that its header says
pub object_words-object_from : (words : List ℕ) (cell : ℕ) → object_words (object_from words cell) ≡ packed_words (len_in (get_or words (cell + 1) 0)) (pack_in (get_or words cell 0))
object_words-object_from words cell = ap (λ n. packed_words n (pack_in (get_or words cell 0))) (length-elements_in words (cell + 2) (pack_in (get_or words cell 0)) (len_in (get_or words (cell + 1) 0)))

-- the object rests on its own words alone
pub object_from-frame : (words words' : List ℕ) (cell n : ℕ) → object_words (object_from words cell) ≤ n → ((i : ℕ) → cell ≤ i → i < cell + n → get_or words' i 0 ≡ get_or words i 0) → object_from words' cell ≡ object_from words cell
object_from-frame words words' cell n fits same =
    let bound : packed_words (len_in (get_or words (cell + 1) 0)) (pack_in (get_or words cell 0)) ≤ n = omega (arith, object_words-object_from words cell) in
    let identity : get_or words' cell 0 ≡ get_or words cell 0 = same cell (omega arith) (omega arith) in
    let extent : get_or words' (cell + 1) 0 ≡ get_or words (cell + 1) 0 = same (cell + 1) (omega arith) (omega arith) in
    let elements : elements_in words' (cell + 2) (pack_in (get_or words' cell 0)) (len_in (get_or words' (cell + 1) 0)) ≡ elements_in words (cell + 2) (pack_in (get_or words cell 0)) (len_in (get_or words (cell + 1) 0)) =
    ap (λ w. elements_in words' (cell + 2) (pack_in w) (len_in (get_or words' (cell + 1) 0))) identity
    ∙ ap (λ w. elements_in words' (cell + 2) (pack_in (get_or words cell 0)) (len_in w)) extent
    ∙ map-range-ext (element_in words' (cell + 2) (pack_in (get_or words cell 0))) (element_in words (cell + 2) (pack_in (get_or words cell 0))) (len_in (get_or words (cell + 1) 0))
    (λ place h. ap (λ w. digit (element_bits (pack_in (get_or words cell 0))) (place % pack_in (get_or words cell 0)) w)
    (same (cell + 2 + place / pack_in (get_or words cell 0)) (omega arith) (omega (arith, place-in-body place (len_in (get_or words (cell + 1) 0)) (pack_in (get_or words cell 0)) (IsPack-pack_in (get_or words cell 0)) h)))) in
    λ i. record {
      class = class_in (identity i);
      birth = birth_in (identity i);
      pack = pack_in (identity i);
      fixed = is_fixed (identity i);
      chain = chain_in (extent i);
      elements = elements i;
    }

pub zero-digit : (bits place : ℕ) → digit bits place 0 ≡ 0
zero-digit bits place = ap (λ n. n % 2 ^ bits) (zero-div (2 ^ (bits * place))) ∙ zero-mod (2 ^ bits)

-- header words that say what was asked for, and a body of zeros, are the object as it is made
pub object_from-new : (words : List ℕ) (cell class birth pack len : ℕ) (fixed : Bool) → IsPack pack → class_in (get_or words cell 0) ≡ class → birth_in (get_or words cell 0) ≡ birth → pack_in (get_or words cell 0) ≡ pack → is_fixed (get_or words cell 0) ≡ fixed
    → len_in (get_or words (cell + 1) 0) ≡ len → chain_in (get_or words (cell + 1) 0) ≡ 0 → ((k : ℕ) → cell + 2 ≤ k → k < cell + packed_words len pack → get_or words k 0 ≡ 0)
    → object_from words cell ≡ new_object birth (request_of class len pack fixed)
object_from-new words cell class birth pack len fixed is_pack is_class is_birth same_pack same_fixed is_len is_chain zeros =
    let elements : elements_in words (cell + 2) (pack_in (get_or words cell 0)) (len_in (get_or words (cell + 1) 0)) ≡ replicate len 0 =
    ap (λ p. elements_in words (cell + 2) p (len_in (get_or words (cell + 1) 0))) same_pack
    ∙ ap (λ n. elements_in words (cell + 2) pack n) is_len
    ∙ ext_get_or 0 (elements_in words (cell + 2) pack len) (replicate len 0) (length-elements_in words (cell + 2) pack len ∙ sym (length-replicate {A = ℕ} len 0))
    (λ place h.
    let below : place < len = omega (arith, length-elements_in words (cell + 2) pack len) in
    get_or-map-range_with_len (element_in words (cell + 2) pack) 0 len place place 0 below (omega arith)
    ∙ ap (λ w. digit (element_bits pack) (place % pack) w) (zeros (cell + 2 + place / pack) (omega arith) (omega (arith, place-in-body place len pack is_pack below)))
    ∙ zero-digit (element_bits pack) (place % pack)
    ∙ sym (get_or-replicate {A = ℕ} len place 0 0 below)) in
    λ i. record { class = is_class i; birth = is_birth i; pack = same_pack i; fixed = same_fixed i; chain = is_chain i; elements = elements i }

same_place : (p q pack : ℕ) → p / pack ≡ q / pack → p % pack ≡ q % pack → p ≡ q
same_place p q pack e f = sym (div-add-mod' p pack) ∙ ap (λ n. n * pack + p % pack) e ∙ ap (λ n. q / pack * pack + n) f ∙ div-add-mod' q pack

-- a write of one element changes that element alone
pub element_in-set : (words : List ℕ) (start pack place value : ℕ) (q : ℕ) → start + place / pack < length words → value < 2 ^ element_bits pack
    → element_in (set words (start + place / pack) (with_digit (element_bits pack) (place % pack) value (get_or words (start + place / pack) 0))) start pack q ≡ cond (nat_eq q place) value (element_in words start pack q)
element_in-set words start pack place value q within fits =
    let at = start + place / pack in
    let word = with_digit (element_bits pack) (place % pack) value (get_or words at 0) in
    elim (cases_eq (q / pack) (place / pack)) as (λ _. element_in (set words at word) start pack q ≡ cond (nat_eq q place) value (element_in words start pack q)) [
      | inl e ↦
          let read : get_or (set words at word) (start + q / pack) 0 ≡ word = ap (λ n. get_or (set words at word) (start + n) 0) e ∙ get_or-set_same words at word 0 within in
          ap (λ w. digit (element_bits pack) (q % pack) w) read
          ∙ elim (cases_eq (q % pack) (place % pack)) as (λ _. digit (element_bits pack) (q % pack) word ≡ cond (nat_eq q place) value (element_in words start pack q)) [
            | inl f ↦
                let same : q ≡ place = same_place q place pack e f in
                ap (λ n. digit (element_bits pack) n word) f ∙ digit-with_digit_same (get_or words at 0) (element_bits pack) (place % pack) value fits
                ∙ sym (ap (λ n. cond (nat_eq n place) value (element_in words start pack q)) same ∙ ap (λ b. cond b value (element_in words start pack q)) (same-nat_eq place))
            | inr f ↦
                let other : q ≢ place = λ same. f (ap (λ n. n % pack) same) in
                digit-with_digit_other (get_or words at 0) (element_bits pack) (place % pack) (q % pack) value f fits
                ∙ ap (λ n. digit (element_bits pack) (q % pack) (get_or words (start + n) 0)) (sym e)
                ∙ sym (ap (λ b. cond b value (element_in words start pack q)) (apart-nat_eq q place other))
          ]
      | inr e ↦
          let other : q ≢ place = λ same. e (ap (λ n. n / pack) same) in
          ap (λ w. digit (element_bits pack) (q % pack) w) (get_or-set_other words at (start + q / pack) word 0 (λ same. e (omega arith)))
          ∙ sym (ap (λ b. cond b value (element_in words start pack q)) (apart-nat_eq q place other))
    ]

-- a mark that is set or cleared changes that mark alone
pub mark_in-set : (marks : List ℕ) (cell mark q : ℕ) → cell / 64 < length marks → mark < 2 → mark_in (set marks (cell / 64) (with_digit 1 (cell % 64) mark (get_or marks (cell / 64) 0))) q ≡ cond (nat_eq q cell) mark (mark_in marks q)
mark_in-set marks cell mark q within bit =
    let plain = λ (n : ℕ). zero-add n in
    let at : 0 + cell / 64 ≡ cell / 64 = plain (cell / 64) in
    let whole = element_in-set marks 0 64 cell mark q (omega arith) bit in
    ap (λ n. digit 1 (q % 64) (get_or (set marks n (with_digit 1 (cell % 64) mark (get_or marks n 0))) (q / 64) 0)) (sym at)
    ∙ ap (λ n. digit 1 (q % 64) (get_or (set marks (0 + cell / 64) (with_digit 1 (cell % 64) mark (get_or marks (0 + cell / 64) 0))) n 0)) (sym (plain (q / 64)))
    ∙ whole
    ∙ ap (λ n. cond (nat_eq q cell) mark (digit 1 (q % 64) (get_or marks n 0))) (plain (q / 64))
