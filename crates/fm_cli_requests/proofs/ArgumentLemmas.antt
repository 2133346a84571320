-- Arguments are no longer than the text that gives them.
use Rattle.std.proofs.Common.{◌≡◌, ◌<◌, ◌≤◌, ℕ, zero, suc, ◌+◌, ◌-◌, ◌*◌, ◌/◌, ◌%◌, Bool, true, false, cond, List, [], ◌∷◌, ◌++◌, length, eqb, nat_lt, ap, ◌∙◌, arith, length-append}
use Rattle.std.specs.Char.Escape.{encode_utf16}
use Rattle.std.specs.List.{AllByRecursion, flat_map, onto_first, slice_split}
use Rattle.std.specs.Str.{chars, chars_after, continuation_len, lead_bits}
use Rattle.std.proofs.lemmas.Grind.{flat_map-append}
use Rattle.std.proofs.lemmas.List.{append-nil}
use Rattle.fm_base.proofs.ListFacts.{AllByRecursion-append, AllByRecursion-weaker}
use Rattle.fm_cli_requests.specs.Arguments.{argument_of, arguments_of}

-- ---- one more of them

-- what is given after one more
pub given_more : {X Y : Type 0} (f : X → List Y) (xs : List X) (x : X) → flat_map f (xs ++ x ∷ []) ≡ flat_map f xs ++ f x
given_more f xs x = flat_map-append f xs (x ∷ []) ∙ ap (λ ys. flat_map f xs ++ ys) (append-nil (f x))

-- ---- lengths

-- a text has no more characters than bytes, and each no more than two units
after_length : (n c : ℕ) (bytes : List ℕ) → length (chars_after n c bytes) ≤ length bytes + 1
after_length zero c [] = omega arith
after_length zero c (b ∷ bytes) = let rest = after_length (continuation_len b) (lead_bits b) bytes in omega arith
after_length (suc n) c [] = omega arith
after_length (suc n) c (b ∷ bytes) = let rest = after_length n (c * 64 + (b - 128)) bytes in omega arith

chars_length : (bytes : List ℕ) → length (chars bytes) ≤ length bytes
unfolding chars
chars_length [] = omega arith
chars_length (b ∷ bytes) = let rest = after_length (continuation_len b) (lead_bits b) bytes in omega arith

one_or_two : (c : ℕ) → length (encode_utf16 c) ≤ 2
one_or_two c = by_size (nat_lt c 0x1_0000) where
  by_size : (small : Bool) → length (cond small (c ∷ []) ((0xD800 + (c - 0x1_0000) / 0x400) ∷ (0xDC00 + (c - 0x1_0000) % 0x400) ∷ [])) ≤ 2
  by_size true = omega arith
  by_size false = omega arith

units_length : (cs : List ℕ) → length (flat_map encode_utf16 cs) ≤ 2 * length cs
units_length [] = omega arith
units_length (c ∷ cs) = let first = one_or_two c in let rest = units_length cs in omega (arith, length-append (encode_utf16 c) (flat_map encode_utf16 cs))

-- the pieces are no longer than the text
first_longer : (n m : ℕ) (x : ℕ) (parts : List (List ℕ)) → n < m → AllByRecursion (λ part. length part ≤ n) parts → AllByRecursion (λ part. length part ≤ m) (onto_first x parts)
first_longer n m x [] more all = (omega arith, tt)
first_longer n m x (part ∷ parts) more all =
    (let first = all.0 in omega arith, AllByRecursion-weaker (λ p. length p ≤ n) (λ p. length p ≤ m) (λ p short. omega arith) parts all.1)

pieces_length : (test : ℕ → Bool) (text : List ℕ) → AllByRecursion (λ piece. length piece ≤ length text) (slice_split test text)
pieces_length test [] = (omega arith, tt)
pieces_length test (x ∷ text) = by_test (test x) (pieces_length test text) where
  by_test : (cut : Bool) → AllByRecursion (λ piece. length piece ≤ length text) (slice_split test text)
      → AllByRecursion (λ piece. length piece ≤ length (x ∷ text)) (cond cut ([] ∷ slice_split test text) (onto_first x (slice_split test text)))
  by_test true all =
      (omega arith, AllByRecursion-weaker (λ p. length p ≤ length text) (λ p. length p ≤ length (x ∷ text)) (λ p short. omega arith) (slice_split test text) all)
  by_test false all = first_longer (length text) (length (x ∷ text)) x (slice_split test text) (omega arith) all

-- so an argument has no more than twice as many units as the text has bytes
argument_length : (n : ℕ) (piece : List ℕ) → length piece ≤ n → AllByRecursion (λ argument. length argument ≤ 2 * n) (argument_of piece)
argument_length n [] short = tt
argument_length n (b ∷ bytes) short =
    let few = chars_length (b ∷ bytes) in let units = units_length (chars (b ∷ bytes)) in (omega arith, tt)

all_given : (n : ℕ) (pieces : List (List ℕ)) → AllByRecursion (λ piece. length piece ≤ n) pieces → AllByRecursion (λ argument. length argument ≤ 2 * n) (flat_map argument_of pieces)
all_given n [] all = tt
all_given n (piece ∷ pieces) all =
    AllByRecursion-append (λ argument. length argument ≤ 2 * n) (argument_of piece) (flat_map argument_of pieces) (argument_length n piece all.0) (all_given n pieces all.1)

pub argument_lengths : (text : List ℕ) → AllByRecursion (λ argument. length argument ≤ 2 * length text) (arguments_of text)
argument_lengths text = all_given (length text) (slice_split (λ b. eqb b 32) text) (pieces_length (λ b. eqb b 32) text)
