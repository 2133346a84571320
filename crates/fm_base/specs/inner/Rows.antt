-- How a row of bits lies in words of 64 bits.
use Rattle.std.specs.Prelude.{◌≡◌, ℕ, ◌/◌, ◌%◌, ◌≤◌, ◌==◌, Bool, true, false, List, length, map, slice_index, bit_or}
use Rattle.std.specs.List.{range_with_len}
use Rattle.std.specs.Int.{bit_at, div_ceil}

-- bit i of the words: the lowest bits of the first word come first
unfoldable pub bit_of : List ℕ → ℕ → Bool
bit_of words i = bit_at (slice_index words (i / 64)) (i % 64) == 1

-- the first bits of the words
unfoldable pub bits_of : List ℕ → ℕ → List Bool
bits_of words bits = map (bit_of words) (range_with_len 0 bits)

-- as many words as the bits need, and no bit set after them
pub record IsRow (words : List ℕ) (bits : ℕ) : Type 0 where
  pub words_needed : length words ≡ div_ceil bits 64
  pub rest_unset : (i : ℕ) → bits ≤ i → bit_of words i ≡ false

-- some bit is set in the new words and not in the old ones
abbrev pub GainsBit : List ℕ → List ℕ → Type 0
GainsBit old new = (i : ℕ) × ((bit_of old i ≡ false) × (bit_of new i ≡ true))

-- each new word has the bits of the old one and of the other one
abbrev pub Joins : List ℕ → List ℕ → List ℕ → Type 0
Joins old other new = (k : ℕ) → slice_index new k ≡ bit_or (slice_index old k) (slice_index other k)
