-- How many words an object takes, and how many the cell that holds it.
use Rattle.std.specs.Prelude.{ℕ, zero, suc, ◌+◌, ◌-◌, ◌/◌, ◌^◌, nat_le, if◌then◌else◌, ◌≡◌, ◌⊎◌}

-- a word holds 1, 2, 4 or 8 elements
abbrev pub IsPack : ℕ → Type 0
IsPack pack = (pack ≡ 1) ⊎ ((pack ≡ 2) ⊎ ((pack ≡ 4) ⊎ (pack ≡ 8)))

-- the bits of an element where a word holds `pack` of them
abbrev pub element_bits : ℕ → ℕ
element_bits pack = 64 / pack

-- the fewest words that hold len elements
abbrev pub body_words : ℕ → ℕ → ℕ
body_words len pack = (len + (pack - 1)) / pack

-- the words of an object: two of header, and its body
abbrev pub packed_words : ℕ → ℕ → ℕ
packed_words len pack = 2 + body_words len pack

-- the words of a cell of a size class: up to 32 as many as its number says, and then 64, 128, 256 and so on
abbrev pub class_words : ℕ → ℕ
class_words size_class = (if nat_le size_class 32 then size_class else 2 ^ (size_class - 27))

-- the first size class, of `from` and a given number of next ones, whose cells have n words
abbrev pub first_class : ℕ → ℕ → ℕ → ℕ
first_class zero from n = from
first_class (suc more) from n = (if nat_le n (class_words from) then from else first_class more (suc from) n)

-- the size class of n words, of 64: the first whose cells have n words
unfoldable pub size_class : ℕ → ℕ
size_class n = first_class 63 0 n

-- the words of the cell that holds n words
abbrev pub cell_words : ℕ → ℕ
cell_words n = class_words (size_class n)
