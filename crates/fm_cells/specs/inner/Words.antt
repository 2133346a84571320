-- Objects in words: two header words, and a body in which each word holds as many elements as the pack says.
use Rattle.std.specs.Prelude.{ℕ, ◌+◌, ◌-◌, ◌*◌, ◌/◌, ◌%◌, ◌^◌, Bool, List, map, nat_eq, if◌then◌else◌, slice_index}
use Rattle.std.specs.Prelude.{Option, Some, None}
use Rattle.std.specs.List.{range_with_len}
use Rattle.fm_cells.specs.declared.headers.TheConstants.{BIRTH_BITS, CHAIN_BITS, CLASS_BITS, EXPONENT_BITS, LEN_BITS}
use Rattle.fm_cells.specs.Sizes.{element_bits}
use Rattle.fm_cells.specs.Objects.{Object}

-- the group of a given number of bits at a place of a word, the lowest first
abbrev pub digit : ℕ → ℕ → ℕ → ℕ
digit bits place word = word / 2 ^ (bits * place) % 2 ^ bits

-- the word with another group at a place
abbrev pub with_digit : ℕ → ℕ → ℕ → ℕ → ℕ
with_digit bits place value word = word - digit bits place word * 2 ^ (bits * place) + value * 2 ^ (bits * place)

-- the element at a place of a body that begins at a word
abbrev pub element_in : List ℕ → ℕ → ℕ → ℕ → ℕ
element_in words start pack place = digit (element_bits pack) (place % pack) (slice_index words (start + place / pack))

-- the elements of a body
abbrev pub elements_in : List ℕ → ℕ → ℕ → ℕ → List ℕ
elements_in words start pack len = map (element_in words start pack) (range_with_len 0 len)

-- the first header word, from its highest bits: whether the object is fixed (1 bit), the exponent of its pack (2), its
-- birth (32) and the number of its type (28)
abbrev pub identity_word : ℕ → ℕ → ℕ → Bool → ℕ
identity_word class birth exponent fixed = (((if fixed then 1 else 0) * 2 ^ EXPONENT_BITS + exponent) * 2 ^ BIRTH_BITS + birth) * 2 ^ CLASS_BITS + class

-- the class in an identity word
abbrev pub class_in : ℕ → ℕ
class_in identity = identity % 2 ^ CLASS_BITS

-- the number of the object in an identity word
abbrev pub birth_in : ℕ → ℕ
birth_in identity = identity / 2 ^ CLASS_BITS % 2 ^ BIRTH_BITS

-- the binary logarithm of how many elements share a word, in an identity word
abbrev pub exponent_in : ℕ → ℕ
exponent_in identity = identity / 2 ^ (CLASS_BITS + BIRTH_BITS) % 2 ^ EXPONENT_BITS

-- how many elements share a word
abbrev pub pack_in : ℕ → ℕ
pack_in identity = 2 ^ exponent_in identity

-- whether the object lives for ever
abbrev pub is_fixed : ℕ → Bool
is_fixed identity = nat_eq (identity / 2 ^ (CLASS_BITS + BIRTH_BITS + EXPONENT_BITS)) 1

-- the second header word: the chain (32 bits) above the number of elements (31)
abbrev pub extent_word : ℕ → ℕ → ℕ
extent_word len chain = chain * 2 ^ LEN_BITS + len

-- the number of elements in an extent word
abbrev pub len_in : ℕ → ℕ
len_in extent = extent % 2 ^ LEN_BITS

-- the cell to which the object leads, in an extent word
abbrev pub chain_in : ℕ → ℕ
chain_in extent = extent / 2 ^ LEN_BITS % 2 ^ CHAIN_BITS

-- the object whose first header word has this index
abbrev pub object_from : List ℕ → ℕ → Object
object_from words cell =
    let identity = slice_index words cell in
    let extent = slice_index words (cell + 1) in
    record {
      class = class_in identity;
      birth = birth_in identity;
      pack = pack_in identity;
      fixed = is_fixed identity;
      chain = chain_in extent;
      elements = elements_in words (cell + 2) (pack_in identity) (len_in extent);
    }

-- the bit of a word of memory, among marks that hold 64 in a word
abbrev pub mark_in : List ℕ → ℕ → ℕ
mark_in marks cell = digit 1 (cell % 64) (slice_index marks (cell / 64))

-- the object in a cell, which is held where the first header word has a mark
abbrev pub marked_object : List ℕ → List ℕ → ℕ → Option Object
marked_object words marks cell = (if nat_eq (mark_in marks cell) 1 then Some (object_from words cell) else None)
