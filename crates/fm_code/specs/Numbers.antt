-- The bytes of numbers in a class file: big-endian, in one, two, four or eight bytes (JVMS 4.1).
use Rattle.std.specs.Prelude.{ℕ, ◌+◌, ◌*◌, List, ℤ, pos, nat_lt, if◌then◌else◌, ◌-ℤ◌}
use Rattle.std.specs.Int.{w32, w64, cast_unsigned}
use Rattle.byteorder.specs.Endian.{big_bytes}

-- a number in two bytes
unfoldable pub two : ℕ → List ℕ
two n = big_bytes 2 n

-- a number in four bytes
unfoldable pub four : ℕ → List ℕ
four n = big_bytes 4 n

-- a number in eight bytes
unfoldable pub eight : ℕ → List ℕ
eight n = big_bytes 8 n

-- a signed number is spelled as its two's complement
unfoldable pub signed_four : ℤ → List ℕ
signed_four z = four (cast_unsigned w32 z)

-- a signed number in eight bytes
unfoldable pub signed_eight : ℤ → List ℕ
signed_eight z = eight (cast_unsigned w64 z)

-- the value of one, two or four bytes read as two's complement
abbrev pub signed_one : ℕ → ℤ
signed_one a = if nat_lt a 128 then pos a else pos a -ℤ pos 256

-- the number that two bytes spell
abbrev pub number_of_two : ℕ → ℕ → ℕ
number_of_two a b = a * 256 + b

-- the signed number that two bytes spell
abbrev pub signed_two : ℕ → ℕ → ℤ
signed_two a b = let n = number_of_two a b in if nat_lt n 32768 then pos n else pos n -ℤ pos 65536

-- the number that four bytes spell
abbrev pub number_of_four : ℕ → ℕ → ℕ → ℕ → ℕ
number_of_four a b c d = number_of_two a b * 65536 + number_of_two c d

-- the signed number that four bytes spell
abbrev pub signed_four_of : ℕ → ℕ → ℕ → ℕ → ℤ
signed_four_of a b c d = let n = number_of_four a b c d in if nat_lt n 2147483648 then pos n else pos n -ℤ pos 4294967296
