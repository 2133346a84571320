-- Texts in modified UTF-8, and the 16-bit units that they stand for (JVMS 4.4.7); and the bytes as which units are printed.
use Rattle.std.specs.Prelude.{◌≡◌, ℕ, ◌+◌, ◌-◌, ◌*◌, ◌/◌, ◌%◌, ◌<◌, ◌&&◌, Bool, nat_lt, nat_le, List, [], ◌∷◌, map, Option, unwrap_or, if◌then◌else◌}
use Rattle.std.specs.Char.Utf16.{utf16_chars}
use Rattle.std.specs.List.{flat_map, AllByRecursion}
use Rattle.std.specs.Str.{encode_utf8_all}

-- the shortest bytes of a unit: one for 1 to 127, two for 0 and for 128 to 2,047, and three above
abbrev pub unit_bytes : ℕ → List ℕ
unit_bytes unit =
    if nat_lt 0 unit && nat_lt unit 128 then unit ∷ [] else
    if nat_lt unit 2048 then (192 + unit / 64) ∷ (128 + unit % 64) ∷ [] else
    (224 + unit / 4096) ∷ (128 + unit / 64 % 64) ∷ (128 + unit % 64) ∷ []

-- a byte that goes on with a unit, and begins none
abbrev pub goes_on : ℕ → Bool
goes_on byte = nat_le 128 byte && nat_lt byte 192

-- what a first byte makes with those that go on after it
abbrev pub unit_of : ℕ → List ℕ → ℕ
unit_of first [] = first
unit_of first (second ∷ []) = (first - 192) * 64 + (second - 128)
unit_of first (second ∷ third ∷ rest) = (first - 224) * 4096 + (second - 128) * 64 + (third - 128)

-- the first bytes that go on with a unit which began before them, and the units after these
pub record Parted : Type 0 where
  pub going_on : List ℕ
  pub units : List ℕ

-- the bytes of a text, cut into the bytes that go on a character before them and the units after these
abbrev pub parted : List ℕ → Parted
parted [] = record { going_on = []; units = [] }
parted (byte ∷ rest) = before byte (parted rest) where
  before : ℕ → Parted → Parted
  before b p =
      if goes_on b then record { going_on = b ∷ p.going_on; units = p.units } else
      record { going_on = []; units = unit_of b p.going_on ∷ p.units }

-- the units of a text, each from the byte that begins it and from those that go on with it
abbrev pub units : List ℕ → List ℕ
units bytes = (parted bytes).units

-- the bytes are those of 16-bit units, each in its shortest form: no byte is 0, and none is above 239
pub record IsModifiedUtf8 (bytes : List ℕ) : Type 0 where
  pub in_range : AllByRecursion (λ unit. unit < 65536) (units bytes)
  pub shortest : bytes ≡ flat_map unit_bytes (units bytes)

-- the character of one unit or of a surrogate pair; for a unit of such a pair without the other, `?` (63)
abbrev pub shown : Option ℕ → ℕ
shown character = unwrap_or character 63

-- the characters that units spell, in UTF-8
unfoldable pub utf8 : List ℕ → List ℕ
utf8 text = encode_utf8_all (map shown (utf16_chars text))
