-- The unit at the front of a text, and where it ends.
use Rattle.std.specs.Prelude.{◌≡◌, ℕ, ◌≤◌, ◌<◌, ◌⊎◌, List, [], ◌++◌, length}
use Rattle.fm_base.specs.Texts.{parted, unit_bytes, units}

-- the bytes that go on with a unit, and those from the next one on that begins one
pub record IsSplit (bytes going_on begun : List ℕ) : Type 0 where
  pub parted_is : parted bytes ≡ record { going_on = going_on; units = units begun }
  pub begins : (parted begun).going_on ≡ []
  pub len : length begun ≤ length bytes

-- the shortest bytes of a unit, and then the rest
pub record StartsWithUnit (bytes rest : List ℕ) : Type 0 where
  pub unit : ℕ
  pub in_range : unit < 65536
  pub bytes_are : bytes ≡ unit_bytes unit ++ rest

-- a byte goes on with a unit
abbrev pub GoesOn : ℕ → Type 0
GoesOn byte = (128 ≤ byte) × (byte < 192)

-- two bytes are the shortest ones of a unit
abbrev pub IsPair : ℕ → ℕ → Type 0
IsPair first second = GoesOn second × (((194 ≤ first) × (first < 224)) ⊎ ((first ≡ 192) × (second ≡ 128)))

-- three bytes are
abbrev pub IsTriple : ℕ → ℕ → ℕ → Type 0
IsTriple first second third = GoesOn second × GoesOn third × (((225 ≤ first) × (first < 240)) ⊎ ((first ≡ 224) × (160 ≤ second)))
