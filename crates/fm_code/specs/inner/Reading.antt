-- Reading from left to right: a piece is read to its value and the bytes after it. It only serves the proofs of the parsers.
use Rattle.std.specs.Prelude.{◌≡◌, ℕ, zero, suc, nat_lt, List, [], ◌∷◌, ◌++◌, length, take, drop, Option, Some, None, option_and_then, Result, Ok, Err, if◌then◌else◌}
use Rattle.byteorder.specs.Endian.{big_number}
use Rattle.fm_code.specs.declared.class_file.Raw.{Raw}
use Rattle.fm_code.specs.declared.cursor.AttributeParts.{AttributeParts}
use Rattle.fm_code.specs.declared.error.PieceFail.{PieceFail}
use Rattle.fm_code.specs.declared.error.PieceFail.TheVariants as fail

infixl 10 ◌>>=◌
abbrev pub ◌>>=◌ : {A B : Type 0} → Option A → (A → Option B) → Option B
o >>= f = option_and_then f o

-- what a failure means for a reading: it fails too, unless memory ran out
abbrev pub Fails : {Y : Type 0} → PieceFail → Option Y → Type 0
Fails fail.Malformed reading = reading ≡ None
Fails fail.NoMemory reading = Unit {0}

-- what a function returned, seen by view, is what the reading gives, unless memory ran out
abbrev pub Gives : {X Y : Type 0} → (X → Y) → Result X PieceFail → Option Y → Type 0
Gives view (Ok x) reading = reading ≡ Some (view x)
Gives view (Err e) reading = Fails e reading

-- ---- numbers and bytes

-- the number in the first bytes
abbrev pub number_at : ℕ → List ℕ → Option (ℕ × List ℕ)
number_at size bytes = if nat_lt (length bytes) size then None else Some (big_number size bytes, drop size bytes)

-- the first bytes themselves
abbrev pub bytes_at : ℕ → List ℕ → Option (List ℕ × List ℕ)
bytes_at size bytes = if nat_lt (length bytes) size then None else Some (take size bytes, drop size bytes)

-- ---- pieces one after the other

-- a given number of pieces
unfoldable pub several_at : {X : Type 0} → (List ℕ → Option (X × List ℕ)) → ℕ → List ℕ → Option (List X × List ℕ)
several_at piece_at zero bytes = Some ([], bytes)
several_at piece_at (suc count) bytes = do
  first ← piece_at bytes
  others ← several_at piece_at count first.1
  Some (first.0 ∷ others.0, others.1)

-- the pieces after their number in two bytes
unfoldable pub counted_at : {X : Type 0} → (List ℕ → Option (X × List ℕ)) → List ℕ → Option (List X × List ℕ)
counted_at piece_at bytes = do
  count ← number_at 2 bytes
  several_at piece_at count.0 count.1

-- what was read before, in front of what is read
abbrev pub with_prefix : {X : Type 0} → List X → Option (List X × List ℕ) → Option (List X × List ℕ)
with_prefix prefix reading = reading >>= λ x. Some (prefix ++ x.0, x.1)

-- ---- attributes

-- an attribute as it is kept where it isn't read
abbrev pub attribute_view : AttributeParts → Raw
attribute_view a = record { name = a.name; bytes = a.bytes.now }

-- an attribute: its name, and a given number of bytes
unfoldable pub raw_at : List ℕ → Option (Raw × List ℕ)
raw_at bytes = do
  name ← number_at 2 bytes
  size ← number_at 4 name.1
  body ← bytes_at size.0 size.1
  Some (record { name = name.0; bytes = body.0 }, body.1)
