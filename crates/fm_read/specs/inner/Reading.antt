-- Cutting what is after the constant pool, from left to right.
use Rattle.std.specs.Prelude.{ℕ, ◌==◌, List, length, Option, Some, None, if◌then◌else◌}
use Rattle.fm_code.specs.inner.Reading.{◌>>=◌, number_at, counted_at, raw_at}
use Rattle.fm_read.specs.inner.Parts.{RawBody, RawMember}

-- a field or a method
unfoldable pub member_at : List ℕ → Option (RawMember × List ℕ)
member_at bytes = do
  flags ← number_at 2 bytes
  name ← number_at 2 flags.1
  descriptor ← number_at 2 name.1
  attributes ← counted_at raw_at descriptor.1
  Some (record { flags = flags.0; name = name.0; descriptor = descriptor.0; attributes = attributes.0 }, attributes.1)

-- what is after the constant pool, which is all of the bytes
unfoldable pub body_at : List ℕ → Option RawBody
body_at bytes = do
  flags ← number_at 2 bytes
  this_class ← number_at 2 flags.1
  super_class ← number_at 2 this_class.1
  interfaces ← counted_at (number_at 2) super_class.1
  fields ← counted_at member_at interfaces.1
  methods ← counted_at member_at fields.1
  attributes ← counted_at raw_at methods.1
  if length attributes.1 == 0
      then Some (record { flags = flags.0; this_class = this_class.0; super_class = super_class.0; interfaces = interfaces.0; fields = fields.0; methods = methods.0; attributes = attributes.0 })
      else None
