-- Reading a constant pool from left to right. It only serves the proofs.
use Rattle.std.specs.Prelude.{ℕ, zero, suc, ◌==◌, Bool, true, false, List, [], ◌∷◌, Option, Some, None, if◌then◌else◌}
use Rattle.std.specs.Int.{w32, w64, cast_signed}
use Rattle.fm_code.specs.ConstantPool.{takes_two}
use Rattle.fm_code.specs.inner.Reading.{◌>>=◌, number_at, bytes_at}
use Rattle.fm_code.specs.declared.constant_pool.TheConstants.{CONSTANT_Utf8, CONSTANT_Integer, CONSTANT_Float, CONSTANT_Long, CONSTANT_Double, CONSTANT_Class, CONSTANT_String, CONSTANT_Fieldref, CONSTANT_Methodref, CONSTANT_InterfaceMethodref, CONSTANT_NameAndType, CONSTANT_MethodHandle, CONSTANT_MethodType, CONSTANT_InvokeDynamic}
use Rattle.fm_code.specs.declared.constant_pool.Entry.{Entry}
use Rattle.fm_code.specs.declared.constant_pool.Entry.TheVariants as entry

-- ---- entries

-- a text's length, and its bytes
unfoldable pub text_at : List ℕ → Option (List ℕ × List ℕ)
text_at bytes = do
  size ← number_at 2 bytes
  bytes_at size.0 size.1

-- two indices
unfoldable pub pair_at : List ℕ → Option ((ℕ × ℕ) × List ℕ)
pair_at bytes = do
  first ← number_at 2 bytes
  second ← number_at 2 first.1
  Some ((first.0, second.0), second.1)

-- the kind of a method handle, and an index
unfoldable pub handle_at : List ℕ → Option ((ℕ × ℕ) × List ℕ)
handle_at bytes = do
  kind ← number_at 1 bytes
  member ← number_at 2 kind.1
  Some ((kind.0, member.0), member.1)

-- what is after the tag of a method handle, of the type of a method, or of what an invokedynamic calls
unfoldable pub dynamic_after : ℕ → List ℕ → Option (Entry × List ℕ)
dynamic_after tag bytes =
    if tag == CONSTANT_MethodHandle then (handle_at bytes >>= λ handle. Some (entry.MethodHandle handle.0.0 handle.0.1, handle.1)) else
    if tag == CONSTANT_MethodType then (number_at 2 bytes >>= λ descriptor. Some (entry.MethodType descriptor.0, descriptor.1)) else
    if tag == CONSTANT_InvokeDynamic then (pair_at bytes >>= λ pair. Some (entry.InvokeDynamic pair.0.0 pair.0.1, pair.1)) else None

-- what is after a tag
unfoldable pub entry_after : ℕ → List ℕ → Option (Entry × List ℕ)
entry_after tag bytes =
    if tag == CONSTANT_Utf8 then (text_at bytes >>= λ text. Some (entry.Utf8 text.0, text.1)) else
    if tag == CONSTANT_Integer then (number_at 4 bytes >>= λ value. Some (entry.Integer (cast_signed w32 value.0), value.1)) else
    if tag == CONSTANT_Float then (number_at 4 bytes >>= λ bits. Some (entry.Float bits.0, bits.1)) else
    if tag == CONSTANT_Long then (number_at 8 bytes >>= λ value. Some (entry.Long (cast_signed w64 value.0), value.1)) else
    if tag == CONSTANT_Double then (number_at 8 bytes >>= λ bits. Some (entry.Double bits.0, bits.1)) else
    if tag == CONSTANT_Class then (number_at 2 bytes >>= λ name. Some (entry.Class name.0, name.1)) else
    if tag == CONSTANT_String then (number_at 2 bytes >>= λ text. Some (entry.Text text.0, text.1)) else
    if tag == CONSTANT_Fieldref then (pair_at bytes >>= λ pair. Some (entry.Field pair.0.0 pair.0.1, pair.1)) else
    if tag == CONSTANT_Methodref then (pair_at bytes >>= λ pair. Some (entry.Method pair.0.0 pair.0.1, pair.1)) else
    if tag == CONSTANT_InterfaceMethodref then (pair_at bytes >>= λ pair. Some (entry.InterfaceMethod pair.0.0 pair.0.1, pair.1)) else
    if tag == CONSTANT_NameAndType then (pair_at bytes >>= λ pair. Some (entry.NameAndType pair.0.0 pair.0.1, pair.1)) else
    dynamic_after tag bytes

unfoldable pub entry_at_front : List ℕ → Option (Entry × List ℕ)
entry_at_front bytes = do
  tag ← number_at 1 bytes
  entry_after tag.0 tag.1

-- ---- the pool

-- what is at the next index; the flag: whether nothing is due there
abbrev pub slot_at : Bool → List ℕ → Option (Entry × List ℕ)
slot_at true bytes = Some (entry.Second, bytes)
slot_at false bytes = entry_at_front bytes

-- what is at a given number of indices; what takes two may not be the last of them
unfoldable pub slots_at : Bool → ℕ → List ℕ → Option (List Entry × List ℕ)
slots_at due zero bytes = if due then None else Some ([], bytes)
slots_at due (suc count) bytes = do
  first ← slot_at due bytes
  others ← slots_at (takes_two first.0) count first.1
  Some (first.0 ∷ others.0, others.1)

-- the count is that of all indices, from 0 on, where nothing is spelled
unfoldable pub pool_at : List ℕ → Option (List Entry × List ℕ)
pool_at bytes = do
  count ← number_at 2 bytes
  slots_at true count.0 count.1
