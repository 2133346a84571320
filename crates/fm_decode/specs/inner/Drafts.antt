-- Instructions one after the other, with offsets for targets.
use Rattle.std.specs.Prelude.{◌≡◌, ℕ, ◌≤◌, List, length, take, Some}
use Rattle.std.specs.List.{flat_map, AllByRecursion}
use Rattle.fm_code.specs.ClassBytes.{item_bytes}
use Rattle.fm_code.specs.InstructionTable.{insn_at}
use Rattle.fm_code.specs.SpellsCode.{AreOffsets}
use Rattle.fm_code.specs.declared.instructions.Insn.{Insn}
use Rattle.fm_code.specs.declared.code_array.Item.{Item}
use Rattle.fm_decode.specs.declared.shapes.InsnShape.{InsnShape}
use Rattle.fm_decode.specs.declared.shapes.InsnShape.TheVariants as shape
use Rattle.fm_decode.specs.inner.Operands.{Found, plain_at}
use Rattle.fm_decode.specs.inner.Switches.{table_at, lookup_at}

-- the instruction of a shape, and how many operand bytes belong to it
abbrev pub shape_at : InsnShape → ℕ → List ℕ → Found
shape_at shape.TableSwitch = table_at
shape_at shape.LookupSwitch = lookup_at
shape_at s = plain_at s

-- a given number of the bytes at an offset spell an instruction
pub record BeginsWith (offset : ℕ) (bytes : List ℕ) (i : Insn) (count : ℕ) : Type 0 where
  pub within : count ≤ length bytes
  pub insn_is : insn_at offset (take count bytes) ≡ Some i

-- an item in front of the bytes at an offset, with offsets for targets
pub record IsFront (offset : ℕ) (bytes : List ℕ) (item : Item) : Type 0 where
  pub offset_is : item.offset ≡ offset
  pub bytes_are : item.bytes ≡ take (length item.bytes) bytes
  pub insn_is : insn_at offset item.bytes ≡ Some item.insn

abbrev pub IsRead : Item → Type 0
IsRead item = insn_at item.offset item.bytes ≡ Some item.insn

-- the bytes are these items one after the other, with offsets for targets
pub record AreDrafts (bytes : List ℕ) (drafts : List Item) : Type 0 where
  pub bytes_are : bytes ≡ flat_map item_bytes drafts
  pub offsets : AreOffsets 0 drafts
  pub insns : AllByRecursion IsRead drafts
