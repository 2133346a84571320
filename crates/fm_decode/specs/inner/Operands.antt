-- The instructions other than switches, from what follows their opcodes, each with the number of the bytes that belong to it.
use Rattle.std.specs.Prelude.{ℕ, zero, suc, ◌==◌, nat_le, List, [], ◌∷◌, length, Option, Some, None, pos, ◌+ℤ◌, if◌then◌else◌}
use Rattle.std.specs.List.{slice_index_or}
use Rattle.std.specs.Option.{option_map}
use Rattle.fm_code.specs.Numbers.{signed_one, number_of_two, signed_two, signed_four_of}
use Rattle.fm_code.specs.InstructionTable.{new_array_of, offset_from, wide_local}
use Rattle.fm_code.specs.declared.opcodes.TheConstants as opcodes
use Rattle.fm_code.specs.declared.instructions.Insn.{Insn}
use Rattle.fm_code.specs.declared.instructions.Insn.TheVariants as insn
use Rattle.fm_decode.specs.declared.shapes.InsnShape.{InsnShape}
use Rattle.fm_decode.specs.declared.shapes.InsnShape.TheVariants as shape
use Rattle.fm_decode.specs.inner.Gives.{◌>>=◌}
use Rattle.fm_decode.specs.inner.Shapes.{indexed_insn, jump_insn}

abbrev pub one_of : List ℕ → Option ℕ
one_of [] = None
one_of (a ∷ rest) = Some a

abbrev pub two_of : List ℕ → Option (ℕ × ℕ)
two_of [] = None
two_of (a ∷ []) = None
two_of (a ∷ b ∷ rest) = Some (a, b)

abbrev pub four_of : List ℕ → Option (ℕ × ℕ × ℕ × ℕ)
four_of (a ∷ b ∷ c ∷ d ∷ rest) = Some (a, b, c, d)
four_of bytes = None

-- an instruction and the number of its operand bytes
abbrev pub Found : Type 0
Found = Option (Insn × ℕ)

abbrev pub left_out_at : ℕ → ℕ → List ℕ → Found
left_out_at opcode count operands = if nat_le count (length operands) then Some (insn.LeftOut opcode, count) else None

abbrev pub interface_call_at : List ℕ → Found
interface_call_at (a ∷ b ∷ c ∷ zero ∷ rest) = Some (insn.Interface (number_of_two a b), 4)
interface_call_at operands = None

abbrev pub array_of_arrays_at : List ℕ → Found
array_of_arrays_at (a ∷ b ∷ suc n ∷ rest) = Some (insn.MultiArray (number_of_two a b) (suc n), 3)
array_of_arrays_at operands = None

abbrev pub wide_local_at : ℕ → ℕ → Found
wide_local_at opcode local = option_map {U = Insn × ℕ} (λ i. (i, 3)) (wide_local opcode local)

abbrev pub wide_at : List ℕ → Found
wide_at (opcode ∷ a ∷ b ∷ c ∷ d ∷ rest) =
    if opcode == opcodes.IINC then Some (insn.Inc (number_of_two a b) (signed_two c d), 5) else wide_local_at opcode (number_of_two a b)
wide_at (opcode ∷ a ∷ b ∷ rest) = wide_local_at opcode (number_of_two a b)
wide_at operands = None

-- the shapes that few instructions have
unfoldable pub long_at : InsnShape → ℕ → List ℕ → Found
long_at shape.LongJump offset operands = do
  four ← four_of operands
  target ← offset_from (pos offset +ℤ signed_four_of four.0 four.1 four.2 four.3)
  Some (insn.Goto target, 4)
long_at shape.InterfaceCall offset operands = interface_call_at operands
long_at shape.NewArray offset operands = do
  kind ← one_of operands
  i ← slice_index_or new_array_of kind None
  Some (i, 1)
long_at shape.ArrayOfArrays offset operands = array_of_arrays_at operands
long_at shape.Wide offset operands = wide_at operands
long_at other offset operands = None

unfoldable pub plain_at : InsnShape → ℕ → List ℕ → Found
plain_at (shape.Bare i) offset operands = Some (i, 0)
plain_at (shape.LeftOut opcode count) offset operands = left_out_at opcode count operands
plain_at (shape.Byte i) offset operands = do
  index ← one_of operands
  Some (indexed_insn i index, 1)
plain_at (shape.Short i) offset operands = do
  two ← two_of operands
  Some (indexed_insn i (number_of_two two.0 two.1), 2)
plain_at shape.SignedByte offset operands = do
  value ← one_of operands
  Some (insn.Const (signed_one value), 1)
plain_at shape.SignedShort offset operands = do
  two ← two_of operands
  Some (insn.Const (signed_two two.0 two.1), 2)
plain_at shape.Increment offset operands = do
  two ← two_of operands
  Some (insn.Inc two.0 (signed_one two.1), 2)
plain_at (shape.Jump b) offset operands = do
  two ← two_of operands
  target ← offset_from (pos offset +ℤ signed_two two.0 two.1)
  Some (jump_insn b target, 2)
plain_at other offset operands = long_at other offset operands
