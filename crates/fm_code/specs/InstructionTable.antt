-- What the bytes of an instruction mean: one row for each opcode (JVMS 6.5).
-- An instruction is read at an offset, and its targets are read as the offsets that they have.
use Rattle.std.specs.Prelude.{ℕ, zero, suc, map, ◌-◌, ◌%◌, ◌==◌, ◌||◌, ◌&&◌, Bool, true, false, nat_lt, List, [], ◌∷◌, ◌++◌, length, drop, Option, Some, None, option_and_then, ℤ, pos, negsuc, if◌then◌else◌, ◌+ℤ◌, ◌-ℤ◌, int_lt, int_le}
use Rattle.std.specs.List.{slice_index_or}
use Rattle.std.specs.Option.{option_map}
use Rattle.fm_code.specs.Numbers.{signed_one, number_of_two, signed_two, signed_four_of}
use Rattle.fm_code.specs.declared.opcodes.TheConstants as opcodes
use Rattle.fm_code.specs.declared.operations.Reg.TheVariants as reg
use Rattle.fm_code.specs.declared.operations.Elem.TheVariants as elem
use Rattle.fm_code.specs.declared.operations.Test.TheVariants as test
use Rattle.fm_code.specs.declared.operations.Op.TheVariants as op
use Rattle.fm_code.specs.declared.operations.Shift.TheVariants as shift
use Rattle.fm_code.specs.declared.operations.Conv.TheVariants as conv
use Rattle.fm_code.specs.declared.instructions.Insn.{Insn}
use Rattle.fm_code.specs.declared.instructions.Insn.TheVariants as insn

-- what an opcode's operands mean at the instruction's offset, or None where they are malformed
abbrev pub Reading : Type 0
Reading = ℕ → List ℕ → Option Insn

-- no operands are right
abbrev pub malformed : Reading
malformed offset operands = None

-- no operands
abbrev pub bare : Insn → Reading
bare i offset [] = Some i
bare i offset (a ∷ rest) = None

-- one byte, unsigned or signed
abbrev pub byte : (ℕ → Insn) → Reading
byte f offset [] = None
byte f offset (a ∷ []) = Some (f a)
byte f offset (a ∷ b ∷ rest) = None

-- one byte as a signed number
abbrev pub signed_byte : (ℤ → Insn) → Reading
signed_byte f = byte (λ a. f (signed_one a))

-- two bytes
abbrev pub two_bytes : (ℕ → ℕ → Option Insn) → Reading
two_bytes f offset [] = None
two_bytes f offset (a ∷ []) = None
two_bytes f offset (a ∷ b ∷ []) = f a b
two_bytes f offset (a ∷ b ∷ c ∷ rest) = None

-- two bytes as one number
abbrev pub short : (ℕ → Insn) → Reading
short f = two_bytes (λ a b. Some (f (number_of_two a b)))

-- two bytes as a signed number
abbrev pub signed_short : (ℤ → Insn) → Reading
signed_short f = two_bytes (λ a b. Some (f (signed_two a b)))

-- the offset at a distance from an offset, if it isn't below 0
abbrev pub jump_to : (ℕ → Insn) → ℤ → Option Insn
jump_to f (pos target) = Some (f target)
jump_to f (negsuc n) = None

-- a jump over two signed bytes
abbrev pub jump : (ℕ → Insn) → Reading
jump f offset = two_bytes (λ a b. jump_to f (pos offset +ℤ signed_two a b)) offset

-- a jump over four signed bytes
abbrev pub long_jump : (ℕ → Insn) → Reading
long_jump f offset (a ∷ b ∷ c ∷ d ∷ []) = jump_to f (pos offset +ℤ signed_four_of a b c d)
long_jump f offset operands = None

-- a given number of operand bytes of an instruction that is left out
abbrev pub left_out : ℕ → ℕ → Reading
left_out opcode count offset operands = if length operands == count then Some (insn.LeftOut opcode) else None

-- iinc: a local and a signed byte
abbrev pub increment : Reading
increment = λ offset operands. two_bytes (λ a b. Some (insn.Inc a (signed_one b))) offset operands

-- invokeinterface: an index, a count and a byte 0
abbrev pub interface_call : Reading
interface_call offset (a ∷ b ∷ count ∷ zero ∷ []) = Some (insn.Interface (number_of_two a b))
interface_call offset operands = None

-- multianewarray: an index and at least one dimension
abbrev pub array_of_arrays : Reading
array_of_arrays offset (a ∷ b ∷ suc dimensions ∷ []) = Some (insn.MultiArray (number_of_two a b) (suc dimensions))
array_of_arrays offset operands = None

-- newarray: 4 boolean, 5 char, 8 byte, 9 short, 10 int, 11 long; arrays of floats (6) and doubles (7) are left out
abbrev pub new_array_of : List (Option Insn)
new_array_of =
    None ∷ None ∷ None ∷ None ∷ Some (insn.NewArray elem.Boolean) ∷ Some (insn.NewArray elem.Char) ∷ Some (insn.LeftOut opcodes.NEWARRAY) ∷ Some (insn.LeftOut opcodes.NEWARRAY)
    ∷ Some (insn.NewArray elem.Byte) ∷ Some (insn.NewArray elem.Short) ∷ Some (insn.NewArray elem.Int) ∷ Some (insn.NewArray elem.Long) ∷ []

-- newarray: the code of the element type
abbrev pub new_array : Reading
new_array offset [] = None
new_array offset (kind ∷ []) = slice_index_or new_array_of kind None
new_array offset (a ∷ b ∷ rest) = None

-- wide: a load or a store of a local above 255, or an iinc with two bytes each; of floats and doubles, and ret, it is left out
abbrev pub wide_local : ℕ → ℕ → Option Insn
wide_local opcode index =
    if opcode == opcodes.ILOAD then Some (insn.Load reg.Int index) else
    if opcode == opcodes.LLOAD then Some (insn.Load reg.Long index) else
    if opcode == opcodes.ALOAD then Some (insn.Load reg.Ref index) else
    if opcode == opcodes.ISTORE then Some (insn.Store reg.Int index) else
    if opcode == opcodes.LSTORE then Some (insn.Store reg.Long index) else
    if opcode == opcodes.ASTORE then Some (insn.Store reg.Ref index) else
    if (opcode == opcodes.FLOAD) || (opcode == opcodes.DLOAD) || (opcode == opcodes.FSTORE) || (opcode == opcodes.DSTORE) || (opcode == opcodes.RET) then Some (insn.LeftOut opcodes.WIDE) else None

-- wide, by the opcode that follows it
abbrev pub wide : Reading
wide offset (opcode ∷ a ∷ b ∷ []) = wide_local opcode (number_of_two a b)
wide offset (opcode ∷ a ∷ b ∷ c ∷ d ∷ []) = if opcode == opcodes.IINC then Some (insn.Inc (number_of_two a b) (signed_two c d)) else None
wide offset operands = None

-- how many bytes are between the opcode of a switch and the next multiple of four
abbrev pub padding_at : ℕ → ℕ
padding_at offset = 3 - offset % 4

-- the signed numbers of four bytes each; None where the last one is cut
abbrev pub signed_fours : List ℕ → Option (List ℤ)
signed_fours [] = Some []
signed_fours (a ∷ []) = None
signed_fours (a ∷ b ∷ []) = None
signed_fours (a ∷ b ∷ c ∷ []) = None
signed_fours (a ∷ b ∷ c ∷ d ∷ rest) = option_map (λ zs. signed_four_of a b c d ∷ zs) (signed_fours rest)

-- the offset that a number is; None where it is below 0
abbrev pub offset_from : ℤ → Option ℕ
offset_from (pos target) = Some target
offset_from (negsuc n) = None

-- the offsets at these distances from an offset; None where one is below 0
abbrev pub offsets_from : ℕ → List ℤ → Option (List ℕ)
offsets_from offset [] = Some []
offsets_from offset (z ∷ zs) =
    option_and_then (λ target. option_map (λ targets. target ∷ targets) (offsets_from offset zs)) (offset_from (pos offset +ℤ z))

-- whether a signed number is this natural one
abbrev pub is_number : ℤ → ℕ → Bool
is_number (pos n) k = n == k
is_number (negsuc n) k = false

-- tableswitch: the jump of other keys, the least and the greatest key, a jump for each key from the least to the greatest
abbrev pub table_switch : ℕ → List ℤ → Option Insn
table_switch offset (others ∷ low ∷ high ∷ jumps) =
    if int_le low high && is_number ((high -ℤ low) +ℤ pos 1) (length jumps)
    then option_and_then (λ other. option_map (λ targets. insn.Table low other targets) (offsets_from offset jumps)) (offset_from (pos offset +ℤ others))
    else None
table_switch offset numbers = None

-- each key is below the next
abbrev pub are_rising : List ℤ → Bool
are_rising [] = true
are_rising (key ∷ []) = true
are_rising (key ∷ next ∷ keys) = int_lt key next && are_rising (next ∷ keys)

-- the first and the second number of each pair; None where a number is left over
abbrev pub pairs_of : List ℤ → Option (List ℤ × List ℤ)
pairs_of [] = Some ([], [])
pairs_of (key ∷ []) = None
pairs_of (key ∷ jump ∷ rest) = option_map (λ p. (key ∷ p.0, jump ∷ p.1)) (pairs_of rest)

-- lookupswitch: the jump of other keys, the number of pairs, and pairs of a key and its jump with rising keys
abbrev pub lookup_switch : ℕ → List ℤ → Option Insn
lookup_switch offset (others ∷ count ∷ numbers) =
    option_and_then
    (λ p. if is_number count (length p.0) && are_rising p.0
    then option_and_then (λ other. option_map (λ targets. insn.Lookup other p.0 targets) (offsets_from offset p.1)) (offset_from (pos offset +ℤ others))
    else None)
    (pairs_of numbers)
lookup_switch offset numbers = None

-- a switch: padding, whose bytes may be anything, and numbers of four bytes
abbrev pub switch : (ℕ → List ℤ → Option Insn) → Reading
switch f offset operands =
    if nat_lt (length operands) (padding_at offset) then None else option_and_then (f offset) (signed_fours (drop (padding_at offset) operands))

-- a row of the table: an opcode, and what its operands mean
abbrev pub Row : Type 0
Row = ℕ × Reading

-- the row of an instruction that is left out, with a given number of operand bytes
abbrev pub left_out_row : ℕ → ℕ → Row
left_out_row opcode count = (opcode, left_out opcode count)

-- the opcodes from nop to saload
abbrev pub constants_and_loads : List Row
constants_and_loads =
    (opcodes.NOP, bare insn.Nop)
    ∷ (opcodes.ACONST_NULL, bare insn.Null)
    ∷ (opcodes.ICONST_M1, bare (insn.Const (negsuc 0)))
    ∷ (opcodes.ICONST_0, bare (insn.Const (pos 0)))
    ∷ (opcodes.ICONST_1, bare (insn.Const (pos 1)))
    ∷ (opcodes.ICONST_2, bare (insn.Const (pos 2)))
    ∷ (opcodes.ICONST_3, bare (insn.Const (pos 3)))
    ∷ (opcodes.ICONST_4, bare (insn.Const (pos 4)))
    ∷ (opcodes.ICONST_5, bare (insn.Const (pos 5)))
    ∷ (opcodes.LCONST_0, bare (insn.LongConst (pos 0)))
    ∷ (opcodes.LCONST_1, bare (insn.LongConst (pos 1)))
    ∷ left_out_row opcodes.FCONST_0 0
    ∷ left_out_row opcodes.FCONST_1 0
    ∷ left_out_row opcodes.FCONST_2 0
    ∷ left_out_row opcodes.DCONST_0 0
    ∷ left_out_row opcodes.DCONST_1 0
    ∷ (opcodes.BIPUSH, signed_byte insn.Const)
    ∷ (opcodes.SIPUSH, signed_short insn.Const)
    ∷ (opcodes.LDC, byte insn.LoadPool)
    ∷ (opcodes.LDC_W, short insn.LoadPool)
    ∷ (opcodes.LDC2_W, short insn.LoadPool)
    ∷ (opcodes.ILOAD, byte (insn.Load reg.Int))
    ∷ (opcodes.LLOAD, byte (insn.Load reg.Long))
    ∷ left_out_row opcodes.FLOAD 1
    ∷ left_out_row opcodes.DLOAD 1
    ∷ (opcodes.ALOAD, byte (insn.Load reg.Ref))
    ∷ (opcodes.ILOAD_0, bare (insn.Load reg.Int 0))
    ∷ (opcodes.ILOAD_1, bare (insn.Load reg.Int 1))
    ∷ (opcodes.ILOAD_2, bare (insn.Load reg.Int 2))
    ∷ (opcodes.ILOAD_3, bare (insn.Load reg.Int 3))
    ∷ (opcodes.LLOAD_0, bare (insn.Load reg.Long 0))
    ∷ (opcodes.LLOAD_1, bare (insn.Load reg.Long 1))
    ∷ (opcodes.LLOAD_2, bare (insn.Load reg.Long 2))
    ∷ (opcodes.LLOAD_3, bare (insn.Load reg.Long 3))
    ∷ left_out_row opcodes.FLOAD_0 0
    ∷ left_out_row opcodes.FLOAD_1 0
    ∷ left_out_row opcodes.FLOAD_2 0
    ∷ left_out_row opcodes.FLOAD_3 0
    ∷ left_out_row opcodes.DLOAD_0 0
    ∷ left_out_row opcodes.DLOAD_1 0
    ∷ left_out_row opcodes.DLOAD_2 0
    ∷ left_out_row opcodes.DLOAD_3 0
    ∷ (opcodes.ALOAD_0, bare (insn.Load reg.Ref 0))
    ∷ (opcodes.ALOAD_1, bare (insn.Load reg.Ref 1))
    ∷ (opcodes.ALOAD_2, bare (insn.Load reg.Ref 2))
    ∷ (opcodes.ALOAD_3, bare (insn.Load reg.Ref 3))
    ∷ (opcodes.IALOAD, bare (insn.ArrayLoad elem.Int))
    ∷ (opcodes.LALOAD, bare (insn.ArrayLoad elem.Long))
    ∷ left_out_row opcodes.FALOAD 0
    ∷ left_out_row opcodes.DALOAD 0
    ∷ (opcodes.AALOAD, bare (insn.ArrayLoad elem.Ref))
    ∷ (opcodes.BALOAD, bare (insn.ArrayLoad elem.Byte))
    ∷ (opcodes.CALOAD, bare (insn.ArrayLoad elem.Char))
    ∷ (opcodes.SALOAD, bare (insn.ArrayLoad elem.Short))
    ∷ []

-- the opcodes from istore to swap
abbrev pub stores_and_stack : List Row
stores_and_stack =
    (opcodes.ISTORE, byte (insn.Store reg.Int))
    ∷ (opcodes.LSTORE, byte (insn.Store reg.Long))
    ∷ left_out_row opcodes.FSTORE 1
    ∷ left_out_row opcodes.DSTORE 1
    ∷ (opcodes.ASTORE, byte (insn.Store reg.Ref))
    ∷ (opcodes.ISTORE_0, bare (insn.Store reg.Int 0))
    ∷ (opcodes.ISTORE_1, bare (insn.Store reg.Int 1))
    ∷ (opcodes.ISTORE_2, bare (insn.Store reg.Int 2))
    ∷ (opcodes.ISTORE_3, bare (insn.Store reg.Int 3))
    ∷ (opcodes.LSTORE_0, bare (insn.Store reg.Long 0))
    ∷ (opcodes.LSTORE_1, bare (insn.Store reg.Long 1))
    ∷ (opcodes.LSTORE_2, bare (insn.Store reg.Long 2))
    ∷ (opcodes.LSTORE_3, bare (insn.Store reg.Long 3))
    ∷ left_out_row opcodes.FSTORE_0 0
    ∷ left_out_row opcodes.FSTORE_1 0
    ∷ left_out_row opcodes.FSTORE_2 0
    ∷ left_out_row opcodes.FSTORE_3 0
    ∷ left_out_row opcodes.DSTORE_0 0
    ∷ left_out_row opcodes.DSTORE_1 0
    ∷ left_out_row opcodes.DSTORE_2 0
    ∷ left_out_row opcodes.DSTORE_3 0
    ∷ (opcodes.ASTORE_0, bare (insn.Store reg.Ref 0))
    ∷ (opcodes.ASTORE_1, bare (insn.Store reg.Ref 1))
    ∷ (opcodes.ASTORE_2, bare (insn.Store reg.Ref 2))
    ∷ (opcodes.ASTORE_3, bare (insn.Store reg.Ref 3))
    ∷ (opcodes.IASTORE, bare (insn.ArrayStore elem.Int))
    ∷ (opcodes.LASTORE, bare (insn.ArrayStore elem.Long))
    ∷ left_out_row opcodes.FASTORE 0
    ∷ left_out_row opcodes.DASTORE 0
    ∷ (opcodes.AASTORE, bare (insn.ArrayStore elem.Ref))
    ∷ (opcodes.BASTORE, bare (insn.ArrayStore elem.Byte))
    ∷ (opcodes.CASTORE, bare (insn.ArrayStore elem.Char))
    ∷ (opcodes.SASTORE, bare (insn.ArrayStore elem.Short))
    ∷ (opcodes.POP, bare insn.Pop)
    ∷ (opcodes.POP2, bare insn.Pop2)
    ∷ (opcodes.DUP, bare insn.Dup)
    ∷ (opcodes.DUP_X1, bare insn.DupX1)
    ∷ (opcodes.DUP_X2, bare insn.DupX2)
    ∷ (opcodes.DUP2, bare insn.Dup2)
    ∷ (opcodes.DUP2_X1, bare insn.Dup2X1)
    ∷ (opcodes.DUP2_X2, bare insn.Dup2X2)
    ∷ (opcodes.SWAP, bare insn.Swap)
    ∷ []

-- the opcodes from iadd to dcmpg
abbrev pub arithmetic : List Row
arithmetic =
    (opcodes.IADD, bare (insn.IntOp op.Add))
    ∷ (opcodes.LADD, bare (insn.LongOp op.Add))
    ∷ left_out_row opcodes.FADD 0
    ∷ left_out_row opcodes.DADD 0
    ∷ (opcodes.ISUB, bare (insn.IntOp op.Sub))
    ∷ (opcodes.LSUB, bare (insn.LongOp op.Sub))
    ∷ left_out_row opcodes.FSUB 0
    ∷ left_out_row opcodes.DSUB 0
    ∷ (opcodes.IMUL, bare (insn.IntOp op.Mul))
    ∷ (opcodes.LMUL, bare (insn.LongOp op.Mul))
    ∷ left_out_row opcodes.FMUL 0
    ∷ left_out_row opcodes.DMUL 0
    ∷ (opcodes.IDIV, bare (insn.IntOp op.Div))
    ∷ (opcodes.LDIV, bare (insn.LongOp op.Div))
    ∷ left_out_row opcodes.FDIV 0
    ∷ left_out_row opcodes.DDIV 0
    ∷ (opcodes.IREM, bare (insn.IntOp op.Rem))
    ∷ (opcodes.LREM, bare (insn.LongOp op.Rem))
    ∷ left_out_row opcodes.FREM 0
    ∷ left_out_row opcodes.DREM 0
    ∷ (opcodes.INEG, bare insn.IntNeg)
    ∷ (opcodes.LNEG, bare insn.LongNeg)
    ∷ left_out_row opcodes.FNEG 0
    ∷ left_out_row opcodes.DNEG 0
    ∷ (opcodes.ISHL, bare (insn.IntShift shift.Left))
    ∷ (opcodes.LSHL, bare (insn.LongShift shift.Left))
    ∷ (opcodes.ISHR, bare (insn.IntShift shift.Right))
    ∷ (opcodes.LSHR, bare (insn.LongShift shift.Right))
    ∷ (opcodes.IUSHR, bare (insn.IntShift shift.RightZero))
    ∷ (opcodes.LUSHR, bare (insn.LongShift shift.RightZero))
    ∷ (opcodes.IAND, bare (insn.IntOp op.And))
    ∷ (opcodes.LAND, bare (insn.LongOp op.And))
    ∷ (opcodes.IOR, bare (insn.IntOp op.Or))
    ∷ (opcodes.LOR, bare (insn.LongOp op.Or))
    ∷ (opcodes.IXOR, bare (insn.IntOp op.Xor))
    ∷ (opcodes.LXOR, bare (insn.LongOp op.Xor))
    ∷ (opcodes.IINC, increment)
    ∷ (opcodes.I2L, bare (insn.Convert conv.IntToLong))
    ∷ left_out_row opcodes.I2F 0
    ∷ left_out_row opcodes.I2D 0
    ∷ (opcodes.L2I, bare (insn.Convert conv.LongToInt))
    ∷ left_out_row opcodes.L2F 0
    ∷ left_out_row opcodes.L2D 0
    ∷ left_out_row opcodes.F2I 0
    ∷ left_out_row opcodes.F2L 0
    ∷ left_out_row opcodes.F2D 0
    ∷ left_out_row opcodes.D2I 0
    ∷ left_out_row opcodes.D2L 0
    ∷ left_out_row opcodes.D2F 0
    ∷ (opcodes.I2B, bare (insn.Convert conv.IntToByte))
    ∷ (opcodes.I2C, bare (insn.Convert conv.IntToChar))
    ∷ (opcodes.I2S, bare (insn.Convert conv.IntToShort))
    ∷ (opcodes.LCMP, bare insn.LongCompare)
    ∷ left_out_row opcodes.FCMPL 0
    ∷ left_out_row opcodes.FCMPG 0
    ∷ left_out_row opcodes.DCMPL 0
    ∷ left_out_row opcodes.DCMPG 0
    ∷ []

-- the opcodes from ifeq on
abbrev pub control_and_objects : List Row
control_and_objects =
    (opcodes.IFEQ, jump (insn.IfInt test.Eq))
    ∷ (opcodes.IFNE, jump (insn.IfInt test.Ne))
    ∷ (opcodes.IFLT, jump (insn.IfInt test.Lt))
    ∷ (opcodes.IFGE, jump (insn.IfInt test.Ge))
    ∷ (opcodes.IFGT, jump (insn.IfInt test.Gt))
    ∷ (opcodes.IFLE, jump (insn.IfInt test.Le))
    ∷ (opcodes.IF_ICMPEQ, jump (insn.IfPair test.Eq))
    ∷ (opcodes.IF_ICMPNE, jump (insn.IfPair test.Ne))
    ∷ (opcodes.IF_ICMPLT, jump (insn.IfPair test.Lt))
    ∷ (opcodes.IF_ICMPGE, jump (insn.IfPair test.Ge))
    ∷ (opcodes.IF_ICMPGT, jump (insn.IfPair test.Gt))
    ∷ (opcodes.IF_ICMPLE, jump (insn.IfPair test.Le))
    ∷ (opcodes.IF_ACMPEQ, jump (insn.IfSame true))
    ∷ (opcodes.IF_ACMPNE, jump (insn.IfSame false))
    ∷ (opcodes.GOTO, jump insn.Goto)
    ∷ left_out_row opcodes.JSR 2
    ∷ left_out_row opcodes.RET 1
    ∷ (opcodes.TABLESWITCH, switch table_switch)
    ∷ (opcodes.LOOKUPSWITCH, switch lookup_switch)
    ∷ (opcodes.IRETURN, bare (insn.Return (Some reg.Int)))
    ∷ (opcodes.LRETURN, bare (insn.Return (Some reg.Long)))
    ∷ left_out_row opcodes.FRETURN 0
    ∷ left_out_row opcodes.DRETURN 0
    ∷ (opcodes.ARETURN, bare (insn.Return (Some reg.Ref)))
    ∷ (opcodes.RETURN, bare (insn.Return None))
    ∷ (opcodes.GETSTATIC, short insn.GetStatic)
    ∷ (opcodes.PUTSTATIC, short insn.PutStatic)
    ∷ (opcodes.GETFIELD, short insn.GetField)
    ∷ (opcodes.PUTFIELD, short insn.PutField)
    ∷ (opcodes.INVOKEVIRTUAL, short insn.Virtual)
    ∷ (opcodes.INVOKESPECIAL, short insn.Special)
    ∷ (opcodes.INVOKESTATIC, short insn.Static)
    ∷ (opcodes.INVOKEINTERFACE, interface_call)
    ∷ left_out_row opcodes.INVOKEDYNAMIC 4
    ∷ (opcodes.NEW, short insn.New)
    ∷ (opcodes.NEWARRAY, new_array)
    ∷ (opcodes.ANEWARRAY, short insn.NewRefs)
    ∷ (opcodes.ARRAYLENGTH, bare insn.Length)
    ∷ (opcodes.ATHROW, bare insn.Throw)
    ∷ (opcodes.CHECKCAST, short insn.Cast)
    ∷ (opcodes.INSTANCEOF, short insn.IsA)
    ∷ left_out_row opcodes.MONITORENTER 0
    ∷ left_out_row opcodes.MONITOREXIT 0
    ∷ (opcodes.WIDE, wide)
    ∷ (opcodes.MULTIANEWARRAY, array_of_arrays)
    ∷ (opcodes.IFNULL, jump (insn.IfNull true))
    ∷ (opcodes.IFNONNULL, jump (insn.IfNull false))
    ∷ (opcodes.GOTO_W, long_jump insn.Goto)
    ∷ left_out_row opcodes.JSR_W 4
    ∷ []

-- each opcode up to the last one, in order (law_opcodes)
abbrev pub rows : List Row
rows = ((constants_and_loads ++ stores_and_stack) ++ arithmetic) ++ control_and_objects

-- what the operands of an opcode mean; they are malformed after the last row
abbrev pub reading_of : ℕ → Reading
reading_of opcode = slice_index_or (map (λ (row : Row). row.1) rows) opcode malformed

-- the instruction that the bytes spell at an offset, with offsets for targets
unfoldable pub insn_at : ℕ → List ℕ → Option Insn
insn_at offset [] = None
insn_at offset (opcode ∷ operands) = (reading_of opcode) offset operands
