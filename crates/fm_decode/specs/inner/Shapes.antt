-- What the shape of an instruction means.
use Rattle.std.specs.Prelude.{ℕ, ◌==◌, Bool, List, [], ◌∷◌, if◌then◌else◌}
use Rattle.std.specs.List.{list_any}
use Rattle.fm_code.specs.InstructionTable.{Reading, malformed, bare, byte, signed_byte, short, signed_short, jump, long_jump, left_out, increment, interface_call, array_of_arrays, new_array, wide, table_switch, lookup_switch, switch, reading_of}
use Rattle.fm_code.specs.declared.opcodes.TheConstants as opcodes
use Rattle.fm_code.specs.declared.instructions.Insn.{Insn}
use Rattle.fm_code.specs.declared.instructions.Insn.TheVariants as insn
use Rattle.fm_decode.specs.declared.shapes.InsnShape.{InsnShape}
use Rattle.fm_decode.specs.declared.shapes.InsnShape.TheVariants as shape
use Rattle.fm_decode.specs.declared.shapes.Indexed.{Indexed}
use Rattle.fm_decode.specs.declared.shapes.Indexed.TheVariants as indexed
use Rattle.fm_decode.specs.declared.shapes.JumpKind.{JumpKind}
use Rattle.fm_decode.specs.declared.shapes.JumpKind.TheVariants as branch

-- the instruction with an index
abbrev pub indexed_insn : Indexed → ℕ → Insn
indexed_insn indexed.LoadPool = insn.LoadPool
indexed_insn (indexed.Load kind) = insn.Load kind
indexed_insn (indexed.Store kind) = insn.Store kind
indexed_insn indexed.GetStatic = insn.GetStatic
indexed_insn indexed.PutStatic = insn.PutStatic
indexed_insn indexed.GetField = insn.GetField
indexed_insn indexed.PutField = insn.PutField
indexed_insn indexed.Virtual = insn.Virtual
indexed_insn indexed.Special = insn.Special
indexed_insn indexed.Static = insn.Static
indexed_insn indexed.New = insn.New
indexed_insn indexed.NewRefs = insn.NewRefs
indexed_insn indexed.Cast = insn.Cast
indexed_insn indexed.IsA = insn.IsA

-- the jump to a target
abbrev pub jump_insn : JumpKind → ℕ → Insn
jump_insn (branch.IfInt test) = insn.IfInt test
jump_insn (branch.IfPair test) = insn.IfPair test
jump_insn (branch.IfSame same) = insn.IfSame same
jump_insn (branch.IfNull null) = insn.IfNull null
jump_insn branch.Goto = insn.Goto

-- how the operands are read
abbrev pub shape_reading : InsnShape → Reading
shape_reading shape.Unknown = malformed
shape_reading (shape.Bare i) = bare i
shape_reading (shape.LeftOut opcode count) = left_out opcode count
shape_reading (shape.Byte i) = byte (indexed_insn i)
shape_reading (shape.Short i) = short (indexed_insn i)
shape_reading shape.SignedByte = signed_byte insn.Const
shape_reading shape.SignedShort = signed_short insn.Const
shape_reading shape.Increment = increment
shape_reading (shape.Jump b) = jump (jump_insn b)
shape_reading shape.LongJump = long_jump insn.Goto
shape_reading shape.InterfaceCall = interface_call
shape_reading shape.NewArray = new_array
shape_reading shape.ArrayOfArrays = array_of_arrays
shape_reading shape.Wide = wide
shape_reading shape.TableSwitch = switch table_switch
shape_reading shape.LookupSwitch = switch lookup_switch

-- ---- opcodes

abbrev pub is_among : List ℕ → ℕ → Bool
is_among opcodes opcode = list_any (λ listed. listed == opcode) opcodes

-- a listed opcode as in the table, and any other left out with nothing after it
abbrev pub listed_reading : List ℕ → ℕ → Reading
listed_reading listed opcode = if is_among listed opcode then reading_of opcode else left_out opcode 0

-- what puts a constant on the stack, and nop
abbrev pub constant_opcodes : List ℕ
constant_opcodes =
    opcodes.NOP ∷ opcodes.ACONST_NULL ∷ opcodes.ICONST_M1 ∷ opcodes.ICONST_0 ∷ opcodes.ICONST_1 ∷ opcodes.ICONST_2
    ∷ opcodes.ICONST_3 ∷ opcodes.ICONST_4 ∷ opcodes.ICONST_5 ∷ opcodes.LCONST_0 ∷ opcodes.LCONST_1 ∷ opcodes.BIPUSH
    ∷ opcodes.SIPUSH ∷ opcodes.LDC ∷ opcodes.LDC_W ∷ opcodes.LDC2_W ∷ []

-- what puts a local or an element of an array on the stack
abbrev pub load_opcodes : List ℕ
load_opcodes =
    opcodes.ILOAD ∷ opcodes.LLOAD ∷ opcodes.FLOAD ∷ opcodes.DLOAD ∷ opcodes.ALOAD ∷ opcodes.ILOAD_0 ∷ opcodes.ILOAD_1
    ∷ opcodes.ILOAD_2 ∷ opcodes.ILOAD_3 ∷ opcodes.LLOAD_0 ∷ opcodes.LLOAD_1 ∷ opcodes.LLOAD_2 ∷ opcodes.LLOAD_3
    ∷ opcodes.ALOAD_0 ∷ opcodes.ALOAD_1 ∷ opcodes.ALOAD_2 ∷ opcodes.ALOAD_3 ∷ opcodes.IALOAD ∷ opcodes.LALOAD
    ∷ opcodes.AALOAD ∷ opcodes.BALOAD ∷ opcodes.CALOAD ∷ opcodes.SALOAD ∷ []

-- what takes a value from the stack into a local or an element of an array, and what moves words on the stack
abbrev pub store_opcodes : List ℕ
store_opcodes =
    opcodes.ISTORE ∷ opcodes.LSTORE ∷ opcodes.FSTORE ∷ opcodes.DSTORE ∷ opcodes.ASTORE ∷ opcodes.ISTORE_0
    ∷ opcodes.ISTORE_1 ∷ opcodes.ISTORE_2 ∷ opcodes.ISTORE_3 ∷ opcodes.LSTORE_0 ∷ opcodes.LSTORE_1 ∷ opcodes.LSTORE_2
    ∷ opcodes.LSTORE_3 ∷ opcodes.ASTORE_0 ∷ opcodes.ASTORE_1 ∷ opcodes.ASTORE_2 ∷ opcodes.ASTORE_3 ∷ opcodes.IASTORE
    ∷ opcodes.LASTORE ∷ opcodes.AASTORE ∷ opcodes.BASTORE ∷ opcodes.CASTORE ∷ opcodes.SASTORE ∷ opcodes.POP
    ∷ opcodes.POP2 ∷ opcodes.DUP ∷ opcodes.DUP_X1 ∷ opcodes.DUP_X2 ∷ opcodes.DUP2 ∷ opcodes.DUP2_X1 ∷ opcodes.DUP2_X2
    ∷ opcodes.SWAP ∷ []

-- what computes with ints and longs
abbrev pub arithmetic_opcodes : List ℕ
arithmetic_opcodes =
    opcodes.IADD ∷ opcodes.LADD ∷ opcodes.ISUB ∷ opcodes.LSUB ∷ opcodes.IMUL ∷ opcodes.LMUL ∷ opcodes.IDIV
    ∷ opcodes.LDIV ∷ opcodes.IREM ∷ opcodes.LREM ∷ opcodes.INEG ∷ opcodes.LNEG ∷ opcodes.ISHL ∷ opcodes.LSHL
    ∷ opcodes.ISHR ∷ opcodes.LSHR ∷ opcodes.IUSHR ∷ opcodes.LUSHR ∷ opcodes.IAND ∷ opcodes.LAND ∷ opcodes.IOR
    ∷ opcodes.LOR ∷ opcodes.IXOR ∷ opcodes.LXOR ∷ []

-- iinc, and what converts or compares numbers
abbrev pub conversion_opcodes : List ℕ
conversion_opcodes =
    opcodes.IINC ∷ opcodes.I2L ∷ opcodes.L2I ∷ opcodes.I2B ∷ opcodes.I2C ∷ opcodes.I2S ∷ opcodes.LCMP ∷ []

-- what goes on elsewhere in the method, or leaves it
abbrev pub jump_opcodes : List ℕ
jump_opcodes =
    opcodes.IFEQ ∷ opcodes.IFNE ∷ opcodes.IFLT ∷ opcodes.IFGE ∷ opcodes.IFGT ∷ opcodes.IFLE ∷ opcodes.IF_ICMPEQ
    ∷ opcodes.IF_ICMPNE ∷ opcodes.IF_ICMPLT ∷ opcodes.IF_ICMPGE ∷ opcodes.IF_ICMPGT ∷ opcodes.IF_ICMPLE
    ∷ opcodes.IF_ACMPEQ ∷ opcodes.IF_ACMPNE ∷ opcodes.GOTO ∷ opcodes.JSR ∷ opcodes.RET ∷ opcodes.TABLESWITCH
    ∷ opcodes.LOOKUPSWITCH ∷ opcodes.IRETURN ∷ opcodes.LRETURN ∷ opcodes.ARETURN ∷ opcodes.RETURN ∷ []

-- what names a field, a method or a class, and the jumps and the wide forms after these
abbrev pub object_opcodes : List ℕ
object_opcodes =
    opcodes.GETSTATIC ∷ opcodes.PUTSTATIC ∷ opcodes.GETFIELD ∷ opcodes.PUTFIELD ∷ opcodes.INVOKEVIRTUAL
    ∷ opcodes.INVOKESPECIAL ∷ opcodes.INVOKESTATIC ∷ opcodes.INVOKEINTERFACE ∷ opcodes.INVOKEDYNAMIC ∷ opcodes.NEW
    ∷ opcodes.NEWARRAY ∷ opcodes.ANEWARRAY ∷ opcodes.ARRAYLENGTH ∷ opcodes.ATHROW ∷ opcodes.CHECKCAST
    ∷ opcodes.INSTANCEOF ∷ opcodes.WIDE ∷ opcodes.MULTIANEWARRAY ∷ opcodes.IFNULL ∷ opcodes.IFNONNULL ∷ opcodes.GOTO_W
    ∷ opcodes.JSR_W ∷ []
