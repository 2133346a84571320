-- How inserted items, branches and moved items are spelled (JVMS 6.5).
use Rattle.std.specs.Prelude.{ℕ, ◌+◌, ◌%◌, ◌==◌, Bool, true, false, nat_lt, List, [], ◌∷◌, ◌++◌, take, drop, Option, Some, None, option_and_then, slice_get, slice_index, ℤ, pos, ◌-ℤ◌, if◌then◌else◌}
use Rattle.std.specs.Int.{w32, cast_unsigned}
use Rattle.std.specs.List.{flat_map}
use Rattle.fm_code.specs.InstructionTable.{padding_at}
use Rattle.fm_code.specs.Numbers.{two, signed_four}
use Rattle.fm_code.specs.Operands.{opcode_of}
use Rattle.fm_code.specs.declared.opcodes.TheConstants as opcodes
use Rattle.fm_code.specs.declared.operations.Reg.TheVariants as reg
use Rattle.fm_code.specs.declared.operations.Test.{Test}
use Rattle.fm_code.specs.declared.operations.Test.TheVariants as test
use Rattle.fm_code.specs.declared.instructions.Insn.{Insn}
use Rattle.fm_code.specs.declared.instructions.Insn.TheVariants as insn
use Rattle.fm_code.specs.declared.code_array.Item.{Item}
use Rattle.fm_layout.specs.declared.new_items.NewItem.{NewItem}
use Rattle.fm_layout.specs.declared.rooms.Condition.{Condition}
use Rattle.fm_layout.specs.declared.rooms.Condition.TheVariants as condition

-- ---- inserted items

-- a load or a store of a local: one byte for the locals 0 to 3, two bytes up to 255, else four with wide
abbrev pub local_bytes : ℕ → ℕ → ℕ → List ℕ
local_bytes first opcode local =
    if nat_lt local 4 then (first + local) ∷ [] else
    if nat_lt local 256 then opcode ∷ local ∷ [] else opcodes.WIDE ∷ opcode ∷ two local

-- the shortest bytes of an instruction that is inserted
abbrev pub inserted_bytes : Insn → List ℕ
inserted_bytes insn.Null = opcodes.ACONST_NULL ∷ []
inserted_bytes insn.Dup = opcodes.DUP ∷ []
inserted_bytes (insn.Load reg.Ref local) = local_bytes opcodes.ALOAD_0 opcodes.ALOAD local
inserted_bytes (insn.Store reg.Ref local) = local_bytes opcodes.ASTORE_0 opcodes.ASTORE local
inserted_bytes (insn.Static index) = opcodes.INVOKESTATIC ∷ two index
inserted_bytes i = []

-- ---- kept items

-- the old item that a new one keeps
abbrev pub kept_item : List Item → NewItem → Option Item
kept_item old new = option_and_then (λ k. slice_get old k) new.kept

-- the bytes of the old item, or those of the inserted one
abbrev pub plain_bytes : Option Item → Insn → List ℕ
plain_bytes (Some item) i = item.bytes
plain_bytes None i = inserted_bytes i

-- whether the old item is a goto_w
abbrev pub is_goto_w : Option Item → Bool
is_goto_w (Some item) = opcode_of item == opcodes.GOTO_W
is_goto_w None = false

-- ---- offsets

-- from one offset to another
abbrev pub distance : ℕ → ℕ → ℤ
distance from to = pos to -ℤ pos from

-- the low two bytes of a signed number
abbrev pub signed_short : ℤ → List ℕ
signed_short z = two (cast_unsigned w32 z % 65536)

-- a branch with its distance in two bytes
abbrev pub short_jump : ℕ → ℤ → List ℕ
short_jump opcode z = opcode ∷ signed_short z

-- a goto_w with its distance in four bytes
abbrev pub long_jump : ℤ → List ℕ
long_jump z = opcodes.GOTO_W ∷ signed_four z

-- ---- conditional branches

-- the opcodes of branches that compare an int with 0 (JVMS 6.5.if<cond>)
abbrev pub int_opcode : Test → ℕ
int_opcode test.Eq = opcodes.IFEQ
int_opcode test.Ne = opcodes.IFNE
int_opcode test.Lt = opcodes.IFLT
int_opcode test.Ge = opcodes.IFGE
int_opcode test.Gt = opcodes.IFGT
int_opcode test.Le = opcodes.IFLE

-- the opcodes of branches that compare two ints (JVMS 6.5.if_icmp<cond>)
abbrev pub pair_opcode : Test → ℕ
pair_opcode test.Eq = opcodes.IF_ICMPEQ
pair_opcode test.Ne = opcodes.IF_ICMPNE
pair_opcode test.Lt = opcodes.IF_ICMPLT
pair_opcode test.Ge = opcodes.IF_ICMPGE
pair_opcode test.Gt = opcodes.IF_ICMPGT
pair_opcode test.Le = opcodes.IF_ICMPLE

-- the opcode of the branch that is taken on a condition
abbrev pub opcode_of_condition : Condition → ℕ
opcode_of_condition (condition.Int t) = int_opcode t
opcode_of_condition (condition.Pair t) = pair_opcode t
opcode_of_condition (condition.Same true) = opcodes.IF_ACMPEQ
opcode_of_condition (condition.Same false) = opcodes.IF_ACMPNE
opcode_of_condition (condition.Null true) = opcodes.IFNULL
opcode_of_condition (condition.Null false) = opcodes.IFNONNULL

-- the branch that is taken on a condition
abbrev pub conditional : Condition → ℕ → Insn
conditional (condition.Int t) target = insn.IfInt t target
conditional (condition.Pair t) target = insn.IfPair t target
conditional (condition.Same same) target = insn.IfSame same target
conditional (condition.Null null) target = insn.IfNull null target

-- the test that holds exactly where the other one doesn't
abbrev pub opposite_test : Test → Test
opposite_test test.Eq = test.Ne
opposite_test test.Ne = test.Eq
opposite_test test.Lt = test.Ge
opposite_test test.Ge = test.Lt
opposite_test test.Gt = test.Le
opposite_test test.Le = test.Gt

-- the condition that holds exactly where the other one doesn't
abbrev pub opposite : Condition → Condition
opposite (condition.Int t) = condition.Int (opposite_test t)
opposite (condition.Pair t) = condition.Pair (opposite_test t)
opposite (condition.Same true) = condition.Same false
opposite (condition.Same false) = condition.Same true
opposite (condition.Null true) = condition.Null false
opposite (condition.Null false) = condition.Null true

-- ---- switches

-- a given number of bytes of an old item from one of them on
abbrev pub part_of : Option Item → ℕ → ℕ → List ℕ
part_of (Some item) from count = take count (drop from item.bytes)
part_of None from count = []

-- the padding of an old switch: what is between its opcode and the next multiple of four
abbrev pub old_padding : Option Item → List ℕ
old_padding (Some item) = part_of (Some item) 1 (padding_at item.offset)
old_padding None = []

-- the padding of a switch at a new offset begins with the first bytes of the old, as many as it has room for; further bytes are 0
abbrev pub new_padding : ℕ → Option Item → List ℕ
new_padding start kept = take (padding_at start) (old_padding kept ++ 0 ∷ 0 ∷ 0 ∷ [])

-- a given number of bytes of an old switch after its padding and the distance of other keys: the least and the greatest key of a tableswitch,
-- or the number of pairs of a lookupswitch
abbrev pub switch_head : Option Item → ℕ → List ℕ
switch_head (Some item) count = part_of (Some item) (5 + padding_at item.offset) count
switch_head None count = []

-- the distance to a target in four bytes, where each target starts at an offset of this list
abbrev pub jump_bytes : List ℕ → ℕ → ℕ → List ℕ
jump_bytes starts start target = signed_four (distance start (slice_index starts target))

-- keys, each with the distance of its target
abbrev pub pair_bytes : List ℕ → ℕ → List ℤ → List ℕ → List ℕ
pair_bytes starts start (key ∷ keys) (target ∷ targets) = signed_four key ++ (jump_bytes starts start target ++ pair_bytes starts start keys targets)
pair_bytes starts start keys targets = []

-- a tableswitch at an offset: its targets and its padding are new
abbrev pub table_bytes : List ℕ → ℕ → Option Item → ℕ → List ℕ → List ℕ
table_bytes starts start kept others targets =
    opcodes.TABLESWITCH ∷ (new_padding start kept ++ (jump_bytes starts start others ++ (switch_head kept 8 ++ flat_map (jump_bytes starts start) targets)))

-- a lookupswitch at an offset
abbrev pub lookup_bytes : List ℕ → ℕ → Option Item → ℕ → List ℤ → List ℕ → List ℕ
lookup_bytes starts start kept others keys targets =
    opcodes.LOOKUPSWITCH ∷ (new_padding start kept ++ (jump_bytes starts start others ++ (switch_head kept 4 ++ pair_bytes starts start keys targets)))

-- ---- other items

-- the bytes of an item at an offset that is no branch of two bytes: those of the old item, but for distances and padding
abbrev pub moved_bytes : List ℕ → ℕ → Option Item → Insn → List ℕ
moved_bytes starts start kept (insn.Goto target) = long_jump (distance start (slice_index starts target))
moved_bytes starts start kept (insn.Table low others targets) = table_bytes starts start kept others targets
moved_bytes starts start kept (insn.Lookup others keys targets) = lookup_bytes starts start kept others keys targets
moved_bytes starts start kept i = plain_bytes kept i
