-- What the instructions name in the constant pool (JVMS 4.9.1).
use Rattle.std.specs.Prelude.{◌≡◌, ℕ, ◌+◌, ◌==◌, ◌⊎◌, Bool, true, false, List, Option, Some, None, IsSome, IsSomeAnd, slice_index, sum_by}
use Rattle.fm_code.specs.ConstantPool.{entry_at, class_name_at, field_ref_at, method_ref_at, interface_method_ref_at}
use Rattle.fm_code.specs.Names.{MethodType, IsMethodType, method_descriptor, words_of}
use Rattle.fm_code.specs.declared.opcodes.TheConstants.{LDC2_W}
use Rattle.fm_code.specs.declared.constant_pool.Entry.{Entry}
use Rattle.fm_code.specs.declared.constant_pool.Entry.TheVariants as entry
use Rattle.fm_code.specs.declared.code_array.Item.{Item}
use Rattle.fm_code.specs.declared.instructions.Insn.{Insn}
use Rattle.fm_code.specs.declared.instructions.Insn.TheVariants as insn

-- the index that an instruction names
abbrev pub pool_index : Insn → Option ℕ
pool_index (insn.LoadPool index) = Some index
pool_index (insn.GetStatic index) = Some index
pool_index (insn.PutStatic index) = Some index
pool_index (insn.GetField index) = Some index
pool_index (insn.PutField index) = Some index
pool_index (insn.Virtual index) = Some index
pool_index (insn.Special index) = Some index
pool_index (insn.Static index) = Some index
pool_index (insn.Interface index) = Some index
pool_index (insn.New index) = Some index
pool_index (insn.NewRefs index) = Some index
pool_index (insn.Cast index) = Some index
pool_index (insn.IsA index) = Some index
pool_index (insn.MultiArray index dimensions) = Some index
pool_index i = None

-- the first byte of an instruction
abbrev pub opcode_of : Item → ℕ
opcode_of item = slice_index item.bytes 0

-- the constants that ldc and ldc_w may name, and with true those of two words, that ldc2_w may name
abbrev pub IsConstant : Bool → Entry → Type 0
IsConstant false (entry.Integer value) = Unit {0}
IsConstant false (entry.Float bits) = Unit {0}
IsConstant false (entry.Class name) = Unit {0}
IsConstant false (entry.Text units) = Unit {0}
IsConstant false (entry.MethodHandle kind member) = Unit {0}
IsConstant false (entry.MethodType descriptor) = Unit {0}
IsConstant true (entry.Long value) = Unit {0}
IsConstant true (entry.Double bits) = Unit {0}
IsConstant two_words e = ⊥

-- the arguments of a method take `words` words, with one for the receiver
abbrev pub TakesWords : ℕ → List ℕ → Type 0
TakesWords words descriptor = (m : MethodType) × (IsMethodType m × ((descriptor ≡ method_descriptor m) × (words ≡ sum_by words_of m.parameters + 1)))

-- the byte after the index of invokeinterface: how many words its arguments take (JVMS 6.5.invokeinterface)
abbrev pub count_operand : Item → ℕ
count_operand item = slice_index item.bytes 3

-- a method of a class, or of an interface, is at the index (JVMS 6.5.invokespecial, 6.5.invokestatic)
abbrev pub IsAnyMethod : List Entry → ℕ → Type 0
IsAnyMethod entries index = IsSome (method_ref_at entries index) ⊎ IsSome (interface_method_ref_at entries index)

-- the entry that an instruction names has the instruction's tag; invokeinterface has besides how many words are taken
abbrev pub OperandIsValid : List Entry → Item → Type 0
OperandIsValid entries item = asked item.insn where
  asked : Insn → Type 0
  asked (insn.LoadPool index) = IsConstant (opcode_of item == LDC2_W) (entry_at entries index)
  asked (insn.GetStatic index) = IsSome (field_ref_at entries index)
  asked (insn.PutStatic index) = IsSome (field_ref_at entries index)
  asked (insn.GetField index) = IsSome (field_ref_at entries index)
  asked (insn.PutField index) = IsSome (field_ref_at entries index)
  asked (insn.Virtual index) = IsSome (method_ref_at entries index)
  asked (insn.Special index) = IsAnyMethod entries index
  asked (insn.Static index) = IsAnyMethod entries index
  asked (insn.Interface index) = IsSomeAnd (interface_method_ref_at entries index) (λ m. TakesWords (count_operand item) m.descriptor)
  asked (insn.New index) = IsSome (class_name_at entries index)
  asked (insn.NewRefs index) = IsSome (class_name_at entries index)
  asked (insn.Cast index) = IsSome (class_name_at entries index)
  asked (insn.IsA index) = IsSome (class_name_at entries index)
  asked (insn.MultiArray index dimensions) = IsSome (class_name_at entries index)
  asked i = Unit {0}
