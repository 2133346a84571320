-- The items of a code array that meet their rules.
use Rattle.std.specs.Prelude.{ℕ, List, IsSomeAnd}
use Rattle.std.specs.List.{AllByRecursion}
use Rattle.fm_code.specs.ConstantPool.{interface_method_ref_at}
use Rattle.fm_code.specs.Operands.{OperandIsValid, TakesWords, count_operand}
use Rattle.fm_code.specs.SpellsCode.{LocalsFit, SpellsCode}
use Rattle.fm_code.specs.declared.constant_pool.Entry.{Entry}
use Rattle.fm_code.specs.declared.code_array.Item.{Item}

-- the method of an interface at an index takes as many words as the item says
abbrev pub TakesCounted : List Entry → Item → ℕ → Type 0
TakesCounted entries item index = IsSomeAnd (interface_method_ref_at entries index) (λ m. TakesWords (count_operand item) m.descriptor)

-- an item whose locals lie below max_locals, and that names in the pool what it has to
pub record ItemIsValid (entries : List Entry) (max_locals : ℕ) (item : Item) : Type 0 where
  pub locals : LocalsFit max_locals item.insn
  pub operand : OperandIsValid entries item

-- the items that the bytes of a code array spell, each of which meets its rules
pub record AreItemsOf (entries : List Entry) (max_locals : ℕ) (code : List ℕ) (items : List Item) : Type 0 where
  pub spelled : SpellsCode code items
  pub valid : AllByRecursion (ItemIsValid entries max_locals) items
