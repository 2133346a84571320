-- The rules of a Code attribute (JVMS 4.7.3, 4.7.12 to 4.7.14, 4.9.1).
use Rattle.std.specs.Prelude.{◌≡◌, ◌≢◌, ℕ, ◌<◌, ◌≤◌, ◌⊎◌, true, false, List, length, codes, Some, IsSome, IsSomeAnd}
use Rattle.std.specs.List.{flat_map, AllByRecursion}
use Rattle.fm_code.specs.ClassBytes.{item_bytes}
use Rattle.fm_code.specs.SpellsCode.{SpellsCode, LocalsFit}
use Rattle.fm_code.specs.ConstantPool.{utf8_at, class_name_at}
use Rattle.fm_code.specs.Operands.{OperandIsValid}
use Rattle.fm_code.specs.declared.code_array.TheConstants.{MAX_CODE_BYTES}
use Rattle.fm_code.specs.declared.constant_pool.Entry.{Entry}
use Rattle.fm_code.specs.declared.code_array.Code.{Code}
use Rattle.fm_code.specs.declared.code_array.Item.{Item}
use Rattle.fm_code.specs.declared.code_array.Handler.{Handler}
use Rattle.fm_code.specs.declared.code_array.CodeAttr.{CodeAttr}
use Rattle.fm_code.specs.declared.code_array.CodeAttr.TheVariants as code_attribute
use Rattle.fm_code.specs.declared.code_array.Line.{Line}
use Rattle.fm_code.specs.declared.code_array.Var.{Var}

-- an entry of the exception table has a range of items, which may end with the code, and a handler among the items (JVMS 4.7.3)
pub record HandlerIsValid (entries : List Entry) (count : ℕ) (h : Handler) : Type 0 where
  pub not_empty : h.start < h.end
  pub end : h.end ≤ count
  pub handler : h.handler < count
  -- 0, for all that is thrown, or a class
  pub catch_class : (h.catch_class ≡ 0) ⊎ IsSome (class_name_at entries h.catch_class)

-- a variable's range may be empty, then at the code's end too; its name and its descriptor or signature are texts (JVMS 4.7.13, 4.7.14)
pub record VarIsValid (entries : List Entry) (count : ℕ) (v : Var) : Type 0 where
  pub start : v.start ≤ v.end
  pub end : v.end ≤ count
  pub name : IsSome (utf8_at entries v.name)
  pub kind : IsSome (utf8_at entries v.kind)

-- the attributes that are read, each under its name; others are kept as they are (JVMS 4.7.12 to 4.7.14)
abbrev pub CodeAttrIsValid : List Entry → ℕ → CodeAttr → Type 0
CodeAttrIsValid entries count (code_attribute.Lines name lines) =
    (utf8_at entries name ≡ Some (codes "LineNumberTable")) × AllByRecursion (λ (l : Line). l.item < count) lines
CodeAttrIsValid entries count (code_attribute.Vars name false vars) =
    (utf8_at entries name ≡ Some (codes "LocalVariableTable")) × AllByRecursion (VarIsValid entries count) vars
CodeAttrIsValid entries count (code_attribute.Vars name true vars) =
    (utf8_at entries name ≡ Some (codes "LocalVariableTypeTable")) × AllByRecursion (VarIsValid entries count) vars
CodeAttrIsValid entries count (code_attribute.Other raw) =
    IsSomeAnd (utf8_at entries raw.name) (λ name. (name ≢ codes "LineNumberTable") × (name ≢ codes "LocalVariableTable") × (name ≢ codes "LocalVariableTypeTable"))

-- what a Code attribute has to be (JVMS 4.7.3, 4.9.1)
pub record CodeIsValid (entries : List Entry) (code : Code) : Type 0 where
  -- the code array has at least one byte, and no more than it may have (JVMS 4.7.3)
  pub not_empty : 0 < code.length
  pub not_long : code.length ≤ MAX_CODE_BYTES
  pub measured : code.length ≡ length (flat_map item_bytes code.items)
  -- it is a list of instructions, with items for targets (JVMS 4.8)
  pub spelled : SpellsCode (flat_map item_bytes code.items) code.items
  -- locals lie within max_locals, and what is named in the pool has the right tag (JVMS 4.9.1)
  pub locals : AllByRecursion (λ (item : Item). LocalsFit code.max_locals item.insn) code.items
  pub operands : AllByRecursion (OperandIsValid entries) code.items
  pub handlers : AllByRecursion (HandlerIsValid entries (length code.items)) code.handlers
  pub attributes : AllByRecursion (CodeAttrIsValid entries (length code.items)) code.attributes
