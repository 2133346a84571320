-- Which indices of its pool a class uses, and what names are there.
use Rattle.std.specs.Prelude.{ℕ, ◌+◌, Bool, List, [], ◌∷◌, ◌++◌, map, length, Option, Some, None, option_map, option_and_then, nat_lt, if◌then◌else◌, filter}
use Rattle.std.specs.List.{flat_map, filter_map, range_with_len}
use Rattle.fm_base.specs.declared.kinds.Base.{Base}
use Rattle.fm_base.specs.declared.kinds.Base.TheVariants as base
use Rattle.fm_base.specs.declared.kinds.TypeRef.{TypeRef}
use Rattle.fm_code.specs.ConstantPool.{entry_at, class_name_at, MemberName, field_ref_at, method_ref_at, interface_method_ref_at}
use Rattle.fm_code.specs.Members.{code_of}
use Rattle.fm_code.specs.Operands.{pool_index}
use Rattle.fm_code.specs.declared.constant_pool.Entry.{Entry}
use Rattle.fm_code.specs.declared.constant_pool.Entry.TheVariants as entry
use Rattle.fm_code.specs.declared.class_file.ClassDef.{ClassDef}
use Rattle.fm_code.specs.declared.class_file.Member.{Member}
use Rattle.fm_code.specs.declared.class_file.MemberAttr.{MemberAttr}
use Rattle.fm_code.specs.declared.class_file.MemberAttr.TheVariants as attribute
use Rattle.fm_code.specs.declared.code_array.Code.{Code}
use Rattle.fm_code.specs.declared.code_array.Item.{Item}
use Rattle.fm_code.specs.declared.instructions.Insn.{Insn}
use Rattle.fm_code.specs.declared.instructions.Insn.TheVariants as insn
use Rattle.fm_code.specs.declared.operations.Elem.{Elem}
use Rattle.fm_code.specs.declared.operations.Elem.TheVariants as elem
use Rattle.fm_world.specs.Chains.{is_among}
use Rattle.fm_world.specs.declared.declarations.DeclaredClass.{DeclaredClass}
use Rattle.fm_world.specs.Descriptors.{class_type, type_in}

-- ---- the indices that are used

-- the items of a method
abbrev pub items_of : Member → List Item
items_of m = of_code (code_of m) where
  of_code : Option Code → List Item
  of_code None = []
  of_code (Some code) = code.items

-- the items of all methods of a class, in order
abbrev pub class_items : ClassDef → List Item
class_items c = flat_map items_of c.methods

-- the catch types of a method; 0 names none
abbrev pub caught_by : Member → List ℕ
caught_by m = of_code (code_of m) where
  of_code : Option Code → List ℕ
  of_code None = []
  of_code (Some code) = map (λ h. h.catch_class) code.handlers

-- the indices of a field's values, of a static field or not
abbrev pub values_of : Member → List ℕ
values_of m = filter_map value_of m.attributes where
  value_of : MemberAttr → Option ℕ
  value_of (attribute.Constant name value) = Some value
  value_of a = None

-- the indices that the class's own name, its superclass, its interfaces, its fields' values, its instructions and its catch types name; 0
-- names nothing
unfoldable pub used_indices : ClassDef → List ℕ
used_indices c =
    c.this_class
    ∷ c.super_class
    ∷ (c.interfaces ++ flat_map values_of c.fields ++ filter_map (λ item. pool_index item.insn) (class_items c) ++ flat_map caught_by c.methods)

-- whether a class file uses an index of its pool
abbrev pub is_used : ClassDef → ℕ → Bool
is_used c index = is_among index (used_indices c)

-- the indices of a class's pool
abbrev pub pool_indices : ClassDef → List ℕ
pool_indices c = range_with_len 0 (length c.pool.entries)

-- those that are used, each once, rising
abbrev pub uses_in_order : ClassDef → List ℕ
uses_in_order c = filter (is_used c) (pool_indices c)

-- ---- what is named there

-- the member that an entry names, of a class or of an interface
abbrev pub named_member : List Entry → ℕ → Option MemberName
named_member entries index = of_entry (entry_at entries index) where
  of_entry : Entry → Option MemberName
  of_entry (entry.Field class member) = field_ref_at entries index
  of_entry (entry.Method class member) = method_ref_at entries index
  of_entry (entry.InterfaceMethod class member) = interface_method_ref_at entries index
  of_entry e = None

-- the class or the array that an entry names, by itself or as the class of a member
abbrev pub named_class : List Entry → ℕ → Option (List ℕ)
named_class entries index = of_entry (entry_at entries index) where
  of_entry : Entry → Option (List ℕ)
  of_entry (entry.Class name) = class_name_at entries index
  of_entry e = option_map (λ m. m.class) (named_member entries index)

-- the type of that name
abbrev pub named_type : List DeclaredClass → List Entry → ℕ → Option TypeRef
named_type classes entries index = option_and_then (λ name. type_in classes (class_type name)) (named_class entries index)

-- ---- the arrays that instructions make

-- the array with one dimension more; an array has at most 255 (JVMS 4.9.1)
abbrev pub array_of : TypeRef → Option TypeRef
array_of t = if nat_lt t.dims 255 then Some (record { dims = t.dims + 1; base = t.base }) else None

-- the base of an array of numbers (JVMS 6.5.newarray)
abbrev pub base_of_elem : Elem → Option Base
base_of_elem elem.Boolean = Some base.Boolean
base_of_elem elem.Byte = Some base.Byte
base_of_elem elem.Char = Some base.Char
base_of_elem elem.Short = Some base.Short
base_of_elem elem.Int = Some base.Int
base_of_elem elem.Long = Some base.Long
base_of_elem elem.Ref = None

-- the array that an instruction makes, beside the one that a multianewarray names
abbrev pub made_array : List DeclaredClass → List Entry → Insn → Option TypeRef
made_array classes entries (insn.NewArray e) = option_map (λ b. record { dims = 1; base = b }) (base_of_elem e)
made_array classes entries (insn.NewRefs index) = option_and_then array_of (named_type classes entries index)
made_array classes entries i = None
