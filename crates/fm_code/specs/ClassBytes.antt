-- The bytes of a class file, as a function of its record (JVMS 4.1 to 4.7).
use Rattle.std.specs.Prelude.{ℕ, suc, zero, ◌-◌, List, [], ◌∷◌, ◌++◌, length}
use Rattle.std.specs.List.{flat_map, concat}
use Rattle.fm_code.specs.Numbers.{two, four, eight, signed_four, signed_eight}
use Rattle.fm_code.specs.declared.constant_pool.TheConstants.{CONSTANT_Utf8, CONSTANT_Integer, CONSTANT_Float, CONSTANT_Long, CONSTANT_Double, CONSTANT_Class, CONSTANT_String, CONSTANT_Fieldref, CONSTANT_Methodref, CONSTANT_InterfaceMethodref, CONSTANT_NameAndType, CONSTANT_MethodHandle, CONSTANT_MethodType, CONSTANT_InvokeDynamic}
use Rattle.fm_code.specs.declared.constant_pool.Entry.{Entry}
use Rattle.fm_code.specs.declared.constant_pool.Entry.TheVariants as entry
use Rattle.fm_code.specs.declared.constant_pool.Pool.{Pool}
use Rattle.fm_code.specs.declared.class_file.ClassDef.{ClassDef}
use Rattle.fm_code.specs.declared.class_file.Member.{Member}
use Rattle.fm_code.specs.declared.class_file.MemberAttr.{MemberAttr}
use Rattle.fm_code.specs.declared.class_file.MemberAttr.TheVariants as attribute
use Rattle.fm_code.specs.declared.class_file.Raw.{Raw}
use Rattle.fm_code.specs.declared.code_array.Code.{Code}
use Rattle.fm_code.specs.declared.code_array.Item.{Item}
use Rattle.fm_code.specs.declared.code_array.Handler.{Handler}
use Rattle.fm_code.specs.declared.code_array.CodeAttr.{CodeAttr}
use Rattle.fm_code.specs.declared.code_array.CodeAttr.TheVariants as code_attribute
use Rattle.fm_code.specs.declared.code_array.Line.{Line}
use Rattle.fm_code.specs.declared.code_array.Var.{Var}

-- a list after its length in two bytes
abbrev pub counted : {X : Type 0} → (X → List ℕ) → List X → List ℕ
counted spell xs = two (length xs) ++ flat_map spell xs

-- ---- the constant pool (JVMS 4.4)

-- an entry: its tag (JVMS 4.4, table 4.4-A), and what the tag asks for
unfoldable pub entry_bytes : Entry → List ℕ
entry_bytes (entry.Utf8 name) = CONSTANT_Utf8 ∷ (two (length name) ++ name)
entry_bytes (entry.Integer value) = CONSTANT_Integer ∷ signed_four value
entry_bytes (entry.Float bits) = CONSTANT_Float ∷ four bits
entry_bytes (entry.Long value) = CONSTANT_Long ∷ signed_eight value
entry_bytes (entry.Double bits) = CONSTANT_Double ∷ eight bits
entry_bytes (entry.Class name) = CONSTANT_Class ∷ two name
entry_bytes (entry.Text units) = CONSTANT_String ∷ two units
entry_bytes (entry.Field class member) = CONSTANT_Fieldref ∷ (two class ++ two member)
entry_bytes (entry.Method class member) = CONSTANT_Methodref ∷ (two class ++ two member)
entry_bytes (entry.InterfaceMethod class member) = CONSTANT_InterfaceMethodref ∷ (two class ++ two member)
entry_bytes (entry.NameAndType name descriptor) = CONSTANT_NameAndType ∷ (two name ++ two descriptor)
entry_bytes (entry.MethodHandle kind member) = CONSTANT_MethodHandle ∷ kind ∷ two member
entry_bytes (entry.MethodType descriptor) = CONSTANT_MethodType ∷ two descriptor
entry_bytes (entry.InvokeDynamic bootstrap member) = CONSTANT_InvokeDynamic ∷ (two bootstrap ++ two member)
entry_bytes entry.Second = []

-- a constant pool, its count first (JVMS 4.1)
unfoldable pub pool_bytes : Pool → List ℕ
pool_bytes pool = counted entry_bytes pool.entries

-- ---- attributes (JVMS 4.7)

-- an attribute: its name, and its bytes after their number
abbrev pub attribute_bytes : ℕ → List ℕ → List ℕ
attribute_bytes name body = two name ++ (four (length body) ++ body)

-- an attribute that is kept as its bytes (JVMS 4.7)
unfoldable pub raw_bytes : Raw → List ℕ
raw_bytes raw = attribute_bytes raw.name raw.bytes

-- ---- code (JVMS 4.7.3, 4.7.12 to 4.7.14)

-- where an item begins, or the code's length after the last item
abbrev pub offset_in : List Item → ℕ → ℕ → ℕ
offset_in [] end index = end
offset_in (item ∷ items) end zero = item.offset
offset_in (item ∷ items) end (suc index) = offset_in items end index

-- where an item of the code begins, or the code ends
abbrev pub offset_of : Code → ℕ → ℕ
offset_of code index = offset_in code.items code.length index

-- the bytes of an item's instruction (JVMS 6.5)
abbrev pub item_bytes : Item → List ℕ
item_bytes item = item.bytes

-- an entry of an exception table (JVMS 4.7.3)
abbrev pub handler_bytes : Code → Handler → List ℕ
handler_bytes code h = concat (two (offset_of code h.start) ∷ two (offset_of code h.end) ∷ two (offset_of code h.handler) ∷ two h.catch_class ∷ [])

-- an entry of a LineNumberTable (JVMS 4.7.12)
abbrev pub line_bytes : Code → Line → List ℕ
line_bytes code l = two (offset_of code l.item) ++ two l.line

-- a variable's range is its first offset and its length
abbrev pub var_bytes : Code → Var → List ℕ
var_bytes code v =
    concat (two (offset_of code v.start) ∷ two (offset_of code v.end - offset_of code v.start) ∷ two v.name ∷ two v.kind ∷ two v.index ∷ [])

-- an attribute of code (JVMS 4.7)
abbrev pub code_attribute_bytes : Code → CodeAttr → List ℕ
code_attribute_bytes code (code_attribute.Lines name lines) = attribute_bytes name (counted (line_bytes code) lines)
code_attribute_bytes code (code_attribute.Vars name types vars) = attribute_bytes name (counted (var_bytes code) vars)
code_attribute_bytes code (code_attribute.Other raw) = raw_bytes raw

-- the bytes of a Code attribute after its length
unfoldable pub code_bytes : Code → List ℕ
code_bytes code =
    concat (two code.max_stack ∷ two code.max_locals ∷ four code.length ∷ flat_map item_bytes code.items
    ∷ counted (handler_bytes code) code.handlers ∷ counted (code_attribute_bytes code) code.attributes ∷ [])

-- ---- members (JVMS 4.5, 4.6)

-- an attribute of a field or a method (JVMS 4.7)
unfoldable pub member_attribute_bytes : MemberAttr → List ℕ
member_attribute_bytes (attribute.Constant name value) = attribute_bytes name (two value)
member_attribute_bytes (attribute.Coded name code) = attribute_bytes name (code_bytes code)
member_attribute_bytes (attribute.Other raw) = raw_bytes raw

-- a field or a method (JVMS 4.5, 4.6)
unfoldable pub member_bytes : Member → List ℕ
member_bytes m = concat (two m.flags ∷ two m.name ∷ two m.descriptor ∷ counted member_attribute_bytes m.attributes ∷ [])

-- ---- the class file (JVMS 4.1)

-- cafebabe
abbrev pub magic : List ℕ
magic = 202 ∷ 254 ∷ 186 ∷ 190 ∷ []

-- the class file of a record (JVMS 4.1)
unfoldable pub class_bytes : ClassDef → List ℕ
class_bytes c =
    concat (magic ∷ two c.minor ∷ two c.major ∷ pool_bytes c.pool ∷ two c.flags ∷ two c.this_class ∷ two c.super_class
    ∷ counted two c.interfaces ∷ counted member_bytes c.fields ∷ counted member_bytes c.methods ∷ counted raw_bytes c.attributes ∷ [])
