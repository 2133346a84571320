-- Each number and each length of a record fits the bytes that it is spelled in (JVMS 4.1).
use Rattle.std.specs.Prelude.{ℕ, ◌<◌, ◌^◌, List, length, FitsSigned}
use Rattle.std.specs.Int.{w32, w64}
use Rattle.std.specs.List.{AllByRecursion}
use Rattle.fm_code.specs.ClassBytes.{code_bytes}
use Rattle.fm_code.specs.declared.constant_pool.Entry.{Entry}
use Rattle.fm_code.specs.declared.constant_pool.Entry.TheVariants as entry
use Rattle.fm_code.specs.declared.class_file.ClassDef.{ClassDef}
use Rattle.fm_code.specs.declared.class_file.Member.{Member}
use Rattle.fm_code.specs.declared.class_file.MemberAttr.{MemberAttr}
use Rattle.fm_code.specs.declared.class_file.MemberAttr.TheVariants as attribute
use Rattle.fm_code.specs.declared.class_file.Raw.{Raw}
use Rattle.fm_code.specs.declared.code_array.Code.{Code}
use Rattle.fm_code.specs.declared.code_array.Item.{Item}
use Rattle.fm_code.specs.declared.code_array.Handler.{Handler}
use Rattle.fm_code.specs.declared.code_array.CodeAttr.{CodeAttr}
use Rattle.fm_code.specs.declared.code_array.CodeAttr.TheVariants as code_attribute
use Rattle.fm_code.specs.declared.code_array.Line.{Line}
use Rattle.fm_code.specs.declared.code_array.Var.{Var}

-- a number that two bytes spell
abbrev pub FitsTwo : ℕ → Type 0
FitsTwo n = n < 2 ^ 16

-- a number that four bytes spell
abbrev pub FitsFour : ℕ → Type 0
FitsFour n = n < 2 ^ 32

-- a byte
abbrev pub IsByte : ℕ → Type 0
IsByte n = n < 256

-- only bytes
abbrev pub AreBytes : List ℕ → Type 0
AreBytes bytes = AllByRecursion IsByte bytes

-- a list whose length is spelled in two bytes, and whose elements fit
pub record CountedFits {X : Type 0} (Fits : X → Type 0) (xs : List X) : Type 0 where
  pub count : FitsTwo (length xs)
  pub each : AllByRecursion Fits xs

-- an entry of a constant pool (JVMS 4.4)
abbrev pub EntryFits : Entry → Type 0
EntryFits (entry.Utf8 name) = FitsTwo (length name) × AreBytes name
EntryFits (entry.Integer value) = FitsSigned w32 value
EntryFits (entry.Float bits) = FitsFour bits
EntryFits (entry.Long value) = FitsSigned w64 value
EntryFits (entry.Double bits) = bits < 2 ^ 64
EntryFits (entry.Class name) = FitsTwo name
EntryFits (entry.Text units) = FitsTwo units
EntryFits (entry.Field class member) = FitsTwo class × FitsTwo member
EntryFits (entry.Method class member) = FitsTwo class × FitsTwo member
EntryFits (entry.InterfaceMethod class member) = FitsTwo class × FitsTwo member
EntryFits (entry.NameAndType name descriptor) = FitsTwo name × FitsTwo descriptor
EntryFits (entry.MethodHandle kind member) = IsByte kind × FitsTwo member
EntryFits (entry.MethodType descriptor) = FitsTwo descriptor
EntryFits (entry.InvokeDynamic bootstrap member) = FitsTwo bootstrap × FitsTwo member
EntryFits entry.Second = Unit {0}

-- an attribute that is kept as its bytes (JVMS 4.7)
pub record RawFits (raw : Raw) : Type 0 where
  pub name : FitsTwo raw.name
  pub size : FitsFour (length raw.bytes)
  pub bytes : AreBytes raw.bytes

-- an entry of a table of local variables (JVMS 4.7.13)
pub record VarFits (v : Var) : Type 0 where
  pub name : FitsTwo v.name
  pub kind : FitsTwo v.kind
  pub index : FitsTwo v.index

-- an attribute of code (JVMS 4.7)
abbrev pub CodeAttrFits : CodeAttr → Type 0
CodeAttrFits (code_attribute.Lines name lines) = FitsTwo name × CountedFits (λ (l : Line). FitsTwo l.line) lines
CodeAttrFits (code_attribute.Vars name types vars) = FitsTwo name × CountedFits VarFits vars
CodeAttrFits (code_attribute.Other raw) = RawFits raw

-- a Code attribute (JVMS 4.7.3)
pub record CodeFits (code : Code) : Type 0 where
  pub max_stack : FitsTwo code.max_stack
  pub max_locals : FitsTwo code.max_locals
  pub code_length : FitsFour code.length
  pub items : AllByRecursion (λ (item : Item). AreBytes item.bytes) code.items
  pub handlers : CountedFits (λ (h : Handler). FitsTwo h.catch_class) code.handlers
  pub attributes : CountedFits CodeAttrFits code.attributes
  pub size : FitsFour (length (code_bytes code))

-- an attribute of a field or a method (JVMS 4.7)
abbrev pub MemberAttrFits : MemberAttr → Type 0
MemberAttrFits (attribute.Constant name value) = FitsTwo name × FitsTwo value
MemberAttrFits (attribute.Coded name code) = FitsTwo name × CodeFits code
MemberAttrFits (attribute.Other raw) = RawFits raw

-- a field or a method (JVMS 4.5, 4.6)
pub record MemberFits (m : Member) : Type 0 where
  pub flags : FitsTwo m.flags
  pub name : FitsTwo m.name
  pub descriptor : FitsTwo m.descriptor
  pub attributes : CountedFits MemberAttrFits m.attributes

-- a class file (JVMS 4.1)
pub record ClassFits (c : ClassDef) : Type 0 where
  pub minor : FitsTwo c.minor
  pub major : FitsTwo c.major
  pub flags : FitsTwo c.flags
  pub this_class : FitsTwo c.this_class
  pub super_class : FitsTwo c.super_class
  pub interfaces : CountedFits FitsTwo c.interfaces
  pub fields : CountedFits MemberFits c.fields
  pub methods : CountedFits MemberFits c.methods
  pub attributes : CountedFits RawFits c.attributes
