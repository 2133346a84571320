-- Operands of quick code: places, methods and types in place of the indices that name them (JVMS 5.4.3).
use Rattle.std.specs.Prelude.{◌≡◌, ℕ, ◌+◌, nat_lt, if◌then◌else◌, Option, Some, None}
use Rattle.fm_base.specs.declared.ids.FieldId.{FieldId}
use Rattle.fm_base.specs.declared.ids.MethodId.{MethodId}
use Rattle.fm_base.specs.declared.ids.TypeId.{TypeId}
use Rattle.fm_base.specs.declared.kinds.Kind.{Kind}
use Rattle.fm_base.specs.declared.kinds.Kind.TheVariants as kind
use Rattle.fm_code.specs.declared.instructions.Insn.{Insn}
use Rattle.fm_code.specs.declared.instructions.Insn.TheVariants as insn
use Rattle.fm_fast.specs.FieldPlaces.{IsFieldAt, IsStaticAt}
use Rattle.fm_frames.specs.CallRows.{words_of_arguments}
use Rattle.fm_frames.specs.ObjectRows.{class_of_field, kind_of_field}
use Rattle.fm_frames.specs.Sights.{type_numbered}
use Rattle.fm_run.specs.declared.quick.Quick.{Quick}
use Rattle.fm_run.specs.declared.quick.Quick.TheVariants as quick
use Rattle.fm_types.specs.Named.{class_of_method}
use Rattle.fm_types.specs.Typed.{use_in}
use Rattle.fm_world.specs.Lookups.{special_target}
use Rattle.fm_world.specs.Members.{slot_of}
use Rattle.fm_world.specs.Programs.{class_of_type, Outline, Program}
use Rattle.fm_world.specs.declared.uses.Use.{Use}
use Rattle.fm_world.specs.declared.uses.Use.TheVariants as used

-- ---- what there is room for

-- the number as a u16, if it is one
abbrev pub as_short : ℕ → Option ℕ
as_short n = if nat_lt n 65536 then Some n else None

-- the number as a u8, if it is one
abbrev pub as_byte : ℕ → Option ℕ
as_byte n = if nat_lt n 256 then Some n else None

-- ---- fields

-- one of two, by whether values of the kind are ints or references; for other kinds a third one
abbrev pub by_kind : Kind → (int reference third : Quick) → Quick
by_kind kind.Int int reference third = int
by_kind (kind.Ref t) int reference third = reference
by_kind k int reference third = third

-- getfield of a field of this kind at a place, if there is room for that
abbrev pub getfield_at : Kind → (named : TypeId) (index : ℕ) (place : Option ℕ) → Quick
getfield_at k named index None = quick.Getfield index
getfield_at k named index (Some place) = by_kind k (quick.GetfieldInt place named) (quick.GetfieldRef place named) (quick.Getfield index)

-- getfield of what its index refers to
abbrev pub quick_getfield : Outline → Use → (index : ℕ) → Quick
quick_getfield o (used.OfField f named) index = getfield_at (kind_of_field o f.0) named index (as_short (slot_of o.classes f.0))
quick_getfield o u index = quick.Getfield index

-- putfield of a field of this kind at a place, if there is room for that
abbrev pub putfield_at : Kind → (named : TypeId) (index : ℕ) (place : Option ℕ) → Quick
putfield_at k named index None = quick.Putfield index
putfield_at k named index (Some place) = by_kind k (quick.PutfieldInt place named) (quick.PutfieldRef place named) (quick.Putfield index)

-- putfield of what its index refers to
abbrev pub quick_putfield : Outline → Use → (index : ℕ) → Quick
quick_putfield o (used.OfField f named) index = putfield_at (kind_of_field o f.0) named index (as_short (slot_of o.classes f.0))
quick_putfield o u index = quick.Putfield index

-- getstatic of a field of this kind and class at a place, if there is room for that
abbrev pub getstatic_at : Kind → (class index : ℕ) (place : Option ℕ) → Quick
getstatic_at k class index None = quick.Getstatic index
getstatic_at k class index (Some place) = by_kind k (quick.GetstaticInt place class) (quick.GetstaticRef place class) (quick.Getstatic index)

-- getstatic of what its index refers to
abbrev pub quick_getstatic : Outline → Use → (index : ℕ) → Quick
quick_getstatic o (used.OfField f named) index =
    getstatic_at (kind_of_field o f.0) (class_of_field o f.0) index (as_short (slot_of o.classes f.0))
quick_getstatic o u index = quick.Getstatic index

-- ---- types

-- checkcast to what its index refers to
abbrev pub quick_checkcast : Use → Quick
quick_checkcast (used.OfType t) = quick.Checkcast t
quick_checkcast u = quick.Other

-- ---- methods

-- invokestatic of a method whose arguments have this many words, if there is room for their number
abbrev pub static_at : MethodId → (words : Option ℕ) → Quick
static_at m None = quick.Other
static_at m (Some words) = quick.Invokestatic words m

-- invokestatic of what its index refers to
abbrev pub quick_static : Outline → Use → Quick
quick_static o (used.OfMethod m named) = static_at m (as_short (words_of_arguments o m.0))
quick_static o u = quick.Other

-- invokevirtual of a method whose arguments have this many words with the receiver, if there is room for both numbers
abbrev pub virtual_at : MethodId → (named words : Option ℕ) → Quick
virtual_at m None words = quick.Other
virtual_at m (Some named) None = quick.Other
virtual_at m (Some named) (Some words) = quick.Invokevirtual words named m

-- invokevirtual of what its index refers to
abbrev pub quick_virtual : Outline → Use → Quick
quick_virtual o (used.OfMethod m named) = virtual_at m (as_short named.0) (as_byte (words_of_arguments o m.0 + 1))
quick_virtual o u = quick.Other

-- invokespecial that calls this method, if there is room for the number of words
abbrev pub special_at : (target : ℕ) (words : Option ℕ) → Quick
special_at target None = quick.Other
special_at target (Some words) = quick.Invokespecial words target

-- the method that invokespecial calls in the caller for a method that it names (JVMS 6.5.invokespecial)
abbrev pub target_of : Outline → (caller : ℕ) → MethodId → TypeId → ℕ
target_of o caller m named = special_target o.classes (class_of_method o caller) (class_of_type (type_numbered o named.0)) m.0

-- invokespecial in a method of what its index refers to
abbrev pub quick_special : Outline → (caller : ℕ) → Use → Quick
quick_special o caller (used.OfMethod m named) = special_at (target_of o caller m named) (as_short (words_of_arguments o m.0 + 1))
quick_special o caller u = quick.Other

-- ---- what operands stand for

-- an instruction of this sort names a field with this place, whose values are of a kind like this one, in this type
pub record NamesField (p : Program) (method : ℕ) (of : ℕ → Insn) (k : Kind) (place : ℕ) (named : TypeId) (i : Insn) : Type 0 where
  pub index : ℕ
  pub field : FieldId
  pub insn_is : i ≡ of index
  pub use_is : use_in p method index ≡ used.OfField field named
  pub at : IsFieldAt p.outline field.0 k place

-- a getstatic names a field of this class with this place, whose values are of a kind like this one
pub record NamesStatic (p : Program) (method : ℕ) (k : Kind) (place class : ℕ) (i : Insn) : Type 0 where
  pub index : ℕ
  pub field : FieldId
  pub named : TypeId
  pub insn_is : i ≡ insn.GetStatic index
  pub use_is : use_in p method index ≡ used.OfField field named
  pub at : IsStaticAt p.outline field.0 k place class

-- a checkcast names this type
pub record NamesCast (p : Program) (method : ℕ) (t : TypeId) (i : Insn) : Type 0 where
  pub index : ℕ
  pub insn_is : i ≡ insn.Cast index
  pub use_is : use_in p method index ≡ used.OfType t

-- an instruction of this sort names this method in this type
pub record NamesMethod (p : Program) (method : ℕ) (of : ℕ → Insn) (m : MethodId) (named : TypeId) (i : Insn) : Type 0 where
  pub index : ℕ
  pub insn_is : i ≡ of index
  pub use_is : use_in p method index ≡ used.OfMethod m named

-- an invokestatic calls this method, whose arguments have this many words
abbrev pub IsStaticCall : Program → (method words : ℕ) → MethodId → Insn → Type 0
IsStaticCall p method words m i = (named : TypeId) × NamesMethod p method insn.Static m named i × (words ≡ words_of_arguments p.outline m.0)

-- an invokevirtual names this method in this type, and its arguments have this many words with the receiver
abbrev pub IsVirtualCall : Program → (method words named : ℕ) → MethodId → Insn → Type 0
IsVirtualCall p method words named m i =
    (t : TypeId) × NamesMethod p method insn.Virtual m t i × (t.0 ≡ named) × (words ≡ words_of_arguments p.outline m.0 + 1)

-- an invokespecial calls this method, and the arguments have this many words with the receiver
abbrev pub IsSpecialCall : Program → (method words target : ℕ) → Insn → Type 0
IsSpecialCall p method words target i =
    (m : MethodId) × (named : TypeId) × NamesMethod p method insn.Special m named i × (words ≡ words_of_arguments p.outline m.0 + 1)
    × (target ≡ target_of p.outline method m named)
