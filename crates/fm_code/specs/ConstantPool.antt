-- The rules of a constant pool (JVMS 4.4), what is at its indices, and what it means that bytes are one.
use Rattle.std.specs.Prelude.{◌≡◌, ℕ, ◌⊎◌, Bool, true, false, List, [], ◌∷◌, Option, Some, None, IsSome, IsSomeAnd, option_and_then}
use Rattle.std.specs.List.{slice_index_or, AllByRecursion}
use Rattle.fm_base.specs.Texts.{IsModifiedUtf8}
use Rattle.fm_code.specs.ClassBytes.{pool_bytes}
use Rattle.fm_code.specs.Fits.{CountedFits, EntryFits}
use Rattle.fm_code.specs.Names.{IsClassName, is_unqualified, is_method_name, IsFieldDescriptor, IsMethodDescriptor}
use Rattle.fm_code.specs.declared.constant_pool.Entry.{Entry}
use Rattle.fm_code.specs.declared.constant_pool.Entry.TheVariants as entry
use Rattle.fm_code.specs.declared.constant_pool.MemberRef.{MemberRef}
use Rattle.fm_code.specs.declared.constant_pool.Pool.{Pool}

-- ---- indices

-- a long or a double takes two indices (JVMS 4.4.5)
abbrev pub takes_two : Entry → Bool
takes_two (entry.Long value) = true
takes_two (entry.Double bits) = true
takes_two e = false

-- nothing is spelled at index 0, nor at the index after what takes two, and all else is; the flag: whether nothing is due
abbrev pub AreSlots : Bool → List Entry → Type 0
AreSlots true (entry.Second ∷ entries) = AreSlots false entries
AreSlots true entries = ⊥
AreSlots false [] = Unit {0}
AreSlots false (entry.Second ∷ entries) = ⊥
AreSlots false (e ∷ entries) = AreSlots (takes_two e) entries

-- what is at an index; nothing outside the pool
abbrev pub entry_at : List Entry → ℕ → Entry
entry_at entries index = slice_index_or entries index entry.Second

-- the bytes of the text at an index
abbrev pub utf8_at : List Entry → ℕ → Option (List ℕ)
utf8_at entries index = text_of (entry_at entries index) where
  text_of : Entry → Option (List ℕ)
  text_of (entry.Utf8 name) = Some name
  text_of e = None

-- the name of the class at an index
abbrev pub class_name_at : List Entry → ℕ → Option (List ℕ)
class_name_at entries index = option_and_then (utf8_at entries) (name_of (entry_at entries index)) where
  name_of : Entry → Option ℕ
  name_of (entry.Class name) = Some name
  name_of e = None

-- the name and the descriptor at an index
abbrev pub named_and_typed_at : List Entry → ℕ → Option (List ℕ × List ℕ)
named_and_typed_at entries index = texts_of (entry_at entries index) where
  texts_of : Entry → Option (List ℕ × List ℕ)
  texts_of (entry.NameAndType name descriptor) =
      option_and_then (λ n. option_and_then (λ d. Some (n, d)) (utf8_at entries descriptor)) (utf8_at entries name)
  texts_of e = None

-- the class, the name and the descriptor of a member
pub record MemberName : Type 0 where
  pub class : List ℕ
  pub name : List ℕ
  pub descriptor : List ℕ

-- the member that the indices of a class and of a name with its descriptor name
abbrev pub member_named : List Entry → ℕ → ℕ → Option MemberName
member_named entries class member =
    option_and_then (λ c. option_and_then (λ pair. Some (record { class = c; name = pair.0; descriptor = pair.1 })) (named_and_typed_at entries member)) (class_name_at entries class)

-- the field at an index, or the method of a class, or that of an interface
abbrev pub field_ref_at : List Entry → ℕ → Option MemberName
field_ref_at entries index = of_field (entry_at entries index) where
  of_field : Entry → Option MemberName
  of_field (entry.Field class member) = member_named entries class member
  of_field e = None

-- the method of a class at an index (JVMS 4.4.2)
abbrev pub method_ref_at : List Entry → ℕ → Option MemberName
method_ref_at entries index = of_method (entry_at entries index) where
  of_method : Entry → Option MemberName
  of_method (entry.Method class member) = member_named entries class member
  of_method e = None

-- the method of an interface at an index (JVMS 4.4.2)
abbrev pub interface_method_ref_at : List Entry → ℕ → Option MemberName
interface_method_ref_at entries index = of_method (entry_at entries index) where
  of_method : Entry → Option MemberName
  of_method (entry.InterfaceMethod class member) = member_named entries class member
  of_method e = None

-- a member that is lent out, as the texts that name it
abbrev pub member_name : MemberRef → MemberName
member_name m = record { class = m.class.now; name = m.name.now; descriptor = m.descriptor.now }

-- ---- the rules of entries

-- a field's name and descriptor, or a method's; a method's arguments take at most 255 words without a receiver
abbrev pub IsFieldPair : List ℕ × List ℕ → Type 0
IsFieldPair pair = (is_unqualified pair.0 ≡ true) × IsFieldDescriptor pair.1

-- the name and the descriptor of a method
abbrev pub IsMethodPair : List ℕ × List ℕ → Type 0
IsMethodPair pair = (is_method_name pair.0 ≡ true) × IsMethodDescriptor 0 pair.1

-- a member's entry names a class, and a name with a descriptor, both of the member's sort (JVMS 4.4.2)
abbrev pub NamesMember : (List ℕ × List ℕ → Type 0) → List Entry → ℕ → ℕ → Type 0
NamesMember IsPair entries class member = IsSome (class_name_at entries class) × IsSomeAnd (named_and_typed_at entries member) IsPair

-- a text is modified UTF-8 (JVMS 4.4.7); a class entry names the text of a class (JVMS 4.4.1), and a String entry any text (JVMS 4.4.3); a name
-- with a descriptor is a field's or a method's (JVMS 4.4.6)
abbrev pub EntryIsValid : List Entry → Entry → Type 0
EntryIsValid entries (entry.Utf8 name) = IsModifiedUtf8 name
EntryIsValid entries (entry.Class name) = IsSomeAnd (utf8_at entries name) IsClassName
EntryIsValid entries (entry.Text units) = IsSome (utf8_at entries units)
EntryIsValid entries (entry.Field class member) = NamesMember IsFieldPair entries class member
EntryIsValid entries (entry.Method class member) = NamesMember IsMethodPair entries class member
EntryIsValid entries (entry.InterfaceMethod class member) = NamesMember IsMethodPair entries class member
EntryIsValid entries (entry.NameAndType name descriptor) =
    IsSomeAnd (utf8_at entries name) (λ n. IsSomeAnd (utf8_at entries descriptor) (λ d. IsFieldPair (n, d) ⊎ IsMethodPair (n, d)))
EntryIsValid entries e = Unit {0}

-- the bytes are those of the pool from constant_pool_count on, and the pool meets each rule
pub record SpellsPool (bytes : List ℕ) (pool : Pool) : Type 0 where
  pub bytes_are : bytes ≡ pool_bytes pool
  pub fits : CountedFits EntryFits pool.entries
  pub slots : AreSlots true pool.entries
  pub entries : AllByRecursion (EntryIsValid pool.entries) pool.entries
