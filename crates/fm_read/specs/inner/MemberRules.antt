-- How fields and methods, and their attributes, are read of the parts of a class file: element by element, and then the rules of a member of its own.
use Rattle.std.specs.Prelude.{◌≡◌, ℕ, ◌||◌, ◌⊎◌, Bool, true, false, List, [], ◌∷◌, map, codes, Some, IsSomeAnd, Contains, count_by, if◌then◌else◌}
use Rattle.std.specs.List.{AllByRecursion}
use Rattle.fm_code.specs.AccessFlags.{is_private, is_static, is_native, is_abstract}
use Rattle.fm_code.specs.ConstantPool.{entry_at, utf8_at}
use Rattle.fm_code.specs.Fits.{FitsTwo, MemberFits, MemberAttrFits}
use Rattle.fm_code.specs.Members.{FieldAttrIsValid, FieldIsValid, IsConstructor, IsValue, MethodAttrIsValid, MethodIsValid, ValueSuits, is_coded, receiver_words, suited_descriptors}
use Rattle.fm_code.specs.Names.{is_unqualified, is_method_name, IsFieldDescriptor, IsMethodDescriptor}
use Rattle.fm_code.specs.Numbers.{two}
use Rattle.fm_code.specs.declared.constant_pool.Entry.{Entry}
use Rattle.fm_code.specs.declared.class_file.Member.{Member}
use Rattle.fm_code.specs.declared.class_file.MemberAttr.{MemberAttr}
use Rattle.fm_code.specs.declared.class_file.MemberAttr.TheVariants as attribute
use Rattle.fm_code.specs.declared.class_file.Raw.{Raw}
use Rattle.fm_read.specs.declared.attributes.MemberKind.{MemberKind}
use Rattle.fm_read.specs.declared.attributes.MemberKind.TheVariants as kind
use Rattle.fm_read.specs.inner.Parts.{RawMember, raw_of_attribute, raw_of_member}

-- ---- what is read of parts

-- an element of this part, whose numbers fit, and which is valid
pub record IsRead {R X : Type 0} (raw_of : X → R) (Fits Valid : X → Type 0) (raw : R) (x : X) : Type 0 where
  pub part : raw_of x ≡ raw
  pub fits : Fits x
  pub valid : Valid x

-- elements of these parts
pub record AreRead {R X : Type 0} (raw_of : X → R) (Fits Valid : X → Type 0) (raws : List R) (xs : List X) : Type 0 where
  pub parts : map raw_of xs ≡ raws
  pub fits : AllByRecursion Fits xs
  pub valid : AllByRecursion Valid xs

-- ---- fields and methods, each with its attributes

-- an attribute of a field, or of a method, meets its rules
abbrev pub AttributeIsValid : MemberKind → List Entry → MemberAttr → Type 0
AttributeIsValid kind.Field entries = FieldAttrIsValid entries
AttributeIsValid kind.Method entries = MethodAttrIsValid entries

-- a field, or a method, of a class or of an interface meets its rules
abbrev pub MemberIsValid : MemberKind → Bool → List Entry → Member → Type 0
MemberIsValid kind.Field in_interface entries = FieldIsValid in_interface entries
MemberIsValid kind.Method in_interface entries = MethodIsValid in_interface entries

-- an attribute of this part
abbrev pub IsAttributeOf : MemberKind → List Entry → Raw → MemberAttr → Type 0
IsAttributeOf kind entries = IsRead raw_of_attribute MemberAttrFits (AttributeIsValid kind entries)

-- attributes of these parts
abbrev pub AreAttributesOf : MemberKind → List Entry → List Raw → List MemberAttr → Type 0
AreAttributesOf kind entries = AreRead raw_of_attribute MemberAttrFits (AttributeIsValid kind entries)

-- a field or a method of this part
abbrev pub IsMemberOf : MemberKind → Bool → List Entry → RawMember → Member → Type 0
IsMemberOf kind in_interface entries = IsRead raw_of_member MemberFits (MemberIsValid kind in_interface entries)

-- fields or methods of these parts, some of which may agree
abbrev pub AreMembersOf : MemberKind → Bool → List Entry → List RawMember → List Member → Type 0
AreMembersOf kind in_interface entries = AreRead raw_of_member MemberFits (MemberIsValid kind in_interface entries)

-- the index of a value, which is all of the bytes
abbrev pub IsValueOf : List Entry → List ℕ → ℕ → Type 0
IsValueOf entries = IsRead two FitsTwo (λ value. IsValue (entry_at entries value))

-- ---- the rules of a member but for those of each attribute

-- the value at an index suits the text at another one
abbrev pub ValueSuitsText : List Entry → ℕ → ℕ → Type 0
ValueSuitsText entries value descriptor = IsSomeAnd (utf8_at entries descriptor) (Contains (suited_descriptors (entry_at entries value)))

-- the descriptors of the types whose values are kept as ints
abbrev pub int_descriptors : List (List ℕ)
int_descriptors = codes "I" ∷ codes "S" ∷ codes "C" ∷ codes "B" ∷ codes "Z" ∷ []

-- the value that an attribute gives suits the text at an index
abbrev pub SuitsText : List Entry → ℕ → MemberAttr → Type 0
SuitsText entries descriptor (attribute.Constant name value) = ValueSuitsText entries value descriptor
SuitsText entries descriptor a = Unit {0}

-- a field by its flags, its name and its descriptor, and by its values
pub record FieldMeetsRules (in_interface : Bool) (entries : List Entry) (m : Member) : Type 0 where
  pub name : IsSomeAnd (utf8_at entries m.name) (λ name. is_unqualified name ≡ true)
  pub descriptor : IsSomeAnd (utf8_at entries m.descriptor) IsFieldDescriptor
  pub value : is_static m.flags ≡ true → ValueSuits entries m
  pub of_interface : in_interface ≡ true → is_static m.flags ≡ true

-- one Code, unless the method is abstract or native
abbrev pub HasItsCode : Member → Type 0
HasItsCode m = count_by is_coded m.attributes ≡ (if is_abstract m.flags || is_native m.flags then 0 else 1)

-- an abstract method is neither static nor private nor native
abbrev pub IsAbstractAlone : ℕ → Type 0
IsAbstractAlone flags = is_abstract flags ≡ true → (is_static flags || is_private flags || is_native flags) ≡ false

-- a method of that name is a constructor
abbrev pub InitIsConstructor : List Entry → Member → Type 0
InitIsConstructor entries m = utf8_at entries m.name ≡ Some (codes "<init>") → IsConstructor entries m

-- a method of an interface isn't native; of the interface's start the flag doesn't count
abbrev pub SuitsInterface : Bool → List Entry → Member → Type 0
SuitsInterface in_interface entries m = in_interface ≡ true → (is_native m.flags ≡ false) ⊎ (utf8_at entries m.name ≡ Some (codes "<clinit>"))

-- a method by its flags, its name and its descriptor, and by whether it has code
pub record MethodMeetsRules (in_interface : Bool) (entries : List Entry) (m : Member) : Type 0 where
  pub name : IsSomeAnd (utf8_at entries m.name) (λ name. is_method_name name ≡ true)
  pub descriptor : IsSomeAnd (utf8_at entries m.descriptor) (IsMethodDescriptor (receiver_words m.flags))
  pub coded : HasItsCode m
  pub abstract_alone : IsAbstractAlone m.flags
  pub constructor : InitIsConstructor entries m
  pub of_interface : SuitsInterface in_interface entries m

-- a field, or a method, meets the rules but for those of each attribute
abbrev pub MeetsRules : MemberKind → Bool → List Entry → Member → Type 0
MeetsRules kind.Field in_interface entries = FieldMeetsRules in_interface entries
MeetsRules kind.Method in_interface entries = MethodMeetsRules in_interface entries
