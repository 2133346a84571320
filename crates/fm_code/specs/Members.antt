-- The rules of fields and methods (JVMS 4.5, 4.6).
use Rattle.std.specs.Prelude.{◌≡◌, ◌≢◌, ℕ, ◌≤◌, ◌||◌, ◌⊎◌, Bool, true, false, List, [], ◌∷◌, codes, Option, Some, None, IsSomeAnd, Contains, count_by, if◌then◌else◌}
use Rattle.std.specs.List.{AllByRecursion}
use Rattle.fm_code.specs.AccessFlags.{is_private, is_static, is_native, is_abstract}
use Rattle.fm_code.specs.ConstantPool.{entry_at, utf8_at}
use Rattle.fm_code.specs.CodeRules.{CodeIsValid}
use Rattle.fm_code.specs.Names.{is_unqualified, is_method_name, MethodType, IsMethodType, method_descriptor, IsFieldDescriptor, IsMethodDescriptor}
use Rattle.fm_code.specs.declared.constant_pool.Entry.{Entry}
use Rattle.fm_code.specs.declared.constant_pool.Entry.TheVariants as entry
use Rattle.fm_code.specs.declared.class_file.Member.{Member}
use Rattle.fm_code.specs.declared.class_file.MemberAttr.{MemberAttr}
use Rattle.fm_code.specs.declared.class_file.MemberAttr.TheVariants as attribute
use Rattle.fm_code.specs.declared.code_array.Code.{Code}

-- ---- the value of a field (JVMS 4.7.2)

-- the descriptors of the fields that may have the entry for a value
abbrev pub suited_descriptors : Entry → List (List ℕ)
suited_descriptors (entry.Integer value) = codes "I" ∷ codes "S" ∷ codes "C" ∷ codes "B" ∷ codes "Z" ∷ []
suited_descriptors (entry.Float bits) = codes "F" ∷ []
suited_descriptors (entry.Long value) = codes "J" ∷ []
suited_descriptors (entry.Double bits) = codes "D" ∷ []
suited_descriptors (entry.Text units) = codes "Ljava/lang/String;" ∷ []
suited_descriptors e = []

-- an entry that is the value of some field
abbrev pub IsValue : Entry → Type 0
IsValue e = suited_descriptors e ≢ []

-- the value that an attribute gives suits the descriptor
abbrev pub Suits : List Entry → List ℕ → MemberAttr → Type 0
Suits entries descriptor (attribute.Constant name value) = Contains (suited_descriptors (entry_at entries value)) descriptor
Suits entries descriptor a = Unit {0}

-- whether it is a ConstantValue (JVMS 4.7.2)
abbrev pub is_constant : MemberAttr → Bool
is_constant (attribute.Constant name value) = true
is_constant a = false

-- ---- fields (JVMS 4.5)

-- a field's attribute of the name ConstantValue is read as one, and no other one is
abbrev pub FieldAttrIsValid : List Entry → MemberAttr → Type 0
FieldAttrIsValid entries (attribute.Constant name value) = (utf8_at entries name ≡ Some (codes "ConstantValue")) × IsValue (entry_at entries value)
FieldAttrIsValid entries (attribute.Coded name code) = ⊥
FieldAttrIsValid entries (attribute.Other raw) = IsSomeAnd (utf8_at entries raw.name) (λ name. name ≢ codes "ConstantValue")

-- a static field has one value at most, which suits it; those of other fields have no effect
pub record ValueSuits (entries : List Entry) (m : Member) : Type 0 where
  pub one_value : count_by is_constant m.attributes ≤ 1
  pub suits : IsSomeAnd (utf8_at entries m.descriptor) (λ descriptor. AllByRecursion (Suits entries descriptor) m.attributes)

-- what a field has to be (JVMS 4.5)
pub record FieldIsValid (in_interface : Bool) (entries : List Entry) (m : Member) : Type 0 where
  pub name : IsSomeAnd (utf8_at entries m.name) (λ name. is_unqualified name ≡ true)
  pub descriptor : IsSomeAnd (utf8_at entries m.descriptor) IsFieldDescriptor
  pub attributes : AllByRecursion (FieldAttrIsValid entries) m.attributes
  pub value : is_static m.flags ≡ true → ValueSuits entries m
  -- a field of an interface is static
  pub of_interface : in_interface ≡ true → is_static m.flags ≡ true

-- ---- methods (JVMS 4.6)

-- a method's attribute of the name Code is read as code, and no other one is (JVMS 4.7.3)
abbrev pub MethodAttrIsValid : List Entry → MemberAttr → Type 0
MethodAttrIsValid entries (attribute.Constant name value) = ⊥
MethodAttrIsValid entries (attribute.Coded name code) = (utf8_at entries name ≡ Some (codes "Code")) × CodeIsValid entries code
MethodAttrIsValid entries (attribute.Other raw) = IsSomeAnd (utf8_at entries raw.name) (λ name. name ≢ codes "Code")

-- whether it is a Code (JVMS 4.7.3)
abbrev pub is_coded : MemberAttr → Bool
is_coded (attribute.Coded name code) = true
is_coded a = false

-- a method that isn't static has a receiver, of one word (JVMS 4.3.3)
abbrev pub receiver_words : ℕ → ℕ
receiver_words flags = if is_static flags then 0 else 1

-- the descriptor of a method that returns nothing
abbrev pub ReturnsNothing : List ℕ → Type 0
ReturnsNothing descriptor = (m : MethodType) × (IsMethodType m × ((descriptor ≡ method_descriptor m) × (m.result ≡ None)))

-- a constructor returns nothing, and is neither static nor abstract (JVMS 2.9, 4.6)
pub record IsConstructor (entries : List Entry) (m : Member) : Type 0 where
  pub returns_nothing : IsSomeAnd (utf8_at entries m.descriptor) ReturnsNothing
  pub not_static : is_static m.flags ≡ false
  pub not_abstract : is_abstract m.flags ≡ false

-- what a method has to be (JVMS 4.6)
pub record MethodIsValid (in_interface : Bool) (entries : List Entry) (m : Member) : Type 0 where
  pub name : IsSomeAnd (utf8_at entries m.name) (λ name. is_method_name name ≡ true)
  pub descriptor : IsSomeAnd (utf8_at entries m.descriptor) (IsMethodDescriptor (receiver_words m.flags))
  pub attributes : AllByRecursion (MethodAttrIsValid entries) m.attributes
  -- one Code, unless the method is abstract or native
  pub coded : count_by is_coded m.attributes ≡ (if is_abstract m.flags || is_native m.flags then 0 else 1)
  -- an abstract method is neither static nor private nor native
  pub abstract_alone : is_abstract m.flags ≡ true → (is_static m.flags || is_private m.flags || is_native m.flags) ≡ false
  pub constructor : utf8_at entries m.name ≡ Some (codes "<init>") → IsConstructor entries m
  -- a method of an interface isn't native (JVMS 4.6); of the interface's start the flag doesn't count
  pub of_interface : in_interface ≡ true → (is_native m.flags ≡ false) ⊎ (utf8_at entries m.name ≡ Some (codes "<clinit>"))

-- the code of a method, where it has one
abbrev pub code_of : Member → Option Code
code_of m = first_code m.attributes where
  first_code : List MemberAttr → Option Code
  first_code [] = None
  first_code (attribute.Coded name code ∷ attributes) = Some code
  first_code (a ∷ attributes) = first_code attributes

-- the method that starts its class: in each version the static <clinit> of this descriptor, and no other one (JVMS 2.9)
pub record IsStart (entries : List Entry) (m : Member) : Type 0 where
  pub static : is_static m.flags ≡ true
  pub name : utf8_at entries m.name ≡ Some (codes "<clinit>")
  pub descriptor : utf8_at entries m.descriptor ≡ Some (codes "()V")

-- ---- members that agree (JVMS 4.5, 4.6)

-- two members that differ in their names or in their descriptors
abbrev pub AreDifferent : List Entry → Member → Member → Type 0
AreDifferent entries m n = ¬ ((utf8_at entries m.name ≡ utf8_at entries n.name) × (utf8_at entries m.descriptor ≡ utf8_at entries n.descriptor))

-- each member differs from each later one
abbrev pub AreDistinct : List Entry → List Member → Type 0
AreDistinct entries [] = Unit {0}
AreDistinct entries (m ∷ members) = AllByRecursion (AreDifferent entries m) members × AreDistinct entries members
