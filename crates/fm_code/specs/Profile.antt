-- What is accepted of class files beside their spelling: versions, limits of methods, and what is supported; and where a class fails first.
use Rattle.std.specs.Prelude.{◌≡◌, ℕ, ◌<◌, ◌≤◌, ◌==◌, ◌||◌, ◌⊎◌, Bool, true, false, List, codes, ◌++◌, length, take, Option, Some, None, is_some, IfSome, IsSomeAnd, slice_get}
use Rattle.std.specs.List.{list_any, AllByRecursion}
use Rattle.std.specs.Option.{option_map}
use Rattle.std.specs.Char.Utf16.{has_unpaired_surrogate}
use Rattle.fm_base.specs.Texts.{units}
use Rattle.fm_base.specs.declared.characters.TheConstants.{FLOAT_LETTER, DOUBLE_LETTER}
use Rattle.fm_base.specs.declared.limits.TheConstants.{MAX_STACK_WORDS, MAX_LOCAL_WORDS, MAX_HANDLERS}
use Rattle.fm_code.specs.AccessFlags.{is_abstract, is_interface, is_native}
use Rattle.fm_code.specs.Numbers.{two}
use Rattle.fm_code.specs.Fits.{FitsTwo}
use Rattle.fm_code.specs.ClassBytes.{magic}
use Rattle.fm_code.specs.ConstantPool.{entry_at, utf8_at, class_name_at, field_ref_at, method_ref_at, interface_method_ref_at}
use Rattle.fm_code.specs.Members.{code_of}
use Rattle.fm_code.specs.Names.{BaseType, primitive, object, FieldType, IsFieldType, field_descriptor, MethodType, IsMethodType, method_descriptor, IsArrayName}
use Rattle.fm_code.specs.Spells.{Spells}
use Rattle.fm_code.specs.declared.constant_pool.Entry.{Entry}
use Rattle.fm_code.specs.declared.constant_pool.Entry.TheVariants as entry
use Rattle.fm_code.specs.declared.class_file.ClassDef.{ClassDef}
use Rattle.fm_code.specs.declared.class_file.Member.{Member}
use Rattle.fm_code.specs.declared.code_array.Code.{Code}
use Rattle.fm_code.specs.declared.code_array.Item.{Item}
use Rattle.fm_code.specs.declared.instructions.Insn.{Insn}
use Rattle.fm_code.specs.declared.instructions.Insn.TheVariants as insn
use Rattle.fm_code.specs.declared.profile.TheConstants.{OLDEST_MAJOR, OLDEST_MINOR, NEWEST_MAJOR}
use Rattle.fm_code.specs.declared.profile.What.{What}
use Rattle.fm_code.specs.declared.profile.What.TheVariants as what
use Rattle.fm_code.specs.declared.profile.OverLimit.{OverLimit}
use Rattle.fm_code.specs.declared.profile.Place.{Place}
use Rattle.fm_code.specs.declared.profile.Place.TheVariants as place
use Rattle.fm_code.specs.declared.profile.Unsupported.{Unsupported}

-- ---- versions (JVMS 4.1)

-- 45.3, 46.0, 47.0, 48.0, 49.0, 50.0, 51.0 and 52.0
abbrev pub IsAcceptedVersion : ℕ → ℕ → Type 0
IsAcceptedVersion major minor =
    ((major ≡ OLDEST_MAJOR) × (minor ≡ OLDEST_MINOR)) ⊎ ((OLDEST_MAJOR < major) × (major ≤ NEWEST_MAJOR) × (minor ≡ 0))

-- the first eight bytes are the magic number and this version
pub record HasVersion (bytes : List ℕ) (major minor : ℕ) : Type 0 where
  pub major_fits : FitsTwo major
  pub minor_fits : FitsTwo minor
  pub head : take 8 bytes ≡ magic ++ (two minor ++ two major)

-- they are the magic number and a version that isn't accepted
pub record HasOtherVersion (bytes : List ℕ) (major minor : ℕ) : Type 0 where
  pub version : HasVersion bytes major minor
  pub other : ¬ IsAcceptedVersion major minor

-- no record spells the bytes, and they don't begin with a version that isn't accepted
pub record IsMalformed (bytes : List ℕ) : Type 0 where
  pub not_spelled : (c : ClassDef) → ¬ Spells bytes c
  pub no_other_version : (major minor : ℕ) → ¬ HasOtherVersion bytes major minor

-- ---- limits of methods

-- the count of this kind in a code
abbrev pub count_of : What → Code → ℕ
count_of what.Stack code = code.max_stack
count_of what.Locals code = code.max_locals
count_of what.Handlers code = length code.handlers

-- the limit of counts of this kind
abbrev pub limit_of : What → ℕ
limit_of what.Stack = MAX_STACK_WORDS
limit_of what.Locals = MAX_LOCAL_WORDS
limit_of what.Handlers = MAX_HANDLERS

-- the count is within its limit
abbrev pub IsWithin : What → Code → Type 0
IsWithin kind code = count_of kind code ≤ limit_of kind

-- all counts of a code are
pub record CodeIsWithin (code : Code) : Type 0 where
  pub stack : IsWithin what.Stack code
  pub locals : IsWithin what.Locals code
  pub handlers : IsWithin what.Handlers code

-- a method without code has no counts
abbrev pub MethodIsWithin : Member → Type 0
MethodIsWithin m = IfSome (code_of m) CodeIsWithin

-- all methods of a class are within the limits
abbrev pub IsWithinLimits : ClassDef → Type 0
IsWithinLimits c = AllByRecursion MethodIsWithin c.methods

-- the counts that are looked at before this one are within their limits
abbrev pub AreWithinBefore : What → Code → Type 0
AreWithinBefore what.Stack code = Unit {0}
AreWithinBefore what.Locals code = IsWithin what.Stack code
AreWithinBefore what.Handlers code = IsWithin what.Stack code × IsWithin what.Locals code

-- the first count of the code above its limit
pub record IsFirstOver (kind : What) (count : ℕ) (code : Code) : Type 0 where
  pub before : AreWithinBefore kind code
  pub count_is : count ≡ count_of kind code
  pub above : limit_of kind < count

-- the first method with a count above its limit, and its first one
pub record IsFirstOverLimit (c : ClassDef) (over : OverLimit) : Type 0 where
  pub before : AllByRecursion MethodIsWithin (take over.method c.methods)
  pub there : IsSomeAnd (slice_get c.methods over.method) (λ m. IsSomeAnd (code_of m) (IsFirstOver over.what over.count))

-- ---- floats and doubles

-- a float, a double, or an array of these
abbrev pub is_floating : FieldType → Bool
is_floating t = is_floating_base t.base where
  is_floating_base : BaseType → Bool
  is_floating_base (primitive letter) = (letter == FLOAT_LETTER) || (letter == DOUBLE_LETTER)
  is_floating_base (object name) = false

-- whether a result is one
abbrev pub is_floating_result : Option FieldType → Bool
is_floating_result None = false
is_floating_result (Some t) = is_floating t

-- the descriptor of a field, or of a method, that has F or D for a type; letters of class names don't count
abbrev pub IsFloatingField : List ℕ → Type 0
IsFloatingField descriptor = (t : FieldType) × (IsFieldType t × ((descriptor ≡ field_descriptor t) × (is_floating t ≡ true)))

-- the descriptor of a method with such a parameter or result
abbrev pub IsFloatingMethod : List ℕ → Type 0
IsFloatingMethod descriptor =
    (m : MethodType) × (IsMethodType m × ((descriptor ≡ method_descriptor m) × ((list_any is_floating m.parameters || is_floating_result m.result) ≡ true)))

-- the name of an array of floats or doubles
abbrev pub IsFloatingArray : List ℕ → Type 0
IsFloatingArray name = IsArrayName name × IsFloatingField name

-- ---- instructions

-- whether an instruction is one that is left out
abbrev pub is_left_out : Insn → Bool
is_left_out (insn.LeftOut opcode) = true
is_left_out i = false

-- what ldc, ldc_w and ldc2_w may load: an int, a long, a text or the literal of a class
abbrev pub is_supported_constant : Entry → Bool
is_supported_constant (entry.Integer value) = true
is_supported_constant (entry.Long value) = true
is_supported_constant (entry.Text units) = true
is_supported_constant (entry.Class name) = true
is_supported_constant e = false

-- whether an instruction loads no other constant
abbrev pub loads_supported : List Entry → Insn → Bool
loads_supported entries (insn.LoadPool index) = is_supported_constant (entry_at entries index)
loads_supported entries i = true

-- whether the method that invokespecial or invokestatic names is one of a class
abbrev pub calls_of_class : List Entry → Insn → Bool
calls_of_class entries (insn.Special index) = is_some (method_ref_at entries index)
calls_of_class entries (insn.Static index) = is_some (method_ref_at entries index)
calls_of_class entries i = true

-- the class that an instruction names, by itself or as the class of a member
abbrev pub class_named : List Entry → Insn → Option (List ℕ)
class_named entries (insn.LoadPool index) = class_name_at entries index
class_named entries (insn.GetStatic index) = option_map (λ m. m.class) (field_ref_at entries index)
class_named entries (insn.PutStatic index) = option_map (λ m. m.class) (field_ref_at entries index)
class_named entries (insn.GetField index) = option_map (λ m. m.class) (field_ref_at entries index)
class_named entries (insn.PutField index) = option_map (λ m. m.class) (field_ref_at entries index)
class_named entries (insn.Virtual index) = option_map (λ m. m.class) (method_ref_at entries index)
class_named entries (insn.Special index) = option_map (λ m. m.class) (method_ref_at entries index)
class_named entries (insn.Static index) = option_map (λ m. m.class) (method_ref_at entries index)
class_named entries (insn.Interface index) = option_map (λ m. m.class) (interface_method_ref_at entries index)
class_named entries (insn.New index) = class_name_at entries index
class_named entries (insn.NewRefs index) = class_name_at entries index
class_named entries (insn.Cast index) = class_name_at entries index
class_named entries (insn.IsA index) = class_name_at entries index
class_named entries (insn.MultiArray index dimensions) = class_name_at entries index
class_named entries i = None

-- an instruction, with the entries that it names
pub record ItemIsSupported (entries : List Entry) (item : Item) : Type 0 where
  pub not_left_out : is_left_out item.insn ≡ false
  pub constant : loads_supported entries item.insn ≡ true
  pub of_class : calls_of_class entries item.insn ≡ true
  pub class : IfSome (class_named entries item.insn) (λ name. ¬ IsFloatingArray name)

-- ---- what is supported

-- a class's name has neither U+0000 nor a unit of a surrogate pair left alone
pub record IsSupportedName (name : List ℕ) : Type 0 where
  pub no_zero : list_any (λ unit. unit == 0) (units name) ≡ false
  pub whole_pairs : has_unpaired_surrogate (units name) ≡ false

-- the name of the class
abbrev pub NameIsSupported : ClassDef → Type 0
NameIsSupported c = IsSomeAnd (class_name_at c.pool.entries c.this_class) IsSupportedName

-- a field
abbrev pub FieldIsSupported : List Entry → Member → Type 0
FieldIsSupported entries m = IsSomeAnd (utf8_at entries m.descriptor) (λ descriptor. ¬ IsFloatingField descriptor)

-- no method with code in an interface, but for the start of the interface itself (JVMS 4.6)
abbrev pub IsSupportedInInterface : Bool → List Entry → Member → Type 0
IsSupportedInInterface in_interface entries m = in_interface ≡ true → (is_abstract m.flags ≡ true) ⊎ (utf8_at entries m.name ≡ Some (codes "<clinit>"))

-- a method of a class or of an interface, beside its code
pub record HeadIsSupported (in_interface : Bool) (entries : List Entry) (m : Member) : Type 0 where
  pub descriptor : IsSomeAnd (utf8_at entries m.descriptor) (λ descriptor. ¬ IsFloatingMethod descriptor)
  pub not_native : is_native m.flags ≡ false
  pub of_interface : IsSupportedInInterface in_interface entries m

-- a method with its code
pub record MethodIsSupported (in_interface : Bool) (entries : List Entry) (m : Member) : Type 0 where
  pub head : HeadIsSupported in_interface entries m
  pub items : IfSome (code_of m) (λ code. AllByRecursion (ItemIsSupported entries) code.items)

-- a method handle, the type of a method, or what an invokedynamic calls (JVMS 4.4.8 to 4.4.10)
abbrev pub is_dynamic : Entry → Bool
is_dynamic (entry.MethodHandle kind member) = true
is_dynamic (entry.MethodType descriptor) = true
is_dynamic (entry.InvokeDynamic bootstrap member) = true
is_dynamic e = false

-- an entry of the pool, whether an instruction names it or not
abbrev pub EntryIsSupported : Entry → Type 0
EntryIsSupported e = is_dynamic e ≡ false

-- a class in which all is supported
pub record IsSupported (c : ClassDef) : Type 0 where
  pub name : NameIsSupported c
  pub fields : AllByRecursion (FieldIsSupported c.pool.entries) c.fields
  pub methods : AllByRecursion (MethodIsSupported (is_interface c.flags) c.pool.entries) c.methods
  pub pool : AllByRecursion EntryIsSupported c.pool.entries

-- ---- the first place that isn't supported: the class's name, then fields, then methods, of a method its head and then its items, then the pool

-- the first item of the code that isn't supported, by its offset
pub record IsFirstUnsupportedItem (entries : List Entry) (offset : ℕ) (code : Code) : Type 0 where
  pub index : ℕ
  pub before : AllByRecursion (ItemIsSupported entries) (take index code.items)
  pub there : IsSomeAnd (slice_get code.items index) (λ item. (¬ ItemIsSupported entries item) × (offset ≡ item.offset))

-- what of a method isn't supported first: its head, at 0, or an item
abbrev pub FailsAt : Bool → List Entry → ℕ → Member → Type 0
FailsAt in_interface entries offset m =
    ((¬ HeadIsSupported in_interface entries m) × (offset ≡ 0)) ⊎ (HeadIsSupported in_interface entries m × IsSomeAnd (code_of m) (IsFirstUnsupportedItem entries offset))

-- the first field that is not supported
pub record IsFirstUnsupportedField (c : ClassDef) (index : ℕ) : Type 0 where
  pub name : NameIsSupported c
  pub before : AllByRecursion (FieldIsSupported c.pool.entries) (take index c.fields)
  pub there : IsSomeAnd (slice_get c.fields index) (λ m. ¬ FieldIsSupported c.pool.entries m)

-- the first method that is not supported, with the offset that is reported
pub record IsFirstUnsupportedMethod (c : ClassDef) (index offset : ℕ) : Type 0 where
  pub name : NameIsSupported c
  pub fields : AllByRecursion (FieldIsSupported c.pool.entries) c.fields
  pub before : AllByRecursion (MethodIsSupported (is_interface c.flags) c.pool.entries) (take index c.methods)
  pub there : IsSomeAnd (slice_get c.methods index) (FailsAt (is_interface c.flags) c.pool.entries offset)

-- the first entry of the pool that is not supported, where all else is
pub record IsFirstUnsupportedEntry (c : ClassDef) (index : ℕ) : Type 0 where
  pub name : NameIsSupported c
  pub fields : AllByRecursion (FieldIsSupported c.pool.entries) c.fields
  pub methods : AllByRecursion (MethodIsSupported (is_interface c.flags) c.pool.entries) c.methods
  pub before : AllByRecursion EntryIsSupported (take index c.pool.entries)
  pub there : IsSomeAnd (slice_get c.pool.entries index) (λ e. ¬ EntryIsSupported e)

-- the first place that is not supported
abbrev pub IsFirstUnsupported : ClassDef → Unsupported → Type 0
IsFirstUnsupported c unsupported = at_place unsupported.place where
  at_place : Place → Type 0
  at_place place.OfClass = (¬ NameIsSupported c) × (unsupported.offset ≡ 0)
  at_place (place.OfField index) = IsFirstUnsupportedField c index × (unsupported.offset ≡ 0)
  at_place (place.OfMethod index) = IsFirstUnsupportedMethod c index unsupported.offset
  at_place place.OfPool = IsFirstUnsupportedEntry c unsupported.offset

-- ---- all of it

-- the class is accepted
pub record Profile (c : ClassDef) : Type 0 where
  pub version : IsAcceptedVersion c.major c.minor
  pub limits : IsWithinLimits c
  pub supported : IsSupported c
