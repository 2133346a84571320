-- What descriptors name in a list of classes, where dimensions are kept in a byte (JVMS 4.3).
use Rattle.std.specs.Prelude.{◌≡◌, ℕ, ◌≤◌, ◌-◌, nat_lt, List, [], ◌∷◌, length, slice_get, Option, Some, None, is_none, option_and_then, unwrap_or, if◌then◌else◌}
use Rattle.std.specs.List.{AllByRecursion}
use Rattle.std.specs.Option.{option_or}
use Rattle.fm_base.specs.declared.kinds.Kind.{Kind}
use Rattle.fm_base.specs.declared.kinds.Kind.TheVariants as kind
use Rattle.fm_base.specs.declared.kinds.TypeRef.{TypeRef}
use Rattle.fm_code.specs.Names.{FieldType}
use Rattle.fm_link_names.specs.declared.descriptors.Kinds.{Kinds}
use Rattle.fm_world.specs.Descriptors.{class_in, class_number, class_type, declared_kind, field_type, kind_in, parameter_kinds, result_kind, type_in, types_in}
use Rattle.fm_world.specs.declared.declarations.DeclaredClass.{DeclaredClass}
use Rattle.fm_world.specs.declared.declarations.DeclaredField.{DeclaredField}
use Rattle.fm_world.specs.declared.declarations.DeclaredMethod.{DeclaredMethod}

-- ---- dimensions

-- an array has at most 255 dimensions (JVMS 4.3.2)
abbrev pub HasFewDimensions : FieldType → Type 0
HasFewDimensions t = t.dimensions ≤ 255

-- the same of each type
abbrev pub HaveFewDimensions : List FieldType → Type 0
HaveFewDimensions types = AllByRecursion HasFewDimensions types

-- each type that a class's members declare
pub record DeclaresFewDimensions (c : DeclaredClass) : Type 0 where
  pub fields : AllByRecursion (λ (f : DeclaredField). HaveFewDimensions (types_in f.descriptor)) c.fields
  pub methods : AllByRecursion (λ (m : DeclaredMethod). HaveFewDimensions (types_in m.descriptor)) c.methods

-- the result, where the dimensions fit a byte
abbrev pub if_few : {A : Type 0} → FieldType → Option A → Option A
if_few t answer = if nat_lt t.dimensions 256 then answer else None

-- the kind of a type, and that of a declared one
abbrev pub few_kind_in : List DeclaredClass → FieldType → Option Kind
few_kind_in classes t = if_few t (kind_in classes t)

-- the same, where an int stands for what is no kind
abbrev pub few_kind : List DeclaredClass → FieldType → Kind
few_kind classes t = unwrap_or (few_kind_in classes t) kind.Int

-- the type of objects that the name of a Class entry names
abbrev pub type_of_name : List DeclaredClass → List ℕ → Option TypeRef
type_of_name classes name = if_few (class_type name) (type_in classes (class_type name))

-- ---- classes that aren't there

-- the name where no class has it
abbrev pub absent_name : List DeclaredClass → List ℕ → Option (List ℕ)
absent_name classes name = if is_none (class_number classes name) then Some name else None

-- the class of a type, where it isn't there
abbrev pub missing_name : List DeclaredClass → FieldType → Option (List ℕ)
missing_name classes t = option_and_then (absent_name classes) (class_in t)

-- the first of the types' classes that isn't there
abbrev pub first_missing : List DeclaredClass → List FieldType → Option (List ℕ)
first_missing classes [] = None
first_missing classes (t ∷ types) = option_or (missing_name classes t) (first_missing classes types)

-- ---- kinds

-- the last of types, where there is one
abbrev pub last_of : {T : Type 0} → List T → Option T
last_of types = slice_get types (length types - 1)

-- what a descriptor declares
pub record DeclaresKinds (classes : List DeclaredClass) (descriptor : List ℕ) (kinds : Kinds) : Type 0 where
  pub params : kinds.params ≡ parameter_kinds classes descriptor
  pub result : kinds.result ≡ result_kind classes descriptor
  pub field : kinds.field ≡ declared_kind classes (field_type descriptor)
