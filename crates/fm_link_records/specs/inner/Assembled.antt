-- When tables are those of a program.
use Rattle.std.specs.Prelude.{◌≡◌, ℕ, ◌<◌, List, length, Option, Some, None}
use Rattle.std.specs.List.{slice_index_or}
use Rattle.fm_code.specs.declared.code_array.Code.{Code}
use Rattle.fm_world.specs.Descriptors.{declared_kind, field_type, parameter_kinds, result_kind}
use Rattle.fm_world.specs.Members.{fields_of, field_at, methods_of, method_at}
use Rattle.fm_world.specs.Programs.{Outline, first_value}
use Rattle.fm_world.specs.declared.declarations.DeclaredClass.{DeclaredClass}
use Rattle.fm_world.specs.declared.uses.Use.{Use}
use Rattle.fm_world.specs.declared.uses.Use.TheVariants as resolved
use Rattle.fm_link_names.specs.declared.descriptors.Kinds.{Kinds}
use Rattle.fm_link_records.specs.inner.Fields.{kind_field}
use Rattle.fm_link_records.specs.inner.Methods.{kind_params, kind_result}

-- what is kept for each method is what its descriptor declares
pub record AreMethodKinds (classes : List DeclaredClass) (kinds : List (Option Kinds)) : Type 0 where
  pub params : (k : ℕ) → k < length (methods_of classes)
      → kind_params (slice_index_or kinds k None) ≡ parameter_kinds classes (method_at classes k).method.descriptor
  pub results : (k : ℕ) → k < length (methods_of classes)
      → kind_result (slice_index_or kinds k None) ≡ result_kind classes (method_at classes k).method.descriptor

-- and for each field the kind that its descriptor declares
abbrev pub AreFieldKinds : List DeclaredClass → List (Option Kinds) → Type 0
AreFieldKinds classes kinds =
    (k : ℕ) → k < length (fields_of classes)
    → kind_field (slice_index_or kinds k None) ≡ declared_kind classes (field_type (field_at classes k).field.descriptor)

-- each method has a place among the codes, and a built-in one has no code
pub record AreCodes (classes : List DeclaredClass) (codes : List (Option Code)) : Type 0 where
  pub count : length codes ≡ length (methods_of classes)
  pub built_in : (k row : ℕ) → k < length (methods_of classes) → (method_at classes k).method.row ≡ Some row → slice_index_or codes k None ≡ None

-- what each field holds first
abbrev pub AreFirsts : Outline → List Use → Type 0
AreFirsts o firsts =
    (k : ℕ) → k < length (fields_of o.classes) → slice_index_or firsts k resolved.Unused ≡ first_value o (field_at o.classes k).field.value
