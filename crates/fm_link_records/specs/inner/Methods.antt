-- What a program records about methods one after the other, by what their descriptors declare and by their codes.
use Rattle.std.specs.Prelude.{ℕ, List, [], map, Option, Some, None}
use Rattle.std.specs.List.{slice_index_or}
use Rattle.fm_base.specs.declared.kinds.Kind.{Kind}
use Rattle.fm_code.specs.declared.code_array.Code.{Code}
use Rattle.fm_world.specs.Members.{OwnedMethod}
use Rattle.fm_world.specs.Programs.{body_of, class_id}
use Rattle.fm_world.specs.declared.declarations.DeclaredMethod.{DeclaredMethod}
use Rattle.fm_world.specs.declared.records.MethodInfo.{MethodInfo}
use Rattle.fm_link_names.specs.declared.descriptors.Kinds.{Kinds}
use Rattle.fm_link_records.specs.inner.Rows.{map_from}

-- the kinds of the parameters that a method's descriptor declares
abbrev pub kind_params : Option Kinds → List Kind
kind_params None = []
kind_params (Some kinds) = kinds.params

-- the kind of its result
abbrev pub kind_result : Option Kinds → Option Kind
kind_result None = None
kind_result (Some kinds) = kinds.result

-- the record of a method
abbrev pub method_told : OwnedMethod → Option Kinds → Option Code → MethodInfo
method_told owned kinds code = record {
  class = class_id owned.class;
  name = owned.method.name;
  descriptor = owned.method.descriptor;
  params = kind_params kinds;
  result = kind_result kinds;
  flags = owned.method.flags;
  body = body_of owned.method code;
}

-- the methods of a class
abbrev pub methods_among : ℕ → List DeclaredMethod → List OwnedMethod
methods_among class methods = map (λ m. record { class = class; method = m }) methods

-- methods that are numbered from this one on
abbrev pub method_numbered : List (Option Kinds) → List (Option Code) → ℕ → OwnedMethod → MethodInfo
method_numbered kinds codes number m = method_told m (slice_index_or kinds number None) (slice_index_or codes number None)

-- the records of methods, the first of which has this number
abbrev pub methods_told : List (Option Kinds) → List (Option Code) → ℕ → List OwnedMethod → List MethodInfo
methods_told kinds codes number methods = map_from (method_numbered kinds codes) number methods
