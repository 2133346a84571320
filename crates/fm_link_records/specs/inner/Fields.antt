-- What a program records about fields one after the other, by what their descriptors declare, by their places and by what they hold first.
use Rattle.std.specs.Prelude.{ℕ, ◌+◌, List, [], ◌∷◌, ◌++◌, map, slice_index, Option, Some, None, count_by, if◌then◌else◌}
use Rattle.std.specs.List.{slice_index_or}
use Rattle.fm_base.specs.declared.kinds.Kind.{Kind}
use Rattle.fm_base.specs.declared.kinds.Kind.TheVariants as kind
use Rattle.fm_code.specs.AccessFlags.{is_static}
use Rattle.fm_world.specs.Members.{OwnedField}
use Rattle.fm_world.specs.Programs.{class_id}
use Rattle.fm_world.specs.declared.declarations.DeclaredClass.{DeclaredClass}
use Rattle.fm_world.specs.declared.declarations.DeclaredField.{DeclaredField}
use Rattle.fm_world.specs.declared.records.FieldInfo.{FieldInfo}
use Rattle.fm_world.specs.declared.uses.Use.{Use}
use Rattle.fm_world.specs.declared.uses.Use.TheVariants as resolved
use Rattle.fm_link_names.specs.declared.descriptors.Kinds.{Kinds}
use Rattle.fm_link_records.specs.inner.Rows.{map_from}

-- the kind that a field's descriptor declares
abbrev pub kind_field : Option Kinds → Kind
kind_field None = kind.Int
kind_field (Some kinds) = kinds.field

-- the record of a field
abbrev pub field_told : OwnedField → Option Kinds → ℕ → Use → FieldInfo
field_told owned kinds slot first = record {
  class = class_id owned.class;
  name = owned.field.name;
  kind = kind_field kinds;
  is_static = is_static owned.field.flags;
  slot = slot;
  first = first;
}

-- the fields of a class
abbrev pub fields_among : ℕ → List DeclaredField → List OwnedField
fields_among class fields = map (λ f. record { class = class; field = f }) fields

-- fields that are numbered from this one on
abbrev pub field_numbered : List (Option Kinds) → List ℕ → List Use → ℕ → OwnedField → FieldInfo
field_numbered kinds slots firsts number f =
    field_told f (slice_index_or kinds number None) (slice_index slots number) (slice_index_or firsts number resolved.Unused)

-- the records of fields, the first of which has this number
abbrev pub fields_told : List (Option Kinds) → List ℕ → List Use → ℕ → List OwnedField → List FieldInfo
fields_told kinds slots firsts number fields = map_from (field_numbered kinds slots firsts) number fields

-- ---- places

-- the number of static fields
abbrev pub static_fields : List DeclaredField → ℕ
static_fields fields = count_by (λ f. is_static f.flags) fields

-- the places of a class's fields: of static ones from the first number on, of others from the second on
abbrev pub slots_among : ℕ → ℕ → List DeclaredField → List ℕ
slots_among static own [] = []
slots_among static own (f ∷ fs) =
    let b = is_static f.flags in
    (if b then static else own) ∷ slots_among (static + (if b then 1 else 0)) (own + (if b then 0 else 1)) fs

-- the places of all fields, where each class's own ones begin at its base
abbrev pub slots_told : List ℕ → ℕ → ℕ → List DeclaredClass → List ℕ
slots_told bases static class [] = []
slots_told bases static class (c ∷ classes) =
    slots_among static (slice_index bases class) c.fields ++ slots_told bases (static + static_fields c.fields) (class + 1) classes
