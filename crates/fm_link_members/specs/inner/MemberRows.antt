-- The fields, or the methods, of all classes as rows: their names and their descriptors go by the numbers of texts.
use Rattle.std.specs.Prelude.{◌≡◌, ℕ, ◌+◌, ◌<◌, ◌≤◌, List, length, map, Option, Some, None, slice_get}
use Rattle.std.specs.List.{slice_index_or}
use Rattle.fm_link_names.specs.inner.Numbering.{text_of}
use Rattle.fm_world.specs.Members.{OwnedField, OwnedMethod, fields_of, first_field, first_method, methods_of}
use Rattle.fm_world.specs.declared.declarations.DeclaredClass.{DeclaredClass}
use Rattle.fm_world.specs.inner.Tables.{numbers_below}
use Rattle.fm_link_members.specs.declared.members.MemberRow.{MemberRow}
use Rattle.fm_link_members.specs.declared.members.Members.{Members}

-- a field or a method alike
pub record Owned : Type 0 where
  pub class : ℕ
  pub name : List ℕ
  pub descriptor : List ℕ
  pub flags : ℕ

-- what a class declares of a field, with the number of the class
abbrev pub field_alike : OwnedField → Owned
field_alike f = record { class = f.class; name = f.field.name; descriptor = f.field.descriptor; flags = f.field.flags }

-- the same of a method
abbrev pub method_alike : OwnedMethod → Owned
method_alike m = record { class = m.class; name = m.method.name; descriptor = m.method.descriptor; flags = m.method.flags }

-- the value for a row past the end
abbrev pub no_row : MemberRow
no_row = record { class = 0; name = 0; descriptor = 0; flags = 0 }

-- what a row says
abbrev pub row_alike : List (List ℕ) → MemberRow → Owned
row_alike texts r = record { class = r.class; name = text_of texts r.name; descriptor = text_of texts r.descriptor; flags = r.flags }

-- the rows say this, and their numbers are those of texts
pub record AreRows (texts : List (List ℕ)) (owned : List Owned) (rows : List MemberRow) : Type 0 where
  pub same : map (row_alike texts) rows ≡ owned
  pub names : (k : ℕ) (row : MemberRow) → slice_get rows k ≡ Some row → row.name < length texts
  pub descriptors : (k : ℕ) (row : MemberRow) → slice_get rows k ≡ Some row → row.descriptor < length texts

-- a class's members among all: from the first number up to the second
abbrev pub section_of : List ℕ → ℕ → ℕ × ℕ
section_of first class = between (slice_get first class) (slice_get first (class + 1)) where
  between : Option ℕ → Option ℕ → ℕ × ℕ
  between None end = (0, 0)
  between start None = (0, 0)
  between (Some start) (Some end) = (start, end)

-- the fields of the classes, and the number of the first one of each class
pub record AreFieldRows (texts : List (List ℕ)) (classes : List DeclaredClass) (m : Members) : Type 0 where
  pub rows : AreRows texts (map field_alike (fields_of classes)) m.rows.items
  pub first : m.first.items ≡ map (first_field classes) (numbers_below (length classes + 1))

-- the methods of the classes, and the number of the first one of each class
pub record AreMethodRows (texts : List (List ℕ)) (classes : List DeclaredClass) (m : Members) : Type 0 where
  pub rows : AreRows texts (map method_alike (methods_of classes)) m.rows.items
  pub first : m.first.items ≡ map (first_method classes) (numbers_below (length classes + 1))

-- the members of each class are together, from a number up to the next class's one
pub record AreSections (classes : List DeclaredClass) (m : Members) : Type 0 where
  pub inside : (class k : ℕ) → class < length classes → (section_of m.first.items class).0 ≤ k → k < (section_of m.first.items class).1
      → (slice_index_or m.rows.items k no_row).class ≡ class
  pub outside : (class k : ℕ) → k < length m.rows.items → (slice_index_or m.rows.items k no_row).class ≡ class
      → (class < length classes) × ((section_of m.first.items class).0 ≤ k) × (k < (section_of m.first.items class).1)
  pub within : (class : ℕ) → class < length classes → (section_of m.first.items class).1 ≤ length m.rows.items
  pub rising : (class : ℕ) → class < length classes → (section_of m.first.items class).0 ≤ (section_of m.first.items class).1
