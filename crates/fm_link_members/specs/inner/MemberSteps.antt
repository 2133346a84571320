-- The fields, or the methods, of classes as rows, one after the other.
use Rattle.std.specs.Prelude.{◌≡◌, ℕ, List, ◌++◌, Some, slice_get}
use Rattle.fm_code.specs.declared.class_file.Member.{Member}
use Rattle.fm_code.specs.declared.constant_pool.Entry.{Entry}
use Rattle.fm_link_names.specs.declared.texts.Texts.{Texts}
use Rattle.fm_link_names.specs.inner.Numbering.{texts_in, AreTexts, Extends}
use Rattle.fm_world.specs.Declarations.{text_at}
use Rattle.fm_world.specs.declared.built_ins.BuiltInField.{BuiltInField}
use Rattle.fm_world.specs.declared.built_ins.BuiltInMethod.{BuiltInMethod}
use Rattle.fm_link_members.specs.declared.members.MemberRow.{MemberRow}
use Rattle.fm_link_members.specs.inner.MemberRows.{AreRows, Owned}

-- the texts are those from before and further ones
pub record Grows (old new : Texts) : Type 0 where
  pub are : AreTexts new
  pub extends : Extends (texts_in old) (texts_in new)

-- the row says this of a member
pub record IsRow (texts : List (List ℕ)) (o : Owned) (row : MemberRow) : Type 0 where
  pub class_is : row.class ≡ o.class
  pub name : slice_get texts row.name ≡ Some o.name
  pub descriptor : slice_get texts row.descriptor ≡ Some o.descriptor
  pub flags : row.flags ≡ o.flags

-- what a class file says of a member of the class
abbrev pub member_alike : ℕ → List Entry → Member → Owned
member_alike class entries m = record { class = class; name = text_at entries m.name; descriptor = text_at entries m.descriptor; flags = m.flags }

-- what the table of built-in classes says of a field
abbrev pub built_in_field_alike : ℕ → BuiltInField → Owned
built_in_field_alike class f = record { class = class; name = f.name.now; descriptor = f.descriptor.now; flags = f.flags }

-- the same of a method
abbrev pub built_in_method_alike : ℕ → BuiltInMethod → Owned
built_in_method_alike class m = record { class = class; name = m.name.now; descriptor = m.descriptor.now; flags = m.flags }

-- rows of these members after the others
abbrev pub AddsRows : List (List ℕ) → List (List ℕ) → List Owned → List MemberRow → List MemberRow → Type 0
AddsRows before after more old new = (owned : List Owned) → AreRows before owned old → AreRows after (owned ++ more) new
