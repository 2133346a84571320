-- What fields and methods are looked up by, and of which classes.
use Rattle.std.specs.Prelude.{◌≡◌, ◌==◌, ℕ, Bool, true, List, map, not, Option, Some, None, slice_get}
use Rattle.std.specs.List.{list_any}
use Rattle.fm_code.specs.AccessFlags.{is_static}
use Rattle.fm_code.specs.ConstantPool.{MemberName}
use Rattle.fm_link_names.specs.declared.given.MemberTexts.{MemberTexts}
use Rattle.fm_link_names.specs.inner.Numbering.{texts_in, AreTexts}
use Rattle.fm_link_supers.specs.inner.Hierarchy.{IsHierarchy}
use Rattle.fm_link_members.specs.inner.MemberTables.{AreFields, AreMethods}
use Rattle.fm_world.specs.Causes.{differs}
use Rattle.fm_world.specs.Descriptors.{class_number, class_type}
use Rattle.fm_world.specs.declared.declarations.DeclaredClass.{DeclaredClass}
use Rattle.fm_link_refusals.specs.declared.linking.Linking.{Linking}

-- the name of a Class entry is that of an array
abbrev pub names_array : List ℕ → Bool
names_array name = not ((class_type name).dimensions == 0)

-- three numbers are those of a member's texts
pub record IsMemberOf (texts : List (List ℕ)) (m : MemberName) (t : MemberTexts) : Type 0 where
  pub class : slice_get texts t.class ≡ Some m.class
  pub name : slice_get texts t.name ≡ Some m.name
  pub descriptor : slice_get texts t.descriptor ≡ Some m.descriptor

-- the tables are those of the classes, by the numbers of the texts
pub record IsLinking (classes : List DeclaredClass) (l : Linking) : Type 0 where
  pub texts : AreTexts l.texts.now
  pub by_text : l.by_text.now ≡ map (class_number classes) (texts_in l.texts.now)
  pub arrays : l.arrays.now ≡ map names_array (texts_in l.texts.now)
  pub hierarchy : IsHierarchy classes l.hierarchy.now
  pub fields : AreFields (texts_in l.texts.now) classes l.fields.now
  pub methods : AreMethods (texts_in l.texts.now) classes l.methods.now

-- nothing is found, or what has another flag than some that is wanted
abbrev pub is_unlike : Option ℕ → List Bool → Bool
is_unlike None wanted = true
is_unlike (Some flags) wanted = list_any (differs (is_static flags)) wanted
