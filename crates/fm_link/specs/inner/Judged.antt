-- What is known of class files before their classes are judged and once they are, and the refusals of each stage.
use Rattle.std.specs.Prelude.{◌≡◌, ℕ, List, [], ◌++◌, map, Some, slice_get}
use Rattle.std.specs.List.{AllByRecursion}
use Rattle.fm_code.specs.Spells.{HasSpelling}
use Rattle.fm_code.specs.declared.class_file.ClassDef.{ClassDef}
use Rattle.fm_link_names.specs.declared.given.GivenFile.{GivenFile}
use Rattle.fm_link_names.specs.declared.texts.Texts.{Texts}
use Rattle.fm_link_names.specs.inner.ClassNumbering.{NumbersClasses}
use Rattle.fm_link_names.specs.inner.Files.{AreFiles}
use Rattle.fm_link_names.specs.inner.Numbering.{texts_in, AreTexts}
use Rattle.fm_link.specs.declared.linked.Linked.{Linked}
use Rattle.fm_link.specs.declared.ready.Numbered.{Numbered}
use Rattle.fm_link.specs.declared.ready.Ready.{Ready}
use Rattle.fm_link_members.specs.declared.members.Members.{Members}
use Rattle.fm_link_supers.specs.inner.Hierarchy.{AreSound, IsHierarchy}
use Rattle.fm_link_members.specs.inner.MemberRows.{AreFieldRows, AreMethodRows}
use Rattle.fm_link_members.specs.inner.MemberTables.{AreFields, AreMethods}
use Rattle.fm_link_refusals.specs.inner.GivenClasses.{given_in}
use Rattle.fm_link_refusals.specs.inner.Linking.{names_array}
use Rattle.fm_world.specs.Causes.{Refusal}
use Rattle.fm_world.specs.Descriptors.{class_number}
use Rattle.fm_world.specs.Linking.{refused_built_ins, refused_duplicates, refused_fields, refused_main, refused_methods, refused_missing_classes, refused_not_implemented, refused_parents}
use Rattle.fm_world.specs.Lookups.{constructor_name}
use Rattle.fm_world.specs.Programs.{classes_of}
use Rattle.fm_world.specs.declared.declarations.DeclaredClass.{DeclaredClass}

-- ---- refusals

-- those of names that two classes have
abbrev pub name_refusals : List ClassDef → List Refusal
name_refusals given = refused_duplicates given ++ refused_built_ins given

-- those of classes whose names differ
abbrev pub class_refusals : List ClassDef → List Refusal
class_refusals given = refused_missing_classes given ++ refused_parents given

-- those of members, and of the main class
abbrev pub member_refusals : List ClassDef → List ℕ → List Refusal
member_refusals given main = refused_fields given ++ (refused_methods given ++ (refused_not_implemented given ++ refused_main given main))

-- all that are left once names differ
abbrev pub later_refusals : List ClassDef → List ℕ → List Refusal
later_refusals given main = class_refusals given ++ member_refusals given main

-- ---- files with numbers

-- the files are spelled, each with the name of a built-in class completes it, the texts are theirs, the classes are theirs and the built-in ones, and the
-- rows are those of the classes
pub record IsReady (texts : Texts) (files : List GivenFile) (classes : List DeclaredClass) (constructor : ℕ) (fields methods : Members) : Type 0 where
  pub spelled : AllByRecursion HasSpelling (given_in files)
  pub apart : refused_built_ins (given_in files) ≡ []
  pub texts_are : AreTexts texts
  pub files_are : AreFiles (texts_in texts) (given_in files) files
  pub classes_are : classes ≡ classes_of (given_in files)
  pub fields_are : AreFieldRows (texts_in texts) (classes_of (given_in files)) fields
  pub methods_are : AreMethodRows (texts_in texts) (classes_of (given_in files)) methods
  pub constructor_is : slice_get (texts_in texts) constructor ≡ Some constructor_name

-- the same of what is handed on
abbrev pub AreReady : Ready → Members → Members → Type 0
AreReady r fields methods = IsReady r.texts.now r.files.now r.classes.now r.constructor fields methods

-- the files are those of the given classes
pub record AreNumberedFiles (given : List ClassDef) (n : Numbered) : Type 0 where
  pub given_are : given_in n.files.items ≡ given
  pub ready : IsReady n.texts n.files.items n.classes.items n.constructor n.fields n.methods

-- ---- linked classes

-- no class is refused, and the tables are those of the classes, by the numbers of the texts
pub record AreLinked (classes : List DeclaredClass) (texts : List (List ℕ)) (l : Linked) : Type 0 where
  pub sound : AreSound classes
  pub numbers : NumbersClasses classes l.numbers.numbers
  pub by_text : l.by_text.items ≡ map (class_number classes) texts
  pub arrays : l.arrays.items ≡ map names_array texts
  pub hierarchy : IsHierarchy classes l.hierarchy
  pub fields : AreFields texts classes l.fields
  pub methods : AreMethods texts classes l.methods
