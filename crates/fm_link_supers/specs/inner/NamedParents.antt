-- The superclass and the listed interfaces of each class, by tables of the numbers of classes.
use Rattle.std.specs.Prelude.{◌≡◌, ℕ, Bool, List, [], ◌++◌, length, map, Option, None, Some, is_none, option_and_then, if◌then◌else◌}
use Rattle.std.specs.List.{filter_map, position_from, slice_index_or}
use Rattle.std.specs.Option.{option_or}
use Rattle.std.specs.Str.{bytes_eq}
use Rattle.fm_code.specs.declared.class_file.ClassDef.{ClassDef}
use Rattle.fm_link_names.specs.declared.class_numbers.ClassNumbers.{ClassNumbers}
use Rattle.fm_link_names.specs.declared.given.GivenFile.{GivenFile}
use Rattle.fm_link_names.specs.inner.ClassNumbering.{NumbersClasses}
use Rattle.fm_link_names.specs.inner.Files.{AreFiles, class_text_in}
use Rattle.fm_world.specs.BuiltIns.{built_in}
use Rattle.fm_world.specs.Causes.{own_name}
use Rattle.fm_world.specs.Descriptors.{class_number}
use Rattle.fm_world.specs.Programs.{classes_of}
use Rattle.fm_world.specs.declared.declarations.DeclaredClass.{DeclaredClass}

-- ---- by how a name is found and by the classes of the texts

-- what the text of that number names
abbrev pub at_text : List (Option ℕ) → ℕ → Option ℕ
at_text by_text text = slice_index_or by_text text None

-- the class that an index names, if it names one
abbrev pub class_named_in : List (Option ℕ) → GivenFile → ℕ → Option ℕ
class_named_in by_text file index = option_and_then (at_text by_text) (class_text_in file index)

-- the class of the name at an index; a name that isn't there is empty
abbrev pub class_at_text : (List ℕ → Option ℕ) → List (Option ℕ) → Option ℕ → Option ℕ
class_at_text find by_text None = find []
class_at_text find by_text (Some text) = at_text by_text text

-- the class of the name at an index of a file
abbrev pub class_listed_in : (List ℕ → Option ℕ) → List (Option ℕ) → GivenFile → ℕ → Option ℕ
class_listed_in find by_text file index = class_at_text find by_text (class_text_in file index)

-- the file's class has the name
abbrev pub is_named : List ℕ → GivenFile → Bool
is_named name file = bytes_eq (own_name file.class.now) name

-- the number of the class of the first file that has the name
abbrev pub number_among : List ℕ → List GivenFile → Option ℕ
number_among name files = position_from (is_named name) (length built_in) files

-- that of the class that completes a declared one, which is of no file
abbrev pub completion_among : List GivenFile → DeclaredClass → Option ℕ
completion_among files class = if is_none class.file then number_among class.name files else None

-- the superclass of a declared class, where it names one: the class that completes it, and else the one that it names
abbrev pub superclass_by : (List ℕ → Option ℕ) → List GivenFile → DeclaredClass → Option ℕ
superclass_by find files class = option_and_then (λ name. option_or (completion_among files class) (find name)) class.superclass

-- the interfaces that a declared class lists
abbrev pub interfaces_by : (List ℕ → Option ℕ) → DeclaredClass → List ℕ
interfaces_by find class = filter_map find class.interfaces

-- the superclass of each class
abbrev pub parents_by : (List ℕ → Option ℕ) → List (Option ℕ) → List GivenFile → List (Option ℕ)
parents_by find by_text files =
    map (superclass_by find files) built_in ++ map (λ (file : GivenFile). class_named_in by_text file file.class.now.super_class) files

-- the interfaces that a file's class lists
abbrev pub listed_in : (List ℕ → Option ℕ) → List (Option ℕ) → GivenFile → List ℕ
listed_in find by_text file = filter_map (class_listed_in find by_text file) file.class.now.interfaces

-- those that each class lists
abbrev pub listed_by : (List ℕ → Option ℕ) → List (Option ℕ) → List GivenFile → List (List ℕ)
listed_by find by_text files = map (interfaces_by find) built_in ++ map (listed_in find by_text) files

-- ---- of which classes the tables are

-- the classes are the built-in ones and those of the files; they are numbered by name, and by the texts that the files' numbers stand for
pub record NamesClasses (classes : List DeclaredClass) (numbers : ClassNumbers) (by_text : List (Option ℕ)) (files : List GivenFile) : Type 0 where
  pub given : List ClassDef
  pub texts : List (List ℕ)
  pub classes_are : classes ≡ classes_of given
  pub by_name : NumbersClasses classes numbers.numbers
  pub by_number : by_text ≡ map (class_number classes) texts
  pub files_are : AreFiles texts given files
