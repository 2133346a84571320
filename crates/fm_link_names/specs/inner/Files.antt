-- Class files with the numbers of their texts.
use Rattle.std.specs.Prelude.{◌≡◌, ℕ, ◌<◌, List, length, Option, Some, None, option_map, option_and_then, slice_get}
use Rattle.std.specs.List.{slice_index_or}
use Rattle.fm_code.specs.ConstantPool.{entry_at, utf8_at, MemberName}
use Rattle.fm_code.specs.declared.constant_pool.Entry.{Entry}
use Rattle.fm_code.specs.declared.constant_pool.Entry.TheVariants as entry
use Rattle.fm_code.specs.declared.class_file.ClassDef.{ClassDef}
use Rattle.fm_link_names.specs.declared.given.GivenFile.{GivenFile}
use Rattle.fm_link_names.specs.declared.given.MemberTexts.{MemberTexts}
use Rattle.fm_link_names.specs.inner.Numbering.{IsNumberOf, text_of}

-- ---- what is asked of a file

-- the number of the text at an index
abbrev pub text_in : GivenFile → ℕ → Option ℕ
text_in file index = slice_index_or file.texts.items index None

-- the index of the name of the class that an entry is
abbrev pub class_of_entry : Entry → Option ℕ
class_of_entry (entry.Class name) = Some name
class_of_entry e = None

-- the number of the name of the class at an index
abbrev pub class_text_in : GivenFile → ℕ → Option ℕ
class_text_in file index = option_and_then (text_in file) (class_of_entry (entry_at file.class.now.pool.entries index))

-- what is at the two indices of a name with its descriptor, if both are there
abbrev pub pair_of_entry : {A : Type 0} → (ℕ → Option A) → Entry → Option (A × A)
pair_of_entry at (entry.NameAndType name descriptor) = option_and_then (λ n. option_and_then (λ d. Some (n, d)) (at descriptor)) (at name)
pair_of_entry at e = None

-- the numbers of the name and of the descriptor at an index
abbrev pub named_and_typed_in : GivenFile → ℕ → Option (ℕ × ℕ)
named_and_typed_in file index = pair_of_entry (text_in file) (entry_at file.class.now.pool.entries index)

-- the member that the indices of a class and of a name with its descriptor name
abbrev pub member_named_in : GivenFile → ℕ → ℕ → Option MemberTexts
member_named_in file class member =
    option_and_then (λ c. option_and_then (λ pair. Some (record { class = c; name = pair.0; descriptor = pair.1 })) (named_and_typed_in file member))
    (class_text_in file class)

-- what the two indices of a member lead to
abbrev pub member_of_entry : {A : Type 0} → (ℕ → ℕ → Option A) → Entry → Option A
member_of_entry named (entry.Field class member) = named class member
member_of_entry named (entry.Method class member) = named class member
member_of_entry named (entry.InterfaceMethod class member) = named class member
member_of_entry named e = None

-- the member at an index, of a class or of an interface
abbrev pub member_in : GivenFile → ℕ → Option MemberTexts
member_in file index = member_of_entry (member_named_in file) (entry_at file.class.now.pool.entries index)

-- the first at the entry of a class, and else the second
abbrev pub by_class : {A : Type 0} → Option A → Option A → Entry → Option A
by_class class other (entry.Class name) = class
by_class class other e = other

-- the number of the name of the class or the array that an index names, by itself or as the class of a member
abbrev pub named_class_in : GivenFile → ℕ → Option ℕ
named_class_in file index =
    by_class (class_text_in file index) (option_map (λ (m : MemberTexts). m.class) (member_in file index))
    (entry_at file.class.now.pool.entries index)

-- ---- members by numbers

-- the member that numbers name
abbrev pub member_named_by : List (List ℕ) → MemberTexts → MemberName
member_named_by texts m = record { class = text_of texts m.class; name = text_of texts m.name; descriptor = text_of texts m.descriptor }

-- the three numbers are those of texts
pub record AreNumbers (texts : List (List ℕ)) (m : MemberTexts) : Type 0 where
  pub class : m.class < length texts
  pub name : m.name < length texts
  pub descriptor : m.descriptor < length texts

-- ---- files

-- the file of a class, with its number and the numbers of its texts
pub record IsFile (texts : List (List ℕ)) (number : ℕ) (c : ClassDef) (file : GivenFile) : Type 0 where
  pub class_is : file.class.now ≡ c
  pub number_is : file.number ≡ number
  pub texts_are : (index : ℕ) → IsNumberOf texts (utf8_at c.pool.entries index) (text_in file index)

-- the files one after the other, numbered from 0
pub record AreFiles (texts : List (List ℕ)) (given : List ClassDef) (files : List GivenFile) : Type 0 where
  pub count : length files ≡ length given
  pub each : (k : ℕ) (c : ClassDef) (file : GivenFile) → slice_get given k ≡ Some c → slice_get files k ≡ Some file → IsFile texts k c file
