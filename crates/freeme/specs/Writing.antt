-- The names and the lines of classes, and what is written of them.
use Rattle.std.specs.Prelude.{◌≡◌, ℕ, ◌+◌, ◌<◌, List, [], ◌∷◌, ◌++◌, length, codes, map, take, unwrap_or, Contains, Some, None, IsSome, slice_get}
use Rattle.std.specs.Fmt.{decimal}
use Rattle.std.specs.List.{AllByRecursion}
use Rattle.fm_files.specs.Files.{Bytes, Call, Contents, Disk, Holds}
use Rattle.fm_code.specs.ClassBytes.{class_bytes}
use Rattle.fm_code.specs.ConstantPool.{class_name_at}
use Rattle.fm_code.specs.declared.class_file.ClassDef.{ClassDef}
use Rattle.fm_rewrite.specs.declared.counts.Count.{Count}
use Rattle.fm_cli.specs.Outside.{HasNoFileFault, HasWriteFault}
use Rattle.fm_cli.specs.Printed.{printed}
use Rattle.fm_load.specs.Changes.{ChangesOnlyAt}

-- ---- names

-- the class has a name
abbrev pub HasName : ClassDef → Type 0
HasName c = IsSome (class_name_at c.pool.entries c.this_class)

-- its name as text
abbrev pub class_text : ClassDef → List ℕ
class_text c = printed (unwrap_or (class_name_at c.pool.entries c.this_class) [])

-- DIR/NAME.class
abbrev pub file_name : Bytes → List ℕ → Bytes
file_name folder text = folder ++ (47 ∷ (text ++ codes ".class"))

-- the file to which a class is written
abbrev pub written_name : Bytes → ClassDef → Bytes
written_name folder c = file_name folder (class_text c)

-- the name is DIR/NAME.class for some NAME
abbrev pub IsClassFileIn : Bytes → Bytes → Type 0
IsClassFileIn folder name = (text : List ℕ) × (name ≡ file_name folder text)

-- the name is that of the file of one of these classes
abbrev pub IsFileOf : Bytes → List ClassDef → Bytes → Type 0
IsFileOf folder classes name = Contains (map (written_name folder) classes) name

-- ---- lines

-- the line of a class that is written, with its line end: how many of its sites are held, and how many frees are inserted
abbrev pub class_line : ClassDef → Count → List ℕ
class_line c count =
    class_text c ++ (codes ": " ++ (decimal count.sites ++ (codes " sites, " ++ (decimal count.frees ++ (codes " frees" ++ 10 ∷ [])))))

-- the lines of the classes, one after the other
abbrev pub class_lines : List ClassDef → List Count → List ℕ
class_lines (c ∷ classes) (count ∷ counts) = class_line c count ++ class_lines classes counts
class_lines classes counts = []

-- ---- files

-- the first classes hold their bytes, each in its own file; no file has changed but those of the classes that were begun
pub record AreWritten (folder : Bytes) (written begun : List ClassDef) (old new : Contents) : Type 0 where
  pub hold : AllByRecursion (λ c. Holds new (written_name folder c) (class_bytes c)) written
  pub others : ChangesOnlyAt (IsFileOf folder begun) old new

-- the write of a class, of its bytes to its own file
abbrev pub class_write : Bytes → ClassDef → Call
class_write folder c = record { name = written_name folder c; bytes = Some (class_bytes c) }

-- one such write of each class
abbrev pub class_writes : Bytes → List ClassDef → List Call
class_writes folder classes = map (class_write folder) classes

-- all classes are written, in order and each once, and nothing failed
pub record AllWritten (folder : Bytes) (classes : List ClassDef) (old new : Disk) : Type 0 where
  pub written : AreWritten folder classes classes old.contents new.contents
  pub faultless : HasNoFileFault old new
  pub writes : new.writes ≡ old.writes ++ class_writes folder classes

-- the first of them are written, the last one isn't, and nothing failed
pub record SomeWritten (folder : Bytes) (classes : List ClassDef) (old new : Disk) : Type 0 where
  pub count : ℕ
  pub some_left : count < length classes
  pub written : AreWritten folder (take count classes) (take count classes) old.contents new.contents
  pub faultless : HasNoFileFault old new
  pub writes : new.writes ≡ old.writes ++ class_writes folder (take count classes)

-- the first of them are written, and the write of the next one failed, which was the last, and nothing else
pub record FailsToWrite (folder : Bytes) (classes : List ClassDef) (name : Bytes) (old new : Disk) : Type 0 where
  pub count : ℕ
  pub class : ClassDef
  pub next : slice_get classes count ≡ Some class
  pub name_is : name ≡ written_name folder class
  pub written : AreWritten folder (take count classes) (take (count + 1) classes) old.contents new.contents
  pub fault : HasWriteFault name old new
  pub writes : new.writes ≡ old.writes ++ (class_writes folder (take count classes) ++ record { name = name; bytes = None } ∷ [])
