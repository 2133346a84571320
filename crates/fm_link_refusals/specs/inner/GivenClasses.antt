-- The classes of files whose texts are numbered.
use Rattle.std.specs.Prelude.{◌≡◌, ℕ, List, map, Some, slice_get}
use Rattle.fm_code.specs.declared.class_file.ClassDef.{ClassDef}
use Rattle.fm_link_names.specs.declared.given.GivenFile.{GivenFile}
use Rattle.fm_link_names.specs.inner.Files.{IsFile}

-- the class file of a file whose texts are numbered
abbrev pub class_in : GivenFile → ClassDef
class_in file = file.class.now

-- the class files one after the other
abbrev pub given_in : List GivenFile → List ClassDef
given_in files = map class_in files

-- the numbers of its texts are those of its class
abbrev pub IsNumbered : List (List ℕ) → GivenFile → Type 0
IsNumbered texts file = IsFile texts file.number (class_in file) file

-- the files are numbered from 0, and so are their texts
pub record AreNumbered (texts : List (List ℕ)) (files : List GivenFile) : Type 0 where
  pub each : (k : ℕ) (file : GivenFile) → slice_get files k ≡ Some file → IsFile texts k (class_in file) file
