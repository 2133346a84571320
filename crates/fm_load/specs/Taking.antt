-- Which class files are taken, and how far a call comes in them.
use Rattle.std.specs.Prelude.{◌≡◌, ℕ, ◌+◌, ◌<◌, ◌≤◌, ◌⊎◌, List, [], ◌∷◌, length, take, sum_by, Some, slice_get}
use Rattle.fm_base.specs.declared.limits.TheConstants.{MAX_CLASS_FILES, MAX_FILE_BYTES, MAX_ALL_CLASS_FILES_BYTES}
use Rattle.fm_files.specs.Files.{Bytes, Counts, Contents, Holds}
use Rattle.fm_code.specs.ClassBytes.{class_bytes}
use Rattle.fm_code.specs.Profile.{Profile}
use Rattle.fm_code.specs.Spells.{Spells}
use Rattle.fm_code.specs.declared.class_file.ClassDef.{ClassDef}
use Rattle.fm_load.specs.ClassRefusal.{IsRefusedAs}
use Rattle.fm_load.specs.declared.class_refusal.ClassRefusal.{ClassRefusal}

-- ---- classes that are taken

-- the bytes of the class spell it
abbrev pub ClassIsSpelled : ClassDef → Type 0
ClassIsSpelled c = Spells (class_bytes c) c

-- the bytes of the class spell it and are no longer than a file may be, and it is of the profile; where contents are known, the file holds them
pub record IsTaken (contents : Contents) (file : Bytes) (c : ClassDef) : Type 0 where
  pub holds : Holds contents file (class_bytes c)
  pub spelled : Spells (class_bytes c) c
  pub short : length (class_bytes c) ≤ MAX_FILE_BYTES
  pub profile : Profile c

-- each of the files is taken as the class in its place
abbrev pub AreTaken : Contents → List Bytes → List ClassDef → Type 0
AreTaken contents [] [] = Unit {0}
AreTaken contents (file ∷ files) (c ∷ classes) = IsTaken contents file c × AreTaken contents files classes
AreTaken contents files classes = ⊥

-- how many bytes the files of classes have together
abbrev pub total_bytes : List ClassDef → ℕ
total_bytes classes = sum_by (λ c. length (class_bytes c)) classes

-- there aren't too many files, each of them is taken, and they aren't too long together
pub record AllTaken (contents : Contents) (files : List Bytes) (classes : List ClassDef) : Type 0 where
  pub few : length files ≤ MAX_CLASS_FILES
  pub taken : AreTaken contents files classes
  pub short : total_bytes classes ≤ MAX_ALL_CLASS_FILES_BYTES

-- the call reaches this file: there aren't too many files, and those before it are taken as these classes
pub record Reaches (contents : Contents) (files : List Bytes) (file : Bytes) (before : List ClassDef) : Type 0 where
  pub there : slice_get files (length before) ≡ Some file
  pub few : length files ≤ MAX_CLASS_FILES
  pub taken : AreTaken contents (take (length before) files) before
  pub short : total_bytes before ≤ MAX_ALL_CLASS_FILES_BYTES

-- ---- class files that aren't taken, after others that have a given number of bytes together

-- the file is too long, or those up to it are too long together
abbrev pub IsTooLong : ℕ → Bytes → Type 0
IsTooLong total bytes = (MAX_FILE_BYTES < length bytes) ⊎ (MAX_ALL_CLASS_FILES_BYTES < total + length bytes)

-- neither is so, and the file is refused by its bytes
pub record IsRefused (refusal : ClassRefusal) (total : ℕ) (bytes : Bytes) : Type 0 where
  pub short : length bytes ≤ MAX_FILE_BYTES
  pub all_short : total + length bytes ≤ MAX_ALL_CLASS_FILES_BYTES
  pub refused : IsRefusedAs bytes refusal

-- more was seen of the file than a file may have, or of the files up to it than all may have together; their number before it is given
abbrev pub IsSeenTooLong : Counts → List Bytes → ℕ → Bytes → Type 0
IsSeenTooLong widest files before file =
    (MAX_FILE_BYTES < widest file) ⊎ (MAX_ALL_CLASS_FILES_BYTES < sum_by widest (take (before + 1) files))
