-- The outcome of giving classes: those of files with the one that is made behind them.
use Rattle.std.specs.Prelude.{◌≡◌, ℕ, List, ◌++◌, Option, Result, Ok, Err, Vec}
use Rattle.fm_files.specs.Files.{Bytes, Disk}
use Rattle.fm_code.specs.declared.class_file.ClassDef.{ClassDef}
use Rattle.fm_load.specs.Given.{made_classes}
use Rattle.fm_load.specs.Reading.{AreRead, ComesOfFiles}
use Rattle.fm_load.specs.declared.refusal.JobRefusal.{JobRefusal}

-- all files are read, and these are their classes with the one that is made behind them
pub record AreMadeOf (files : List Bytes) (number : Option ℕ) (classes : List ClassDef) (old new : Disk) : Type 0 where
  pub read : List ClassDef
  pub are_read : AreRead files read old new
  pub classes_are : classes ≡ read ++ made_classes number

-- as files come out, but that the class that is made is behind their classes
abbrev pub ComesOfGiving : {Y : Type 0} → List Bytes → Option ℕ → Disk → Disk → Result (Vec ClassDef Y) JobRefusal → Type 0
ComesOfGiving files number old new (Ok classes) = AreMadeOf files number classes.items old new
ComesOfGiving {Y} files number old new (Err refusal) = ComesOfFiles {Y = Y} files old new (Err refusal)
