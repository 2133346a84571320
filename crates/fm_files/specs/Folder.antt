-- The files of the system, and what each call leaves there, by its result.
use Rattle.std.specs.Prelude.{ℕ, Result, Ok, Err, Vec}
use Rattle.std.specs.FinMap.{insert}
use Rattle.fm_files.specs.Calls.{with_read, with_write}
use Rattle.fm_files.specs.Files.{Bytes}
use Rattle.fm_files.specs.History.{Past}
use Rattle.fm_files.specs.Names.{ByName}
use Rattle.fm_files.specs.Tally.{tally_of, tallies_after_read, tally_after_failed_write}
use Rattle.fm_files.specs.declared.tally.Tally.{Tally}
use Rattle.fm_files.specs.declared.error.FileFail.{FileFail}
use Rattle.fm_files.specs.declared.error.WriteFail.{WriteFail}
use Rattle.fm_files.specs.declared.error.WriteFail.TheVariants as write_fail

-- files of the system: the numbers of each name, and the reads and writes
pub record FolderFilesState : Type 0 where
  pub tallies : ByName Tally
  pub past : Past

-- what a read leaves, by its result. One that is out of memory leaves all as it was
abbrev pub after_folder_read : {Y : Type 0} → FolderFilesState → Bytes → ℕ → Result (Vec ℕ Y) FileFail → FolderFilesState
after_folder_read files name limit answer = record {
  tallies = tallies_after_read files.tallies name limit answer;
  past = record files.past { reads = with_read files.past.reads name answer };
}

-- the numbers after a write, by its result: a name that was written is among those asked for
abbrev pub tallies_after_write : {A : Type 0} → ByName Tally → Bytes → Result A WriteFail → ByName Tally
tallies_after_write tallies name (Ok _) = insert tallies name (tally_of tallies name)
tallies_after_write tallies name (Err write_fail.Failed) = insert tallies name (tally_after_failed_write (tally_of tallies name))
tallies_after_write tallies name (Err write_fail.NoMemory) = tallies

-- what a write leaves, by its result. One that is out of memory leaves all as it was
abbrev pub after_folder_write : {A : Type 0} → FolderFilesState → Bytes → Bytes → Result A WriteFail → FolderFilesState
after_folder_write files name bytes answer = record {
  tallies = tallies_after_write files.tallies name answer;
  past = record files.past { writes = with_write files.past.writes name bytes answer };
}
