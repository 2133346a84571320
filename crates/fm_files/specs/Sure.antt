-- Files and a sink in memory that never fail, and what each call leaves there, by its result.
use Rattle.std.specs.Prelude.{ℕ, ◌+◌, max, [], Result, Ok, Err, Some, None, Vec, vec_len, unwrap_or}
use Rattle.std.specs.FinMap.{get, insert}
use Rattle.fm_files.specs.Files.{Bytes, Disk, and_call}
use Rattle.fm_files.specs.History.{Past}
use Rattle.fm_files.specs.Names.{ByName}
use Rattle.fm_files.specs.declared.error.FileFail.{FileFail}
use Rattle.fm_files.specs.declared.error.FileFail.TheVariants as file_fail

-- files that never fail: what was given to names, the widest read of each name, and the reads and writes
pub record SureFilesState : Type 0 where
  pub given : ByName Bytes
  pub widest : ByName ℕ
  pub past : Past

-- what a name holds: what it was given, and else nothing
abbrev pub held_by : SureFilesState → Bytes → Bytes
held_by files name = unwrap_or (get files.given name) []

-- the widest read of a name
abbrev pub widest_of : SureFilesState → Bytes → ℕ
widest_of files name = unwrap_or (get files.widest name) 0

-- their disk: no name ever has a fault, and each name is there
abbrev pub sure_disk : SureFilesState → Disk
sure_disk files = record {
  read_faults = λ _. 0;
  write_faults = λ _. 0;
  widest_read = widest_of files;
  contents = Some (λ name. Some (held_by files name));
  reads = files.past.reads;
  writes = files.past.writes;
}

-- what a read leaves, by its result
abbrev pub after_sure_read : {Y : Type 0} → SureFilesState → Bytes → ℕ → Result (Vec ℕ Y) FileFail → SureFilesState
after_sure_read files name limit (Ok bytes) = record files {
  widest = insert files.widest name (max (widest_of files name) (vec_len bytes));
  past = record files.past { reads = and_call files.past.reads name (Some bytes.items) };
}
after_sure_read files name limit (Err file_fail.TooLong) = record files {
  widest = insert files.widest name (max (widest_of files name) (limit + 1));
  past = record files.past { reads = and_call files.past.reads name None };
}
after_sure_read files name limit (Err _) = files

-- what a write that was done leaves
abbrev pub after_sure_write : SureFilesState → Bytes → Bytes → SureFilesState
after_sure_write files name bytes = record files {
  given = insert files.given name bytes;
  past = record files.past { writes = and_call files.past.writes name (Some bytes) };
}
