-- The three numbers of a name, and what each call makes of them, by its result.
use Rattle.std.specs.Prelude.{ℕ, ◌+◌, max, Result, Ok, Err, Vec, vec_len, unwrap_or}
use Rattle.std.specs.FinMap.{get, insert}
use Rattle.fm_files.specs.Files.{Bytes, Contents, Disk}
use Rattle.fm_files.specs.History.{Past}
use Rattle.fm_files.specs.Names.{ByName}
use Rattle.fm_files.specs.declared.tally.Tally.{Tally}
use Rattle.fm_files.specs.declared.error.FileFail.{FileFail}
use Rattle.fm_files.specs.declared.error.FileFail.TheVariants as file_fail

-- the numbers of a name that wasn't asked for
abbrev pub no_tally : Tally
no_tally = record { read_faults = 0; write_faults = 0; widest_read = 0 }

-- the numbers of a name
abbrev pub tally_of : ByName Tally → Bytes → Tally
tally_of tallies name = unwrap_or (get tallies name) no_tally

-- the disk of these numbers and contents, and of what was asked for
abbrev pub disk_of : ByName Tally → Contents → Past → Disk
disk_of tallies contents past = record {
  read_faults = λ name. (tally_of tallies name).read_faults;
  write_faults = λ name. (tally_of tallies name).write_faults;
  widest_read = λ name. (tally_of tallies name).widest_read;
  contents = contents;
  reads = past.reads;
  writes = past.writes;
}

-- a name's numbers after a read of at most `limit` bytes, by its result
abbrev pub tally_after_read : {Y : Type 0} → Tally → ℕ → Result (Vec ℕ Y) FileFail → Tally
tally_after_read tally limit (Ok bytes) = record tally { widest_read = max tally.widest_read (vec_len bytes) }
tally_after_read tally limit (Err file_fail.Failed) = record tally { read_faults = tally.read_faults + 1 }
tally_after_read tally limit (Err file_fail.TooLong) = record tally { widest_read = max tally.widest_read (limit + 1) }
tally_after_read tally limit (Err file_fail.NoMemory) = tally

-- the numbers of all names after such a read. One that is out of memory leaves them as they were
abbrev pub tallies_after_read : {Y : Type 0} → ByName Tally → Bytes → ℕ → Result (Vec ℕ Y) FileFail → ByName Tally
tallies_after_read tallies name limit (Err file_fail.NoMemory) = tallies
tallies_after_read tallies name limit answer = insert tallies name (tally_after_read (tally_of tallies name) limit answer)

-- a name's numbers after a write that failed
abbrev pub tally_after_failed_write : Tally → Tally
tally_after_failed_write tally = record tally { write_faults = tally.write_faults + 1 }
