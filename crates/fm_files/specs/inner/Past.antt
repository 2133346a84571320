-- The past after a read or a write, by its result.
use Rattle.std.specs.Prelude.{ℕ, Result, Vec}
use Rattle.fm_files.specs.Calls.{with_read, with_write}
use Rattle.fm_files.specs.Files.{Bytes}
use Rattle.fm_files.specs.History.{Past}
use Rattle.fm_files.specs.declared.error.FileFail.{FileFail}
use Rattle.fm_files.specs.declared.error.WriteFail.{WriteFail}

-- one more read
abbrev pub past_after_read : {Y : Type 0} → Past → Bytes → Result (Vec ℕ Y) FileFail → Past
past_after_read past name answer = record past { reads = with_read past.reads name answer }

-- one more write
abbrev pub past_after_write : {A : Type 0} → Past → Bytes → Bytes → Result A WriteFail → Past
past_after_write past name bytes answer = record past { writes = with_write past.writes name bytes answer }
