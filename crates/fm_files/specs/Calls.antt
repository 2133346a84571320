-- What a read and a write add to the calls so far, by its result. One that is out of memory adds nothing.
use Rattle.std.specs.Prelude.{ℕ, List, Result, Ok, Err, Some, None, Vec}
use Rattle.fm_files.specs.Files.{Bytes, Call, and_call}
use Rattle.fm_files.specs.declared.error.FileFail.{FileFail}
use Rattle.fm_files.specs.declared.error.FileFail.TheVariants as file_fail
use Rattle.fm_files.specs.declared.error.WriteFail.{WriteFail}
use Rattle.fm_files.specs.declared.error.WriteFail.TheVariants as write_fail

-- the reads, and one more of this name
abbrev pub with_read : {Y : Type 0} → List Call → Bytes → Result (Vec ℕ Y) FileFail → List Call
with_read reads name (Ok bytes) = and_call reads name (Some bytes.items)
with_read reads name (Err file_fail.Failed) = and_call reads name None
with_read reads name (Err file_fail.TooLong) = and_call reads name None
with_read reads name (Err file_fail.NoMemory) = reads

-- the writes, and one more of these bytes to this name
abbrev pub with_write : {A : Type 0} → List Call → Bytes → Bytes → Result A WriteFail → List Call
with_write writes name bytes (Ok _) = and_call writes name (Some bytes)
with_write writes name bytes (Err write_fail.Failed) = and_call writes name None
with_write writes name bytes (Err write_fail.NoMemory) = writes
