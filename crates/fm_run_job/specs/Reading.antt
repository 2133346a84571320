-- The result of reading the input.
use Rattle.std.specs.Prelude.{◌≡◌, ℕ, ◌<◌, ◌≤◌, List, [], Option, Some, None, length, MatchOption, Result, Ok, Err, Vec}
use Rattle.fm_base.specs.declared.limits.TheConstants.{MAX_FILE_BYTES}
use Rattle.fm_files.specs.Files.{Bytes, Call, Contents, Disk, Holds, and_call}
use Rattle.fm_load.specs.Reading.{KeepsWrites}
use Rattle.fm_load.specs.Returned.{ReadsOnce}
use Rattle.fm_load.specs.declared.refusal.JobRefusal.{JobRefusal}
use Rattle.fm_load.specs.declared.refusal.JobRefusal.TheVariants as job_refusal
use Rattle.fm_cli.specs.Outside.{HasNoFileFault, HasReadFault, HoldsSuch, ReadsAlone}
use Rattle.fm_cli.specs.declared.command_refusal.CommandRefusal.TheVariants as refusal

-- where contents are known, the file that is named holds the input, which is no longer than a file may be; where none is named it's empty
abbrev pub IsInputOf : Option Bytes → Contents → Bytes → Type 0
IsInputOf named contents input = MatchOption named (input ≡ []) (λ file. (length input ≤ MAX_FILE_BYTES) × Holds contents file input)

-- the reads, and that of the input, where a file is named for it, which returned these bytes
abbrev pub and_input : List Call → Option Bytes → Bytes → List Call
and_input reads None input = reads
and_input reads (Some file) input = and_call reads file (Some input)

-- only the file that is named is read, once, and no content changes; where none is named nothing is
-- touched
abbrev pub ReadsInput : Option Bytes → Disk → Disk → Type 0
ReadsInput named old new = MatchOption named (new ≡ old) (λ file. ReadsAlone file old new × KeepsWrites old new × ReadsOnce file old new)

-- the input is read, and is what the read returned
pub record IsInputRead (named : Option Bytes) (input : Bytes) (old new : Disk) : Type 0 where
  pub input_is : IsInputOf named old.contents input
  pub faultless : HasNoFileFault old new
  pub reads : new.reads ≡ and_input old.reads named input

-- the file that is named is too long, which was seen
pub record IsLongInput (named : Option Bytes) (file : Bytes) (old new : Disk) : Type 0 where
  pub named_is : named ≡ Some file
  pub long : HoldsSuch old.contents file (λ bytes. MAX_FILE_BYTES < length bytes)
  pub seen : MAX_FILE_BYTES < new.widest_read file
  pub faultless : HasNoFileFault old new
  pub reads : new.reads ≡ and_call old.reads file None

-- its read failed
pub record IsFailedInput (named : Option Bytes) (file : Bytes) (old new : Disk) : Type 0 where
  pub named_is : named ≡ Some file
  pub fault : HasReadFault file old new
  pub reads : new.reads ≡ and_call old.reads file None

-- one of these, or the read failed, or memory couldn't be had
abbrev pub ComesOfInput : {Y : Type 0} → Option Bytes → Disk → Disk → Result (Vec ℕ Y) JobRefusal → Type 0
ComesOfInput named old new (Ok input) = IsInputRead named input.items old new
ComesOfInput named old new (Err (job_refusal.TooLong file)) = IsLongInput named file.now old new
ComesOfInput named old new (Err (job_refusal.Shared (refusal.Read file))) = IsFailedInput named file.now old new
ComesOfInput named old new (Err (job_refusal.Shared refusal.OutOfMemory)) = HasNoFileFault old new
ComesOfInput named old new (Err r) = ⊥
