-- The outcome of the read of one class file, after others that have a given number of bytes together.
use Rattle.std.specs.Prelude.{◌≡◌, ℕ, ◌+◌, ◌<◌, ◌≤◌, ◌⊎◌, length, Option, Some, None, IfSome, Result, Ok, Err}
use Rattle.fm_base.specs.declared.limits.TheConstants.{MAX_FILE_BYTES, MAX_ALL_CLASS_FILES_BYTES}
use Rattle.fm_files.specs.Files.{Bytes, Disk, and_call}
use Rattle.fm_code.specs.ClassBytes.{class_bytes}
use Rattle.fm_code.specs.declared.class_file.ClassDef.{ClassDef}
use Rattle.fm_cli.specs.Outside.{HasNoFileFault, HasReadFault, HoldsSuch}
use Rattle.fm_cli.specs.declared.command_refusal.CommandRefusal.TheVariants as refusal
use Rattle.fm_load.specs.Taking.{IsTaken, IsTooLong, IsRefused}
use Rattle.fm_load.specs.declared.class_refusal.ClassRefusal.{ClassRefusal}
use Rattle.fm_load.specs.declared.refusal.JobRefusal.{JobRefusal}
use Rattle.fm_load.specs.declared.refusal.JobRefusal.TheVariants as job_refusal

-- it is taken as this class, and has a given number of bytes, which were seen
pub record IsRead (file : Bytes) (total : ℕ) (class : ClassDef) (size : ℕ) (old new : Disk) : Type 0 where
  pub taken : IsTaken old.contents file class
  pub size_is : size ≡ length (class_bytes class)
  pub short : total + size ≤ MAX_ALL_CLASS_FILES_BYTES
  pub seen : size ≤ new.widest_read file
  pub faultless : HasNoFileFault old new
  pub reads : new.reads ≡ and_call old.reads file (Some (class_bytes class))

-- it is too long, or with the others, which was seen
pub record IsLongFile (file : Bytes) (total : ℕ) (old new : Disk) : Type 0 where
  pub long : HoldsSuch old.contents file (IsTooLong total)
  pub seen : (MAX_FILE_BYTES < new.widest_read file) ⊎ (MAX_ALL_CLASS_FILES_BYTES < total + new.widest_read file)
  pub faultless : HasNoFileFault old new
  pub last : (bytes : Option Bytes) × IfSome bytes (IsTooLong total) × (new.reads ≡ and_call old.reads file bytes)

-- it is refused by its bytes
pub record IsBadFile (file : Bytes) (total : ℕ) (refusal : ClassRefusal) (old new : Disk) : Type 0 where
  pub refused : HoldsSuch old.contents file (IsRefused refusal total)
  pub faultless : HasNoFileFault old new
  pub last : (bytes : Bytes) × IsRefused refusal total bytes × (new.reads ≡ and_call old.reads file (Some bytes))

-- its read failed
pub record IsFailed (file : Bytes) (old new : Disk) : Type 0 where
  pub fault : HasReadFault file old new
  pub reads : new.reads ≡ and_call old.reads file None

-- one of these, or its read failed, or memory couldn't be had
abbrev pub ComesOfFile : Bytes → ℕ → Disk → Disk → Result (ClassDef × ℕ) JobRefusal → Type 0
ComesOfFile file total old new (Ok (class, size)) = IsRead file total class size old new
ComesOfFile file total old new (Err (job_refusal.TooLong name)) = (name.now ≡ file) × IsLongFile file total old new
ComesOfFile file total old new (Err (job_refusal.Class name refusal)) = (name.now ≡ file) × IsBadFile file total refusal old new
ComesOfFile file total old new (Err (job_refusal.Shared (refusal.Read name))) = (name.now ≡ file) × IsFailed file old new
ComesOfFile file total old new (Err (job_refusal.Shared refusal.OutOfMemory)) = HasNoFileFault old new
ComesOfFile file total old new (Err r) = ⊥
