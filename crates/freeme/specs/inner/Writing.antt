-- The result of the write of classes, of one and of all.
use Rattle.std.specs.Prelude.{◌≡◌, ℕ, List, map, take, Contains, Some, None, Result, Ok, Err, IfSome, slice_get, string_bytes}
use Rattle.fm_files.specs.Files.{Bytes, Disk, AreKept, OthersAreKept, Holds, and_call}
use Rattle.fm_code.specs.ClassBytes.{class_bytes}
use Rattle.fm_code.specs.declared.class_file.ClassDef.{ClassDef}
use Rattle.fm_cli.specs.Outside.{HasNoFileFault, HasWriteFault}
use Rattle.fm_cli.specs.declared.command_refusal.CommandRefusal.TheVariants as refusal
use Rattle.fm_load.specs.Given.{IsUntouched}
use Rattle.freeme.specs.Writing.{class_text, written_name, AllWritten, SomeWritten, FailsToWrite}
use Rattle.fm_load.specs.declared.refusal.JobRefusal.{JobRefusal}
use Rattle.fm_load.specs.declared.refusal.JobRefusal.TheVariants as job_refusal

-- no class has the name of an earlier one
abbrev pub AreApart : List ClassDef → Type 0
AreApart classes = (place : ℕ) → IfSome (slice_get classes place) (λ c. ¬ Contains (map class_text (take place classes)) (class_text c))

-- nothing was read
pub record KeepsReads (old new : Disk) : Type 0 where
  pub faults : AreKept old.read_faults new.read_faults
  pub widest : AreKept old.widest_read new.widest_read
  pub calls : new.reads ≡ old.reads

-- one class is written
pub record IsWritten (name : Bytes) (class : ClassDef) (old new : Disk) : Type 0 where
  pub holds : Holds new.contents name (class_bytes class)
  pub others : OthersAreKept name old.contents new.contents
  pub faultless : HasNoFileFault old new
  pub writes : new.writes ≡ and_call old.writes name (Some (class_bytes class))

-- the write of one failed
pub record IsWriteFailed (name : Bytes) (old new : Disk) : Type 0 where
  pub others : OthersAreKept name old.contents new.contents
  pub fault : HasWriteFault name old new
  pub writes : new.writes ≡ and_call old.writes name None

-- what comes of the write of one class
abbrev pub ComesOfClass : Bytes → ClassDef → Disk → Disk → Result Unit JobRefusal → Type 0
ComesOfClass folder class old new (Ok _) = IsWritten (written_name folder class) class old new
ComesOfClass folder class old new (Err (job_refusal.Write name)) = (string_bytes name ≡ written_name folder class) × IsWriteFailed (written_name folder class) old new
ComesOfClass folder class old new (Err (job_refusal.Shared refusal.OutOfMemory)) = IsUntouched old new
ComesOfClass folder class old new (Err r) = ⊥

-- all classes, from the first one on
abbrev pub ComesOfClasses : Bytes → List ClassDef → Disk → Disk → Result Unit JobRefusal → Type 0
ComesOfClasses folder classes old new (Ok _) = AllWritten folder classes old new
ComesOfClasses folder classes old new (Err (job_refusal.Write name)) = FailsToWrite folder classes (string_bytes name) old new
ComesOfClasses folder classes old new (Err (job_refusal.Shared refusal.OutOfMemory)) = SomeWritten folder classes old new
ComesOfClasses folder classes old new (Err r) = ⊥
