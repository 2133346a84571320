-- The outcome of the read of class files.
use Rattle.std.specs.Prelude.{◌≡◌, List, Contains, Result, Ok, Err, Vec}
use Rattle.fm_files.specs.Files.{Bytes, Disk, AreKept}
use Rattle.fm_code.specs.declared.class_file.ClassDef.{ClassDef}
use Rattle.fm_cli.specs.Outside.{HasNoFileFault}
use Rattle.fm_cli.specs.declared.command_refusal.CommandRefusal.TheVariants as refusal
use Rattle.fm_load.specs.Changes.{ReadsOnly}
use Rattle.fm_load.specs.Returned.{ReadsAs, ReadsInOrder}
use Rattle.fm_load.specs.Taking.{AllTaken}
use Rattle.fm_load.specs.Given.{IsUntouched, IsUnread, IsLong, IsRefusedFile}
use Rattle.fm_load.specs.declared.refusal.JobRefusal.{JobRefusal}
use Rattle.fm_load.specs.declared.refusal.JobRefusal.TheVariants as job_refusal

-- no content changed, and nothing was written
pub record KeepsWrites (old new : Disk) : Type 0 where
  pub contents : new.contents ≡ old.contents
  pub faults : AreKept old.write_faults new.write_faults
  pub calls : new.writes ≡ old.writes

-- these files alone were read, in their order
pub record ReadsAll (files : List Bytes) (old new : Disk) : Type 0 where
  pub reads : ReadsOnly (Contains files) old new
  pub writes : KeepsWrites old new
  pub asked : ReadsInOrder files old new

-- all are taken, as the reads returned them, and no read failed
pub record AreRead (files : List Bytes) (classes : List ClassDef) (old new : Disk) : Type 0 where
  pub taken : AllTaken old.contents files classes
  pub faultless : HasNoFileFault old new
  pub reads : ReadsAs files classes old new

-- all are taken; or this one is too long, or refused, or its read failed; or memory couldn't be had
abbrev pub ComesOfFiles : {Y : Type 0} → List Bytes → Disk → Disk → Result (Vec ClassDef Y) JobRefusal → Type 0
ComesOfFiles files old new (Ok classes) = AreRead files classes.items old new
ComesOfFiles files old new (Err (job_refusal.TooLong file)) = IsLong files file.now old new
ComesOfFiles files old new (Err (job_refusal.Class file refusal)) = IsRefusedFile files file.now refusal old new
ComesOfFiles files old new (Err (job_refusal.Shared (refusal.Read file))) = IsUnread files file.now old new
ComesOfFiles files old new (Err (job_refusal.Shared refusal.OutOfMemory)) = IsUntouched old new
ComesOfFiles files old new (Err r) = ⊥
