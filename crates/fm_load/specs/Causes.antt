-- What is known of the class files where contents are known, and so decides how a call comes out.
use Rattle.std.specs.Prelude.{◌≡◌, ℕ, ◌<◌, ◌⊎◌, List, [], length, IsSome}
use Rattle.fm_base.specs.declared.limits.TheConstants.{MAX_CLASS_FILES}
use Rattle.fm_files.specs.Files.{Bytes, Disk}
use Rattle.fm_code.specs.declared.class_file.ClassDef.{ClassDef}
use Rattle.fm_cli.specs.Outside.{IsKnownSuch, IsKnownMissing}
use Rattle.fm_cli.specs.declared.status.TheConstants.{CHECK, LIMIT, LINK}
use Rattle.fm_check_program.specs.Untyped.{AreTyped}
use Rattle.fm_world.specs.Linking.{refusals}
use Rattle.fm_load.specs.ClassRefusal.{class_refusal_status}
use Rattle.fm_load.specs.Given.{Given, given_program, AreGiven, AreLinked}
use Rattle.fm_load.specs.Taking.{total_bytes, Reaches, IsTooLong, IsRefused}
use Rattle.fm_load.specs.declared.class_refusal.ClassRefusal.{ClassRefusal}

-- a read failed in this call
abbrev pub FailsARead : Disk → Disk → Type 0
FailsARead old new = (name : Bytes) × (old.read_faults name < new.read_faults name)

-- a write failed in this call
abbrev pub FailsAWrite : Disk → Disk → Type 0
FailsAWrite old new = (name : Bytes) × (old.write_faults name < new.write_faults name)

-- there are too many files
abbrev pub HasTooMany : Given → Type 0
HasTooMany given = MAX_CLASS_FILES < length given.files

-- a file is known not to be there, and those before it are taken
pub record IsMissing (old : Disk) (given : Given) : Type 0 where
  pub file : Bytes
  pub before : List ClassDef
  pub reaches : Reaches old.contents given.files file before
  pub missing : IsKnownMissing old.contents file

-- a file is known to be refused by its bytes with this status, and those before it are taken
pub record IsKnownRefused (status : ℕ) (old : Disk) (given : Given) : Type 0 where
  pub file : Bytes
  pub refusal : ClassRefusal
  pub status_is : class_refusal_status refusal ≡ status
  pub before : List ClassDef
  pub reaches : Reaches old.contents given.files file before
  pub refused : IsKnownSuch old.contents file (IsRefused refusal (total_bytes before))

-- a file is known to be too long, or those up to it, and those before it are taken
pub record IsKnownLong (old : Disk) (given : Given) : Type 0 where
  pub file : Bytes
  pub before : List ClassDef
  pub reaches : Reaches old.contents given.files file before
  pub long : IsKnownSuch old.contents file (IsTooLong (total_bytes before))

-- contents are known, these classes are given, and make no program
pub record IsKnownUnlinked (old : Disk) (given : Given) : Type 0 where
  pub known : IsSome old.contents
  pub classes : List ClassDef
  pub source : AreGiven given old.contents classes
  pub refused : ¬ (refusals classes given.main ≡ [])

-- contents are known, all files are taken, their classes make a program, and not each method of it with code is typed
pub record IsKnownUntyped (old : Disk) (given : Given) : Type 0 where
  pub known : IsSome old.contents
  pub classes : List ClassDef
  pub linked : AreLinked given old.contents classes
  pub untyped : ¬ AreTyped (given_program given classes)

-- contents are known, and this is the status of what is given: a file is too long, or refused by its bytes, or they make no program, or one of which
-- a method isn't typed
abbrev pub IsKnownRefusal : ℕ → Disk → Given → Type 0
IsKnownRefusal status old given =
    ((status ≡ LIMIT) × IsKnownLong old given)
    ⊎ (IsKnownRefused status old given ⊎ (((status ≡ LINK) × IsKnownUnlinked old given) ⊎ ((status ≡ CHECK) × IsKnownUntyped old given)))
