-- What an audit does to the files: they are read, and class files, whoever wrote them, are safe insertions into those of a program or not.
use Rattle.std.specs.declared.alloc.Global.{Global}
use Rattle.std.specs.Prelude.{◌≡◌, ◌⊎◌, ℕ, List, [], ◌∷◌, ◌++◌, Contains, codes, map, Option, Some, None, Result, Ok, Err, String, string_bytes}
use Rattle.std.specs.List.{flat_map}
use Rattle.fm_base.specs.declared.ids.ClassId.{ClassId}
use Rattle.fm_base.specs.declared.ids.MethodId.{MethodId}
use Rattle.fm_files.specs.Files.{Bytes, Disk}
use Rattle.fm_audit.specs.Parts.{part_number}
use Rattle.fm_audit.specs.declared.parts.Part.{Part}
use Rattle.fm_audit_classes.specs.Audited.{AreSafelyWritten, ComesOfAudit}
use Rattle.fm_audit_classes.specs.declared.error.AuditFail.TheVariants as audit_fail
use Rattle.fm_cli.specs.Encoding.{modified}
use Rattle.fm_cli.specs.declared.command_refusal.CommandRefusal.TheVariants as refusal
use Rattle.fm_cli_requests.specs.AuditRequest.{Audit}
use Rattle.fm_code.specs.declared.class_file.ClassDef.{ClassDef}
use Rattle.fm_law_headline.specs.InStep.{DoAlike}
use Rattle.fm_link_refusals.specs.Refused.{refusal_of}
use Rattle.fm_load.specs.Changes.{ReadsOnly}
use Rattle.fm_load.specs.Given.{AreChecked, AreMany, Given, given_program, IsLong, IsNotLinked, IsNotTyped, IsRefusedFile, IsUnread, IsUntouched}
use Rattle.fm_load.specs.Reading.{AreRead, KeepsWrites}
use Rattle.fm_load.specs.Returned.{ReadsAs}
use Rattle.fm_load.specs.declared.refusal.JobRefusal.TheVariants as job_refusal
use Rattle.fm_rewrite.specs.FreeCalls.{first_call}
use Rattle.fm_rewrite.specs.declared.error.RewriteFail.TheVariants as fail
use Rattle.fm_world.specs.Causes.{declared_name, method_text}
use Rattle.fm_world.specs.Programs.{class_info, Outline, program_of}
use Rattle.freeme.specs.Writing.{class_text, IsClassFileIn, written_name}
use Rattle.freeme.specs.declared.refusal.FreeRefusal.{FreeRefusal}
use Rattle.freeme.specs.declared.refusal.FreeRefusal.TheVariants as free_refusal

-- ---- what is audited

-- the class files of the program and its main class
abbrev pub given_in : Audit → Given
given_in audit = record { files = audit.files; made = None; main = modified audit.main }

-- the files that are audited: those to which the classes of the program would be written, in their order
abbrev pub audited_files : Audit → List ClassDef → List Bytes
audited_files audit classes = map (written_name audit.folder) classes

-- only class files of the program and of the folder are read, and nothing is written
pub record OnlyReads (audit : Audit) (old new : Disk) : Type 0 where
  pub reads : ReadsOnly (λ name. Contains audit.files name ⊎ IsClassFileIn audit.folder name) old new
  pub writes : KeepsWrites old new

-- ---- the program

-- its class files were read, and nothing else was done; they make a program of typed methods that doesn't call FreeMe
pub record IsJudged (audit : Audit) (classes : List ClassDef) (old new : Disk) : Type 0 where
  pub checked : AreChecked (given_in audit) old.contents classes
  pub no_call : first_call (given_program (given_in audit) classes) ≡ None
  pub reads : ReadsAs audit.files classes old new
  pub untouched : IsUntouched old new

-- they make a program of typed methods, and this is the first method that calls FreeMe, at this offset, by its name
pub record IsCalling (audit : Audit) (method : MethodId) (offset : ℕ) (name : Bytes) (old new : Disk) : Type 0 where
  pub classes : List ClassDef
  pub checked : AreChecked (given_in audit) old.contents classes
  pub reads : ReadsAs audit.files classes old new
  pub first : first_call (given_program (given_in audit) classes) ≡ Some (method.0, offset)
  pub name_is : name ≡ method_text (declared_name (given_program (given_in audit) classes).outline.classes method.0)
  pub untouched : IsUntouched old new

-- ---- the files that are audited

-- after the program is judged this becomes of them
pub record OfAudited (audit : Audit) (P : List Bytes → Disk → Disk → Type 0) (old new : Disk) : Type 0 where
  pub classes : List ClassDef
  pub between : Disk
  pub judged : IsJudged audit classes old between
  pub becomes : P (audited_files audit classes) between new

-- this becomes of the class files of the program, or else of those that are audited
abbrev pub OfEither : Audit → (List Bytes → Disk → Disk → Type 0) → Disk → Disk → Type 0
OfEither audit P old new = P audit.files old new ⊎ OfAudited audit P old new

-- after the program is judged all of them are read, each as a class with a spelling, of the profile and within the limits
pub record AreAudited (audit : Audit) (classes written : List ClassDef) (old new : Disk) : Type 0 where
  pub between : Disk
  pub judged : IsJudged audit classes old between
  pub read : AreRead (audited_files audit classes) written between new

-- the line of a class that is safe, with its line end
abbrev pub safe_line : ClassDef → List ℕ
safe_line c = class_text c ++ (codes ": safe" ++ 10 ∷ [])

-- their classes are those of the program with safe insertions, and so do what these do (JVMS 2.6, 2.10, 2.11); there is a line for each
pub record IsSafe (audit : Audit) (lines : List ℕ) (old new : Disk) : Type 0 where
  pub classes : List ClassDef
  pub written : List ClassDef
  pub audited : AreAudited audit classes written old new
  pub safely : AreSafelyWritten classes (given_in audit).main written
  pub alike : DoAlike (given_program (given_in audit) classes) (program_of written (given_in audit).main) safely.marks
  pub lines_are : lines ≡ flat_map safe_line classes

-- the name of a class of the program, or of one of its methods
abbrev pub named : Outline → ClassId → Option MethodId → List ℕ
named o class None = (class_info o class.0).name
named o class (Some method) = method_text (declared_name o.classes method.0)

-- They aren't, and this is the name of the first class that isn't the given one, codes aside, or else of the first method that isn't safe, and the number of the
-- least part that it fails.
pub record IsNotSafe (audit : Audit) (name : Bytes) (number : ℕ) (old new : Disk) : Type 0 where
  pub classes : List ClassDef
  pub written : List ClassDef
  pub audited : AreAudited audit classes written old new
  pub class : ClassId
  pub method : Option MethodId
  pub part : Part
  pub fails : ComesOfAudit classes (given_in audit).main written (Err (audit_fail.NotSafe class method part))
  pub name_is : name ≡ named (given_program (given_in audit) classes).outline class method
  pub number_is : number ≡ part_number part

-- ---- how an audit comes out

-- what one that comes out so does to the files
abbrev pub AuditsTo : Audit → Disk → Disk → Result (String Global) FreeRefusal → Type 0
AuditsTo audit old new (Ok lines) = IsSafe audit (string_bytes lines) old new
AuditsTo audit old new (Err (free_refusal.NotSafe name part)) = IsNotSafe audit name part old new
AuditsTo audit old new (Err (free_refusal.Rewrite (fail.CallsFree method offset) name)) = IsCalling audit method offset name old new
AuditsTo audit old new (Err (free_refusal.Rewrite cause name)) = ⊥
AuditsTo audit old new (Err (free_refusal.Job (job_refusal.TooManyFiles count))) = AreMany audit.files count old new
AuditsTo audit old new (Err (free_refusal.Job (job_refusal.TooLong file))) = OfEither audit (λ files. IsLong files file.now) old new
AuditsTo audit old new (Err (free_refusal.Job (job_refusal.Class file refusal))) = OfEither audit (λ files. IsRefusedFile files file.now refusal) old new
AuditsTo audit old new (Err (free_refusal.Job (job_refusal.Shared (refusal.Read file)))) = OfEither audit (λ files. IsUnread files file.now) old new
AuditsTo audit old new (Err (free_refusal.Job (job_refusal.Link fail))) = IsNotLinked (given_in audit) (refusal_of fail) old new
AuditsTo audit old new (Err (free_refusal.Job (job_refusal.Check name))) = IsNotTyped (given_in audit) name old new
AuditsTo audit old new (Err (free_refusal.Job (job_refusal.Shared refusal.OutOfMemory))) = IsUntouched old new
AuditsTo audit old new (Err (free_refusal.Job r)) = ⊥
