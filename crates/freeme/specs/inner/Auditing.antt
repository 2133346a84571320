-- The outcome of judging the program of an audit, and then of reading and judging what is audited.
use Rattle.std.specs.declared.alloc.Global.{Global}
use Rattle.std.specs.Prelude.{◌≡◌, ◌<◌, ◌≤◌, ℕ, List, length, map, Option, Some, None, Result, Ok, Err, String, string_bytes}
use Rattle.std.specs.List.{AllByRecursion, flat_map}
use Rattle.fm_audit.specs.Parts.{part_number}
use Rattle.fm_audit.specs.declared.parts.Part.{Part}
use Rattle.fm_audit_classes.specs.Audited.{AreSafelyWritten, ComesOfAudit}
use Rattle.fm_audit_classes.specs.declared.error.AuditFail.{AuditFail}
use Rattle.fm_audit_classes.specs.declared.error.AuditFail.TheVariants as audit_fail
use Rattle.fm_base.specs.declared.ids.ClassId.{ClassId}
use Rattle.fm_base.specs.declared.ids.MethodId.{MethodId}
use Rattle.fm_base.specs.declared.limits.TheConstants.{MAX_CLASS_FILES}
use Rattle.fm_cli.specs.declared.command_refusal.CommandRefusal.TheVariants as refusal
use Rattle.fm_cli_requests.specs.AuditRequest.{Audit}
use Rattle.fm_code.specs.declared.class_file.ClassDef.{ClassDef}
use Rattle.fm_files.specs.Files.{Bytes, Disk}
use Rattle.fm_law_spelled.specs.Changed.{IsShort}
use Rattle.fm_load.specs.Given.{IsLong, IsRefusedFile, IsUnread, IsUntouched, given_program}
use Rattle.fm_load.specs.Reading.{AreRead}
use Rattle.fm_load.specs.declared.refusal.JobRefusal.TheVariants as job_refusal
use Rattle.fm_rewrite.specs.FreeCalls.{first_call}
use Rattle.fm_rewrite.specs.Rewritten.{AreJudged}
use Rattle.fm_rewrite.specs.declared.error.RewriteFail.TheVariants as fail
use Rattle.fm_world.specs.Causes.{declared_name, method_text}
use Rattle.fm_world.specs.Members.{methods_of}
use Rattle.fm_world.specs.Programs.{Outline, program_of}
use Rattle.freeme.specs.Audits.{AuditsTo, IsJudged, audited_files, given_in, named, safe_line}
use Rattle.freeme.specs.Writing.{HasName}
use Rattle.freeme.specs.declared.auditing.AuditedProgram.{AuditedProgram}
use Rattle.freeme.specs.declared.refusal.FreeRefusal.{FreeRefusal}
use Rattle.freeme.specs.declared.refusal.FreeRefusal.TheVariants as free_refusal

-- the names of the files that are audited
abbrev pub names_in : AuditedProgram → List Bytes
names_in audited = map string_bytes audited.names.items

-- the program is judged, and the files that are audited have these names
pub record IsJudgedSo (audit : Audit) (audited : AuditedProgram) (old new : Disk) : Type 0 where
  pub judged : IsJudged audit audited.classes.items old new
  pub program_is : audited.program ≡ given_program (given_in audit) audited.classes.items
  pub names_are : names_in audited ≡ audited_files audit audited.classes.items

-- it is, or the audit ends
abbrev pub JudgesTo : Audit → Disk → Disk → Result AuditedProgram FreeRefusal → Type 0
JudgesTo audit old new (Ok audited) = IsJudgedSo audit audited old new
JudgesTo audit old new (Err r) = AuditsTo audit old new (Err r)

-- the program is that of judged classes, none of which is longer than a file may be, and doesn't call FreeMe; there is a name for each of its files
pub record IsAuditable (audited : AuditedProgram) : Type 0 where
  pub main : List ℕ
  pub program_is : audited.program ≡ program_of audited.classes.items main
  pub judged : AreJudged audited.classes.items audited.program
  pub short : AllByRecursion IsShort audited.classes.items
  pub have_names : AllByRecursion HasName audited.classes.items
  pub no_call : first_call audited.program ≡ None
  pub few : length audited.names.items ≤ MAX_CLASS_FILES
  pub one_each : length audited.names.items ≡ length audited.classes.items

-- all files are read, and are safe insertions
pub record AreFoundSafe (audited : AuditedProgram) (main : List ℕ) (lines : List ℕ) (old new : Disk) : Type 0 where
  pub written : List ClassDef
  pub read : AreRead (names_in audited) written old new
  pub safely : AreSafelyWritten audited.classes.items main written
  pub lines_are : lines ≡ flat_map safe_line audited.classes.items

-- or they aren't, for this class or method, and this part
pub record AreFoundNotSafe (audited : AuditedProgram) (main : List ℕ) (name : List ℕ) (number : ℕ) (old new : Disk) : Type 0 where
  pub written : List ClassDef
  pub read : AreRead (names_in audited) written old new
  pub class : ClassId
  pub method : Option MethodId
  pub part : Part
  pub fails : ComesOfAudit audited.classes.items main written (Err (audit_fail.NotSafe class method part))
  pub name_is : name ≡ named (program_of audited.classes.items main).outline class method
  pub number_is : number ≡ part_number part

-- or one of the files isn't taken, or memory can't be had
abbrev pub FindsAs : AuditedProgram → (main : List ℕ) → Disk → Disk → Result (String Global) FreeRefusal → Type 0
FindsAs audited main old new (Ok lines) = AreFoundSafe audited main (string_bytes lines) old new
FindsAs audited main old new (Err (free_refusal.NotSafe name part)) = AreFoundNotSafe audited main name part old new
FindsAs audited main old new (Err (free_refusal.Rewrite cause name)) = ⊥
FindsAs audited main old new (Err (free_refusal.Job (job_refusal.TooLong file))) = IsLong (names_in audited) file.now old new
FindsAs audited main old new (Err (free_refusal.Job (job_refusal.Class file refusal))) = IsRefusedFile (names_in audited) file.now refusal old new
FindsAs audited main old new (Err (free_refusal.Job (job_refusal.Shared (refusal.Read file)))) = IsUnread (names_in audited) file.now old new
FindsAs audited main old new (Err (free_refusal.Job (job_refusal.Shared refusal.OutOfMemory))) = IsUntouched old new
FindsAs audited main old new (Err (free_refusal.Job r)) = ⊥

-- what a cause names is there
abbrev pub IsThereIn : Outline → AuditFail → Type 0
IsThereIn o (audit_fail.CallsFree method offset) = method.0 < length (methods_of o.classes)
IsThereIn o (audit_fail.NotSafe class None part) = class.0 < length o.classes
IsThereIn o (audit_fail.NotSafe class (Some method) part) = method.0 < length (methods_of o.classes)
IsThereIn o audit_fail.NoMemory = Unit {0}

-- the refusal names it; that of a call of FreeMe isn't looked at, since no program is audited that has one
abbrev pub IsRefusalOf : Outline → AuditFail → FreeRefusal → Type 0
IsRefusalOf o (audit_fail.CallsFree method offset) r = Unit {0}
IsRefusalOf o (audit_fail.NotSafe class method part) r = r ≡ free_refusal.NotSafe (named o class method) (part_number part)
IsRefusalOf o audit_fail.NoMemory r = ⊥

-- the refusal names the method that calls FreeMe, or memory for its name can't be had
abbrev pub IsCallRefused : Outline → MethodId → (offset : ℕ) → FreeRefusal → Type 0
IsCallRefused o method offset (free_refusal.Rewrite cause name) =
    (cause ≡ fail.CallsFree method offset) × (name ≡ method_text (declared_name o.classes method.0))
IsCallRefused o method offset (free_refusal.Job (job_refusal.Shared refusal.OutOfMemory)) = Unit {0}
IsCallRefused o method offset r = ⊥
