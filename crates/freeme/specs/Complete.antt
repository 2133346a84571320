-- That a job is done where nothing is against it and nothing fails, as long as there is memory.
use Rattle.std.specs.Prelude.{◌≡◌, ℕ, ◌≤◌, ◌⊎◌, List, [], ◌∷◌, Contains, None, IsSome}
use Rattle.fm_audit_classes.specs.Audited.{AreSafelyWritten}
use Rattle.fm_cli.specs.declared.status.TheConstants.{DONE, OUT_OF_MEMORY}
use Rattle.fm_cli_requests.specs.AuditRequest.{Audit}
use Rattle.fm_cli_requests.specs.FreemeRequest.{AskToAudit, Asks, FreemeJob}
use Rattle.fm_code.specs.declared.class_file.ClassDef.{ClassDef}
use Rattle.fm_conn.specs.Facts.{AreFacts, Facts}
use Rattle.fm_files.specs.Files.{Bytes, Contents}
use Rattle.fm_load.specs.Given.{AreChecked, given_program}
use Rattle.fm_load.specs.ProgramCalls.{ProgramCall}
use Rattle.fm_load.specs.Taking.{AllTaken}
use Rattle.fm_rewrite.specs.FreeCalls.{first_call}
use Rattle.fm_summ_shapes.specs.Analysed.{AreLeastTypings}
use Rattle.fm_world.specs.Programs.{Program, program_of}
use Rattle.freeme.specs.Audits.{audited_files, given_in}
use Rattle.freeme.specs.Jobs.{given_of, IsJobProgram, main_name}
use Rattle.freeme.specs.Rewriting.{cause_by}
use Rattle.freeme.specs.Writing.{IsClassFileIn, IsFileOf}
use Rattle.freeme.specs.declared.status.TheConstants.{NOT_SAFE}

-- Contents are known, and nothing is against the job in them: its files hold these classes, each with
-- a spelling, of the profile and within the limits, as are the files in number and length (JVMS 4);
-- they link (JVMS 5) and their methods are typed (JVMS 4.10); none calls FreeMe; and by some exact
-- facts of the job's program with least typings, of which one serves as another, no pool is full and no
-- method too long.
pub record CanBeDone (job : FreemeJob) (contents : Contents) (classes : List ClassDef) : Type 0 where
  pub known : IsSome contents
  pub checked : AreChecked (given_of job) contents classes
  pub no_call : first_call (program_of classes (main_name job)) ≡ None
  pub program : Program
  pub analysed : IsJobProgram job classes program
  pub facts : Facts
  pub exact : AreFacts program facts
  pub least : AreLeastTypings program facts.typing
  pub no_cause : cause_by job.chains program facts classes ≡ None

-- In this call no read of a file of the job failed, no write of the file of one of these classes, and no put of the lines or of a refusal's.
-- Over `SureFiles` and `SureSink` of `fm_files` this always holds: their counts are 0.
pub record NothingFails (job : FreemeJob) (classes : List ClassDef) (call : ProgramCall) : Type 0 where
  pub reads : (file : Bytes) → Contains job.files file → call.new.read_faults file ≤ call.old.read_faults file
  pub writes : (name : Bytes) → IsFileOf job.folder classes name → call.new.write_faults name ≤ call.old.write_faults name
  pub puts : call.after.faults ≤ call.before.faults
  pub reports : call.reported.faults ≤ call.report.faults

-- a job that words ask for is done where nothing is against it and nothing fails, or memory can't be had
abbrev pub IsComplete : ProgramCall → Type 0
IsComplete call =
    (job : FreemeJob) (classes : List ClassDef) → Asks call.words job → CanBeDone job call.old.contents classes
    → NothingFails job classes call → Contains (DONE ∷ OUT_OF_MEMORY ∷ []) call.status

-- ---- audits

-- Contents are known, and nothing is against the audit in them: its files hold these classes, which are taken as those of a job are, link, are typed and don't call
-- FreeMe; and the files that are audited hold these others, each with a spelling, of the profile and within the limits, as are they in length (JVMS 4).
pub record CanBeAudited (audit : Audit) (contents : Contents) (classes others : List ClassDef) : Type 0 where
  pub known : IsSome contents
  pub checked : AreChecked (given_in audit) contents classes
  pub no_call : first_call (given_program (given_in audit) classes) ≡ None
  pub taken : AllTaken contents (audited_files audit classes) others

-- in this call no read of a file of the audit or of a class file of its folder failed, and no put of the lines or of a refusal's
pub record NoAuditFails (audit : Audit) (call : ProgramCall) : Type 0 where
  pub reads : (file : Bytes) → Contains audit.files file ⊎ IsClassFileIn audit.folder file → call.new.read_faults file ≤ call.old.read_faults file
  pub puts : call.after.faults ≤ call.before.faults
  pub reports : call.reported.faults ≤ call.report.faults

-- an audit that words ask for finds what is audited safe or not, where nothing is against it and nothing fails, or memory can't be had
abbrev pub AuditsComplete : ProgramCall → Type 0
AuditsComplete call =
    (audit : Audit) (classes others : List ClassDef) → AskToAudit call.words audit → CanBeAudited audit call.old.contents classes others
    → NoAuditFails audit call → Contains (DONE ∷ NOT_SAFE ∷ OUT_OF_MEMORY ∷ []) call.status

-- where the files of an audit hold these classes, it is done only if those that are audited are the given ones with safe insertions, and finds
-- them not safe only if they aren't
pub record Decides (given : List ClassDef) (main : List ℕ) (written : List ClassDef) (result : ℕ) : Type 0 where
  pub safe : result ≡ DONE → AreSafelyWritten given main written
  pub not_safe : result ≡ NOT_SAFE → ¬ AreSafelyWritten given main written

-- so does any audit that words ask for, whatever fails besides
abbrev pub AuditsDecide : ProgramCall → Type 0
AuditsDecide call =
    (audit : Audit) (classes others : List ClassDef) → AskToAudit call.words audit → CanBeAudited audit call.old.contents classes others
    → Decides classes (given_in audit).main others call.status
