-- That the classes which are written mean what those mean that are read.
use Rattle.std.specs.Prelude.{◌≡◌, ◌⊎◌, ◌++◌, true, List, None, length, map}
use Rattle.std.specs.List.{AllByRecursion}
use Rattle.fm_files.specs.Files.{Disk}
use Rattle.fm_cli.specs.declared.status.TheConstants.{DONE}
use Rattle.fm_code.specs.declared.class_file.ClassDef.{ClassDef}
use Rattle.fm_cli_requests.specs.AuditRequest.{Audit}
use Rattle.fm_cli_requests.specs.FreemeRequest.{AskOnlyForText, AskToAudit, Asks, FreemeJob}
use Rattle.fm_law_chains.specs.FreesAll.{FreesAll}
use Rattle.fm_law_headline.specs.Headline.{DoesTheSame, EndTheSame, MakesAsHeld}
use Rattle.fm_law_same_runs.specs.Beside.{InAllRuns, IsWithoutFault, Marks, Same}
use Rattle.fm_load.specs.Given.{AreChecked}
use Rattle.fm_load.specs.ProgramCalls.{ProgramCall}
use Rattle.fm_load.specs.Returned.{ReadsAs, returned}
use Rattle.fm_load.specs.Taking.{ClassIsSpelled}
use Rattle.fm_rewrite.specs.declared.rewriting.Rewritten.{Rewritten}
use Rattle.fm_world.specs.Programs.{Program, program_of}
use Rattle.freeme.specs.Audits.{audited_files, given_in}
use Rattle.freeme.specs.Jobs.{given_of, IsJobProgram, main_name}
use Rattle.freeme.specs.Rewriting.{AreRewrittenBy, own_facts}
use Rattle.freeme.specs.Writing.{AllWritten, class_text}

-- The classes whose bytes the reads of this call returned, and those whose bytes it wrote for them, which do the same (JVMS 2.6, 2.10, 2.11): step for matched step on
-- memory that reuses cells in any way, no freed cell is used, and holders of what isn't needed are null. With chains nothing is held of what a site in a loop gave, where
-- that isn't needed.
pub record HasKeptMeaning (call : ProgramCall) : Type 0 where
  pub job : FreemeJob
  pub asked : Asks call.words job
  pub classes : List ClassDef
  pub checked : AreChecked (given_of job) call.old.contents classes
  pub reads : ReadsAs job.files classes call.old call.new
  pub program : Program
  pub analysed : IsJobProgram job classes program
  pub made : Rewritten
  pub rewritten : AreRewrittenBy job.chains program classes made
  pub written : AllWritten job.folder made.classes.items call.old call.new
  pub does : DoesTheSame program classes (main_name job) made.classes.items rewritten.marks (own_facts rewritten)
  pub all : job.chains ≡ true
      → FreesAll program (program_of classes (main_name job)) (program_of made.classes.items (main_name job)) (own_facts rewritten) rewritten.marks

-- where it is done, unless the words ask for a text
abbrev pub KeepsMeaning : ProgramCall → Type 0
KeepsMeaning call = call.status ≡ DONE → HasKeptMeaning call ⊎ AskOnlyForText call.words

-- ---- the same, of what programs do, and no word of how classes are taken, analysed and rewritten

-- Two programs: on memory that reuses cells in any way the second one does what the first one does on memory that is never reused, step for matched step, and no
-- freed cell is used; in whole runs over cells that serve again both end the same; and of each size class the second one makes as many cells as it holds at once.
pub record RunAlike (one other : Program) : Type 0 where
  pub marks : Marks
  pub same : Same one other marks
  pub faultless : InAllRuns one other marks IsWithoutFault
  pub ends : EndTheSame one other
  pub most_held : MakesAsHeld other

-- The class files of a job, whose bytes the reads of this call returned, and those whose bytes it wrote for them: each spells its class, and the names are the same
-- (JVMS 4). With the main class of the job their programs run alike (JVMS 2.6, 2.10, 2.11, 5).
pub record HasRunsAlike (job : FreemeJob) (old new : Disk) : Type 0 where
  pub given : List ClassDef
  pub one_each : length given ≡ length job.files
  pub spelled : AllByRecursion ClassIsSpelled given
  pub reads : ReadsAs job.files given old new
  pub made : List ClassDef
  pub names : map class_text made ≡ map class_text given
  pub spelled_too : AllByRecursion ClassIsSpelled made
  pub written : AllWritten job.folder made old new
  pub alike : RunAlike (program_of given (main_name job)) (program_of made (main_name job))

-- where it is done, of class files
abbrev pub RunsAlike : ProgramCall → Type 0
RunsAlike call = (job : FreemeJob) → Asks call.words job → job.made ≡ None → call.status ≡ DONE → HasRunsAlike job call.old call.new

-- ---- the same of what is audited

-- The class files of an audit and those that are audited, whose bytes the reads of this call returned in this order: each spells its class (JVMS 4). With the main
-- class of the audit the second program does what the first one does, on memory that reuses cells in any way, step for matched step, and no freed cell is used.
pub record HasAuditedAlike (audit : Audit) (old new : Disk) : Type 0 where
  pub given : List ClassDef
  pub one_each : length given ≡ length audit.files
  pub spelled : AllByRecursion ClassIsSpelled given
  pub written : List ClassDef
  pub spelled_too : AllByRecursion ClassIsSpelled written
  pub reads : new.reads ≡ old.reads ++ (returned audit.files given ++ returned (audited_files audit given) written)
  pub marks : Marks
  pub same : Same (program_of given (given_in audit).main) (program_of written (given_in audit).main) marks
  pub faultless : InAllRuns (program_of given (given_in audit).main) (program_of written (given_in audit).main) marks IsWithoutFault

-- where the audit is done
abbrev pub AuditsAlike : ProgramCall → Type 0
AuditsAlike call = (audit : Audit) → AskToAudit call.words audit → call.status ≡ DONE → HasAuditedAlike audit call.old call.new
