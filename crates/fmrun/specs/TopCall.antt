-- What one call of the program does to the files, to its output and to the sink of its report.
use Rattle.std.specs.Prelude.{◌≡◌, ℕ, ◌<◌, ◌≤◌, ◌⊎◌, List, length, MatchOption, None, Option, Some, Result, Ok, Err, string_bytes, ◌++◌}
use Rattle.fm_base.specs.declared.limits.TheConstants.{MAX_ARGUMENTS, MAX_CLASS_FILES, MAX_FILE_BYTES}
use Rattle.fm_code.specs.declared.class_file.ClassDef.{ClassDef}
use Rattle.fm_files.specs.Files.{Bytes, Contents, Disk}
use Rattle.fm_files.specs.Sink.{Output}
use Rattle.fm_frames.specs.Reports.{report_of}
use Rattle.fm_frames.specs.States.{State}
use Rattle.fm_load.specs.Given.{AreMany, IsUntouched, IsUnread, IsLong, IsRefusedFile, IsNotLinked, IsNotTyped}
use Rattle.fm_load.specs.ProgramCalls.{ProgramCall, PutsText}
use Rattle.fm_load.specs.Reading.{ReadsAll}
use Rattle.fm_load.specs.Refusal.{refusal_line, refusal_status}
use Rattle.fm_load.specs.Returned.{ReadsUpTo, returned}
use Rattle.fm_load.specs.Taking.{AllTaken}
use Rattle.fm_load.specs.declared.refusal.JobRefusal.{JobRefusal}
use Rattle.fm_load.specs.declared.refusal.JobRefusal.TheVariants as job_refusal
use Rattle.fm_run_job.specs.Reading.{IsInputOf, and_input}
use Rattle.fm_link_refusals.specs.Refused.{refusal_of}
use Rattle.fm_run_job.specs.Reports.{report_line, end_status}
use Rattle.fm_cli_requests.specs.FmrunRequest.{FmrunJob, Asks, AskNoJob}
use Rattle.fm_cli_requests.specs.ProgramText.{AskForNoText, AskForText}
use Rattle.fm_cli_requests.specs.declared.program_text.ProgramText.{ProgramText}
use Rattle.fm_cli_requests.specs.declared.program_text.ProgramText.TheVariants as text
use Rattle.fm_run.specs.Running.{BreaksRun, FailsRun, RunsTo}
use Rattle.fm_run_job.specs.Runs.{choice}
use Rattle.fm_same.specs.Resolved.{CallsNoFreeMe}
use Rattle.fm_run_job.specs.declared.runs.RunReport.{RunReport}
use Rattle.fm_cli.specs.Line.{Tells}
use Rattle.fm_cli.specs.Outside.{HasReadFault, HoldsSuch}
use Rattle.fm_cli.specs.declared.command_refusal.CommandRefusal.TheVariants as refusal
use Rattle.fm_cli.specs.declared.status.TheConstants.{WRITE}
use Rattle.fm_law_no_fault.specs.Whole.{HasNoFault}
use Rattle.fmrun.specs.Jobs.{given_of, job_arguments, job_files, job_program, opened_job, IsReady}
use Rattle.fmrun.specs.declared.outcome.JobFail.{JobFail}
use Rattle.fmrun.specs.declared.outcome.JobFail.TheVariants as fail
use Rattle.fmrun.specs.declared.program_text.TheConstants.{HELP, VERSION_LINE}

-- ---- what a job does whatever its outcome

-- it reads only its files, in their order, writes nothing, and no contents change
abbrev pub StaysWithin : FmrunJob → Disk → Disk → Type 0
StaysWithin job = ReadsAll (job_files job)

-- ---- why a job isn't run, though its class files are as they should be

-- there are too many arguments, though not too many files, and nothing is touched
pub record AreManyArguments (job : FmrunJob) (count : ℕ) (old new : Disk) : Type 0 where
  pub few_files : length job.files ≤ MAX_CLASS_FILES
  pub count_is : count ≡ length (job_arguments job)
  pub many : MAX_ARGUMENTS < count
  pub kept : new ≡ old

-- all class files are taken, as their reads returned them, and the read of the file of the input failed, which was the last, and nothing
-- else, no contents changed, and nothing was written
pub record IsInputUnread (job : FmrunJob) (file : Bytes) (old new : Disk) : Type 0 where
  pub named : job.input ≡ Some file
  pub classes : List ClassDef
  pub taken : AllTaken old.contents job.files classes
  pub fault : HasReadFault file old new
  pub kept : new.contents ≡ old.contents
  pub unwritten : new.writes ≡ old.writes
  pub last : ReadsUpTo job.files classes (record { name = file; bytes = None }) old new

-- all class files are taken, as their reads returned them, and the file of the input is too long, which its read, the last one, saw
pub record IsInputLong (job : FmrunJob) (file : Bytes) (old new : Disk) : Type 0 where
  pub named : job.input ≡ Some file
  pub classes : List ClassDef
  pub taken : AllTaken old.contents job.files classes
  pub long : HoldsSuch old.contents file (λ bytes. MAX_FILE_BYTES < length bytes)
  pub seen : MAX_FILE_BYTES < new.widest_read file
  pub last : ReadsUpTo job.files classes (record { name = file; bytes = None }) old new
  pub untouched : IsUntouched old new

-- the input is read
pub record HasInput (job : FmrunJob) (contents : Contents) : Type 0 where
  pub input : Bytes
  pub input_is : IsInputOf job.input contents input

-- ---- how a job is run

-- the reads returned the bytes of these classes and this input, where a file is named for it, and nothing else was read
abbrev pub ReadsJob : FmrunJob → List ClassDef → Bytes → Disk → Disk → Type 0
ReadsJob job classes input old new = new.reads ≡ and_input (old.reads ++ returned job.files classes) job.input input

-- the run was opened with these classes and this input, and reached its end: what it printed went
-- to the output, each step's bytes in one put, and this is its line and its status. Where no method
-- of the program calls FreeMe it didn't end in a fault
pub record HasRun (job : FmrunJob) (line : List ℕ) (status : ℕ) (old new : Disk) (before after : Output) : Type 0 where
  pub classes : List ClassDef
  pub input : Bytes
  pub ready : IsReady job old.contents classes input
  pub reads : ReadsJob job classes input old new
  pub last : State
  pub runs : RunsTo (job_program job classes) choice job.steps (opened_job job classes input) last before after
  pub line_is : line ≡ report_line (job_program job classes) (report_of last)
  pub status_is : status ≡ end_status (report_of last).end
  pub no_fault : CallsNoFreeMe (job_program job classes) → HasNoFault last
  pub untouched : IsUntouched old new

-- the put of what one of its steps prints failed, after what the steps before it printed went out
pub record HasFailed (job : FmrunJob) (old new : Disk) (before after : Output) : Type 0 where
  pub classes : List ClassDef
  pub input : Bytes
  pub ready : IsReady job old.contents classes input
  pub reads : ReadsJob job classes input old new
  pub fails : FailsRun (job_program job classes) choice job.steps (opened_job job classes input) before after
  pub untouched : IsUntouched old new

-- memory couldn't be had after some of its first steps, and what they printed went out
pub record HasBroken (job : FmrunJob) (old new : Disk) (before after : Output) : Type 0 where
  pub classes : List ClassDef
  pub input : Bytes
  pub ready : IsReady job old.contents classes input
  pub reads : ReadsJob job classes input old new
  pub breaks : BreaksRun (job_program job classes) choice job.steps (opened_job job classes input) before after
  pub untouched : IsUntouched old new

-- ---- how a job comes out

-- with the report of the run, or with why it isn't done
abbrev pub Outcome : Type 0
Outcome = Result RunReport JobFail

-- what a refusal says of the files of a job that has not too many arguments
abbrev pub IsRefusedByFiles : FmrunJob → Disk → Disk → JobRefusal → Type 0
IsRefusedByFiles job old new (job_refusal.TooLong file) = IsLong job.files file.now old new ⊎ IsInputLong job file.now old new
IsRefusedByFiles job old new (job_refusal.Class file refusal) = IsRefusedFile job.files file.now refusal old new
IsRefusedByFiles job old new (job_refusal.Shared (refusal.Read file)) = IsUnread job.files file.now old new ⊎ IsInputUnread job file.now old new
IsRefusedByFiles job old new (job_refusal.Link fail) = HasInput job old.contents × IsNotLinked (given_of job) (refusal_of fail) old new
IsRefusedByFiles job old new (job_refusal.Check name) = HasInput job old.contents × IsNotTyped (given_of job) name old new
IsRefusedByFiles job old new r = ⊥

-- what a refusal says of a job
abbrev pub IsRefusedAs : FmrunJob → Disk → Disk → JobRefusal → Type 0
IsRefusedAs job old new (job_refusal.TooManyFiles count) = AreMany job.files count old new
IsRefusedAs job old new (job_refusal.TooManyArguments count) = AreManyArguments job count old new
IsRefusedAs job old new r = (length (job_arguments job) ≤ MAX_ARGUMENTS) × IsRefusedByFiles job old new r

-- what a job that comes out so does to the files and to the output
abbrev pub ComesTo : FmrunJob → Disk → Disk → Output → Output → Outcome → Type 0
ComesTo job old new before after (Ok reported) = HasRun job (string_bytes reported.line) reported.status old new before after
ComesTo job old new before after (Err fail.Output) = HasFailed job old new before after
ComesTo job old new before after (Err (fail.Refused (job_refusal.Shared refusal.OutOfMemory))) =
    (IsUntouched old new × (after ≡ before)) ⊎ HasBroken job old new before after
ComesTo job old new before after (Err (fail.Refused r)) = IsRefusedAs job old new r × (after ≡ before)

-- ---- a call

-- the words ask for a job, which comes out so
pub record ComesOfJob (words : List Bytes) (old new : Disk) (before after : Output) (outcome : Outcome) : Type 0 where
  pub job : FmrunJob
  pub asked : Asks words job
  pub within : StaysWithin job old new
  pub comes : ComesTo job old new before after outcome

-- the words ask for no job, which is refused, and leaves the files and the output as they were
pub record ComesOfNothing (words : List Bytes) (old new : Disk) (before after : Output) (outcome : Outcome) : Type 0 where
  pub unasked : AskNoJob words
  pub refused : outcome ≡ Err (fail.Refused (job_refusal.Shared refusal.Words))
  pub kept : new ≡ old
  pub silent : after ≡ before

-- memory to read the words can't be had, and the files and the output are as they were
pub record LacksRequest (old new : Disk) (before after : Output) (outcome : Outcome) : Type 0 where
  pub refused : outcome ≡ Err (fail.Refused (job_refusal.Shared refusal.OutOfMemory))
  pub kept : new ≡ old
  pub silent : after ≡ before

-- what words that come out so do to the files and to the output
abbrev pub ComesOf : List Bytes → Disk → Disk → Output → Output → Outcome → Type 0
ComesOf words old new before after outcome =
    ComesOfJob words old new before after outcome ⊎ (ComesOfNothing words old new before after outcome ⊎ LacksRequest old new before after outcome)

-- the line of an outcome: that of the run, or of a refusal; none where the output failed
abbrev pub outcome_line : Outcome → Option (List ℕ)
outcome_line (Ok reported) = Some (string_bytes reported.line)
outcome_line (Err (fail.Refused r)) = Some (refusal_line r)
outcome_line (Err fail.Output) = None

-- its status
abbrev pub outcome_status : Outcome → ℕ
outcome_status (Ok reported) = reported.status
outcome_status (Err (fail.Refused r)) = refusal_status r
outcome_status (Err fail.Output) = WRITE

-- the line, if there is one, is put as one piece, and the result is its status, or that of the put
abbrev pub IsReported : Outcome → Output → Output → ℕ → Type 0
IsReported outcome old new result =
    MatchOption (outcome_line outcome) ((result ≡ outcome_status outcome) × (new ≡ old)) (λ line. Tells line (outcome_status outcome) old new result)

-- a call for no text: what the words ask for comes out in some way, and that is reported
pub record IsJobCall (call : ProgramCall) : Type 0 where
  pub no_text : AskForNoText call.words
  pub outcome : Outcome
  pub comes : ComesOf call.words call.old call.new call.before call.after outcome
  pub reports : IsReported outcome call.report call.reported call.status

-- the bytes of a text of the program
abbrev pub text_bytes : ProgramText → List ℕ
text_bytes text.Help = HELP.now
text_bytes text.Version = VERSION_LINE.now

-- a call for a text
pub record IsTextCall (call : ProgramCall) : Type 0 where
  pub asked : ProgramText
  pub asks : AskForText call.words asked
  pub put : PutsText (text_bytes asked) call

-- what a call does, by what the words ask for
abbrev pub IsTopCall : ProgramCall → Type 0
IsTopCall call = IsTextCall call ⊎ IsJobCall call
