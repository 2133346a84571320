-- When each status comes, and what a call leaves then. All this follows from what a call does as a whole; a caller reads it one by one.
use Rattle.std.specs.Prelude.{◌≡◌, ◌≢◌, ℕ, ◌<◌, ◌≤◌, ◌⊎◌, List, [], ◌∷◌, Contains, length, Option, IsSome, Some}
use Rattle.std.specs.List.{sum}
use Rattle.fm_base.specs.declared.limits.TheConstants.{MAX_ARGUMENTS, MAX_CLASS_FILES, MAX_FILE_BYTES}
use Rattle.fm_code.specs.declared.class_file.ClassDef.{ClassDef}
use Rattle.fm_files.specs.Files.{Bytes, Disk}
use Rattle.fm_files.specs.Sink.{FailsPut, GetsAtMostOne, GetsPieces, with_piece}
use Rattle.fm_frames.specs.Reports.{report_of}
use Rattle.fm_frames.specs.Runs.{IsRun}
use Rattle.fm_frames.specs.States.{silent, State}
use Rattle.fm_frames.specs.declared.ends.Ended.{Ended}
use Rattle.fm_load.specs.Causes.{FailsARead, HasTooMany, IsMissing, IsKnownLong, IsKnownRefusal, IsKnownRefused, IsKnownUnlinked, IsKnownUntyped}
use Rattle.fm_load.specs.Given.{AreChecked, Given, IsUntouched}
use Rattle.fm_load.specs.ProgramCalls.{IsRefusedBy, ProgramCall, PutsText, SaysCheck, SaysLink, SaysLong, SaysMany, SaysRead, SaysRefused, SaysWords}
use Rattle.fm_load.specs.Refusal.{long_line, many_arguments_line}
use Rattle.fm_load.specs.Taking.{AllTaken}
use Rattle.fm_load.specs.Returned.{ReadsFrom, with_contents}
use Rattle.fm_law_cells_made.specs.MostHeld.{all_most_held}
use Rattle.fm_run_job.specs.Reports.{end_status}
use Rattle.fm_run_job.specs.declared.status.TheConstants.{FAULT}
use Rattle.fm_cli_requests.specs.FmrunRequest.{FmrunJob, Asks, AskNoJob, AskNothing, AskOnlyForText}
use Rattle.fm_cli_requests.specs.ProgramText.{AskForText}
use Rattle.fm_cli_requests.specs.declared.program_text.ProgramText.{ProgramText}
use Rattle.fm_run_job.specs.Runs.{choice}
use Rattle.fm_same.specs.Resolved.{CallsNoFreeMe}
use Rattle.fm_cli.specs.Outside.{HasNoFileFault, IsKnownMissing, IsKnownSuch}
use Rattle.fm_cli.specs.CommandRefusal.{memory_line, read_line}
use Rattle.fm_cli.specs.Status.{ComesExactly}
use Rattle.fm_cli.specs.declared.status.TheConstants.{WORDS, READ, MALFORMED, VERSION, LIMIT, UNSUPPORTED, LINK, CHECK, WRITE, OUT_OF_MEMORY}
use Rattle.fmrun.specs.Jobs.{given_of, job_arguments, job_program, opened_job, IsReady}
use Rattle.fmrun.specs.TopCall.{AreManyArguments, ComesOf, HasBroken, HasFailed, HasInput, HasRun, IsInputLong, IsInputUnread, Outcome, StaysWithin, outcome_line, text_bytes}

-- ---- all statuses

-- the statuses of refusals that come before the run
abbrev pub before_run : List ℕ
before_run = WORDS ∷ READ ∷ MALFORMED ∷ VERSION ∷ LIMIT ∷ UNSUPPORTED ∷ LINK ∷ CHECK ∷ []

-- the statuses of all refusals
abbrev pub refusal_statuses : List ℕ
refusal_statuses = WORDS ∷ READ ∷ MALFORMED ∷ VERSION ∷ LIMIT ∷ UNSUPPORTED ∷ LINK ∷ CHECK ∷ WRITE ∷ OUT_OF_MEMORY ∷ []

-- there is no status but those of refusals and of ends
abbrev pub IsStatus : ℕ → Type 0
IsStatus result = Contains refusal_statuses result ⊎ ((e : Ended) × (result ≡ end_status e))

-- ---- what words ask for

-- the words ask for a job such as this
abbrev pub AskFor : List Bytes → (FmrunJob → Type 0) → Type 0
AskFor words P = (job : FmrunJob) × (Asks words job × P job)

-- the words ask for a job with class files and a main class such as these
abbrev pub AskForGiven : List Bytes → (Given → Type 0) → Type 0
AskForGiven words P = AskFor words (λ job. P (given_of job))

-- the words ask for a job such as this with no more arguments than may be, so that its files are read
abbrev pub AskToRead : List Bytes → (FmrunJob → Type 0) → Type 0
AskToRead words P = AskFor words (λ job. (length (job_arguments job) ≤ MAX_ARGUMENTS) × P job)

-- the words ask for a job such as this, whose input is read
abbrev pub AskWithInput : ProgramCall → (FmrunJob → Type 0) → Type 0
AskWithInput call P = AskFor call.words (λ job. HasInput job call.old.contents × P job)

-- ---- 64

-- this status comes exactly where the words ask for nothing, unless the put fails or memory can't be had
abbrev pub IsForWords : ProgramCall → Type 0
IsForWords call = ComesExactly WORDS (WRITE ∷ OUT_OF_MEMORY ∷ []) call.status (AskNothing call.words × SaysWords call) (AskNothing call.words)

-- ---- 65

-- the read of the file of the input failed, and all class files are taken
pub record SaysInputUnread (call : ProgramCall) (job : FmrunJob) : Type 0 where
  pub file : Bytes
  pub unread : IsInputUnread job file call.old call.new
  pub refused : IsRefusedBy (read_line file) call

-- the read of a class file failed, and those before it are taken; or that of the file of the input
abbrev pub SaysUnread : ProgramCall → FmrunJob → Type 0
SaysUnread call job = SaysRead call (given_of job) ⊎ SaysInputUnread call job

-- all class files are taken, and the file of the input is known not to be there
pub record LacksInput (old : Disk) (job : FmrunJob) : Type 0 where
  pub file : Bytes
  pub named : job.input ≡ Some file
  pub classes : List ClassDef
  pub taken : AllTaken old.contents job.files classes
  pub missing : IsKnownMissing old.contents file

-- a read failed, or a file is known not to be there when the call reaches it
abbrev pub MissesFile : List Bytes → Disk → Disk → Type 0
MissesFile words old new = FailsARead old new ⊎ AskToRead words (λ job. IsMissing old (given_of job) ⊎ LacksInput old job)

-- this status comes exactly there, unless the put fails or memory can't be had
abbrev pub IsForRead : ProgramCall → Type 0
IsForRead call =
    ComesExactly READ (WRITE ∷ OUT_OF_MEMORY ∷ []) call.status (AskFor call.words (SaysUnread call)) (MissesFile call.words call.old call.new)

-- ---- 66, 67 and 69

-- this status comes exactly where there aren't too many arguments and a class file is refused by its bytes with it, unless a read or the put fails or
-- memory can't be had
abbrev pub IsForBytes : ℕ → ProgramCall → Type 0
IsForBytes status call =
    ComesExactly status (READ ∷ WRITE ∷ OUT_OF_MEMORY ∷ []) call.status (AskForGiven call.words (SaysRefused status call))
    (AskToRead call.words (λ job. IsKnownRefused status call.old (given_of job)))

-- ---- 68

-- there are too many arguments, and all files are as they were
pub record SaysManyArguments (call : ProgramCall) (job : FmrunJob) : Type 0 where
  pub many : AreManyArguments job (length (job_arguments job)) call.old call.new
  pub refused : IsRefusedBy (many_arguments_line (length (job_arguments job))) call

-- the file of the input is too long, and enough bytes were read to show it
pub record SaysInputLong (call : ProgramCall) (job : FmrunJob) : Type 0 where
  pub file : Bytes
  pub long : IsInputLong job file call.old call.new
  pub refused : IsRefusedBy (long_line file) call

-- there are too many class files or arguments, or a file is too long, or a count of a method is above its limit
abbrev pub SaysLimit : ProgramCall → FmrunJob → Type 0
SaysLimit call job =
    SaysMany call (given_of job)
    ⊎ (SaysManyArguments call job ⊎ (SaysLong call (given_of job) ⊎ (SaysInputLong call job ⊎ SaysRefused LIMIT call (given_of job))))

-- there are too many arguments, though not too many class files
abbrev pub HasManyArguments : FmrunJob → Type 0
HasManyArguments job = (length job.files ≤ MAX_CLASS_FILES) × (MAX_ARGUMENTS < length (job_arguments job))

-- all class files are taken, and the file of the input is known to be too long
pub record HasLongInput (old : Disk) (job : FmrunJob) : Type 0 where
  pub file : Bytes
  pub named : job.input ≡ Some file
  pub classes : List ClassDef
  pub taken : AllTaken old.contents job.files classes
  pub long : IsKnownSuch old.contents file (λ bytes. MAX_FILE_BYTES < length bytes)

-- this status comes exactly there, unless a read or the put fails or memory can't be had; of too many files or arguments no file is read
pub record IsForLimit (call : ProgramCall) : Type 0 where
  pub only : call.status ≡ LIMIT → AskFor call.words (SaysLimit call)
  pub many : AskFor call.words (λ job. HasTooMany (given_of job) ⊎ HasManyArguments job) → Contains (LIMIT ∷ WRITE ∷ OUT_OF_MEMORY ∷ []) call.status
  pub long : AskToRead call.words (λ job. IsKnownLong call.old (given_of job) ⊎ HasLongInput call.old job)
      → Contains (LIMIT ∷ READ ∷ WRITE ∷ OUT_OF_MEMORY ∷ []) call.status
  pub bytes : AskToRead call.words (λ job. IsKnownRefused LIMIT call.old (given_of job))
      → Contains (LIMIT ∷ READ ∷ WRITE ∷ OUT_OF_MEMORY ∷ []) call.status

-- ---- 70

-- this status comes exactly where the input is read and the classes make no program, unless a read or the put fails or memory can't be had
abbrev pub IsForLink : ProgramCall → Type 0
IsForLink call =
    ComesExactly LINK (READ ∷ WRITE ∷ OUT_OF_MEMORY ∷ []) call.status (AskWithInput call (λ job. SaysLink call (given_of job)))
    (AskToRead call.words (λ job. IsKnownUnlinked call.old (given_of job) × HasInput job call.old.contents))

-- ---- 71

-- this status comes exactly where the input is read and a method of the program isn't typed, unless a read or the put fails or memory can't be had
abbrev pub IsForCheck : ProgramCall → Type 0
IsForCheck call =
    ComesExactly CHECK (READ ∷ WRITE ∷ OUT_OF_MEMORY ∷ []) call.status (AskWithInput call (λ job. SaysCheck call (given_of job)))
    (AskToRead call.words (λ job. IsKnownUntyped call.old (given_of job) × HasInput job call.old.contents))

-- ---- 0, for a text

-- where the words ask for a text, it is put, or the put fails, or memory can't be had, and nothing else happens
abbrev pub IsForText : ProgramCall → Type 0
IsForText call = (asked : ProgramText) → AskForText call.words asked → PutsText (text_bytes asked) call

-- ---- the ends of runs

-- the run reached its end: the status, what the output got and the one line of the report are those
-- of it
pub record SaysRun (call : ProgramCall) : Type 0 where
  pub job : FmrunJob
  pub asked : Asks call.words job
  pub line : List ℕ
  pub ran : HasRun job line call.status call.old call.new call.before call.after
  pub reported : call.reported ≡ with_piece line call.report

-- contents are known, all class files are taken, their classes make a program of typed methods, and the input is read
pub record IsKnownReady (old : Disk) (job : FmrunJob) : Type 0 where
  pub known : IsSome old.contents
  pub classes : List ClassDef
  pub input : Bytes
  pub ready : IsReady job old.contents classes input

-- contents are known, a job is ready to run with them, and its run reaches an end of this status
pub record IsKnownRun (status : ℕ) (old : Disk) (job : FmrunJob) : Type 0 where
  pub known : IsSome old.contents
  pub classes : List ClassDef
  pub input : Bytes
  pub ready : IsReady job old.contents classes input
  pub last : State
  pub printed : List ℕ
  pub run : IsRun (job_program job classes) choice job.steps (silent (opened_job job classes input)) (record { state = last; printed = printed })
  pub status_is : status ≡ end_status (report_of last).end

-- each status that isn't of a refusal comes only of the run, or where the words ask for a text; where a job is ready, only that of its
-- run is returned, unless a read or a put fails or memory can't be had
pub record IsForRun (call : ProgramCall) : Type 0 where
  pub only : ¬ Contains refusal_statuses call.status → SaysRun call ⊎ AskOnlyForText call.words
  pub ready : AskFor call.words (IsKnownReady call.old) → SaysRun call ⊎ Contains (READ ∷ WRITE ∷ OUT_OF_MEMORY ∷ []) call.status
  pub ends : (status : ℕ) → AskFor call.words (IsKnownRun status call.old) → Contains (status ∷ READ ∷ WRITE ∷ OUT_OF_MEMORY ∷ []) call.status

-- ---- 83

-- the run reached its end, and a method of its program calls FreeMe
pub record SaysFault (call : ProgramCall) : Type 0 where
  pub run : SaysRun call
  pub frees : ¬ CallsNoFreeMe (job_program run.job run.ran.classes)

-- contents are known, all class files are taken, and their classes make a program of typed methods, none of which calls FreeMe
pub record IsKnownFreeless (old : Disk) (job : FmrunJob) : Type 0 where
  pub known : IsSome old.contents
  pub classes : List ClassDef
  pub checked : AreChecked (given_of job) old.contents classes
  pub frees_none : CallsNoFreeMe (job_program job classes)

-- only there: a program that calls no method of FreeMe never ends in a fault
pub record IsForFault (call : ProgramCall) : Type 0 where
  pub only : call.status ≡ FAULT → SaysFault call
  pub never : AskFor call.words (IsKnownFreeless call.old) → call.status ≢ FAULT

-- ---- what reads returned

-- contents are known, and this is the status of a job: its class files are refused, or its run ends so
abbrev pub IsKnownStatus : ℕ → Disk → FmrunJob → Type 0
IsKnownStatus status old job = IsKnownRefusal status old (given_of job) ⊎ IsKnownRun status old job

-- Where each read of the call returned bytes, known contents that hold these bytes decide the status, unless the put fails or memory
-- can't be had. So what is said above of known contents holds of what the reads returned, of files of the system too.
abbrev pub IsForReturned : ProgramCall → Type 0
IsForReturned call =
    (held : Bytes → Option Bytes) (status : ℕ) → ReadsFrom held call.old call.new
    → AskToRead call.words (IsKnownStatus status (with_contents held call.old)) → Contains (status ∷ WRITE ∷ OUT_OF_MEMORY ∷ []) call.status

-- ---- the cells of a run

-- the cells made that the line of a run reports are those of each size class that were held at once at most, in all its states from its opening on
abbrev pub ReportsMostHeld : ProgramCall → Type 0
ReportsMostHeld call =
    (said : SaysRun call)
    → (report_of said.ran.last).cells_made
    ≡ sum (all_most_held (job_program said.job said.ran.classes) (silent (opened_job said.job said.ran.classes said.ran.input)) said.ran.runs.run.count)

-- ---- 75

-- the put of what the run prints failed, and the report got nothing
pub record SaysUnprinted (call : ProgramCall) (job : FmrunJob) : Type 0 where
  pub failed : HasFailed job call.old call.new call.before call.after
  pub silent : call.reported ≡ call.report

-- what the words ask for came out in some way, and the put of its line failed
pub record SaysUnreported (call : ProgramCall) : Type 0 where
  pub outcome : Outcome
  pub comes : ComesOf call.words call.old call.new call.before call.after outcome
  pub line : List ℕ
  pub line_is : outcome_line outcome ≡ Some line
  pub fails : FailsPut line call.report call.reported

-- one of the two, or the words ask for a text
abbrev pub SaysWrite : ProgramCall → Type 0
SaysWrite call = AskFor call.words (SaysUnprinted call) ⊎ (SaysUnreported call ⊎ AskOnlyForText call.words)

-- this status comes only there, and exactly where a sink's faults rose
pub record IsForWrite (call : ProgramCall) : Type 0 where
  pub only : call.status ≡ WRITE → SaysWrite call
  pub there : (call.before.faults < call.after.faults) ⊎ (call.report.faults < call.reported.faults) → call.status ≡ WRITE

-- ---- 76

-- the line of memory is put, before anything was printed or after some of what the run prints was
pub record SaysMemory (call : ProgramCall) : Type 0 where
  pub stopped : (IsUntouched call.old call.new × (call.after ≡ call.before))
      ⊎ AskFor call.words (λ job. HasBroken job call.old call.new call.before call.after)
  pub reported : call.reported ≡ with_piece memory_line call.report

-- memory couldn't be had for the line of what the words ask for, and the report is as it was
pub record LacksLine (call : ProgramCall) : Type 0 where
  pub outcome : Outcome
  pub comes : ComesOf call.words call.old call.new call.before call.after outcome
  pub silent : call.reported ≡ call.report

-- this status comes only there, or where the words ask for a text
abbrev pub IsForMemory : ProgramCall → Type 0
IsForMemory call = call.status ≡ OUT_OF_MEMORY → SaysMemory call ⊎ (LacksLine call ⊎ AskOnlyForText call.words)

-- ---- what fails and what changes

-- at a status that isn't for a read, a put or memory no count of faults rose in this call
abbrev pub IsFaultless : ProgramCall → Type 0
IsFaultless call =
    ¬ Contains (READ ∷ WRITE ∷ OUT_OF_MEMORY ∷ []) call.status
    → HasNoFileFault call.old call.new × (call.after.faults ≡ call.before.faults) × (call.reported.faults ≡ call.report.faults)

-- nothing is printed before the run: a refusal leaves the output as it was
abbrev pub IsSilent : ProgramCall → Type 0
IsSilent call = Contains before_run call.status → call.after ≡ call.before

-- the output gets pieces that have bytes, and the report at most one; a put that failed isn't tried again
abbrev pub PutsPieces : ProgramCall → Type 0
PutsPieces call = GetsPieces call.before call.after × GetsAtMostOne call.report call.reported

-- a job reads only its files, and words that ask for no job leave the files as they were; no
-- contents change and no write fails
pub record OnlyReads (call : ProgramCall) : Type 0 where
  pub asked : (job : FmrunJob) → Asks call.words job → StaysWithin job call.old call.new
  pub unasked : AskNoJob call.words → call.new ≡ call.old
