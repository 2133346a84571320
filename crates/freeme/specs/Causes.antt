-- When each status comes, and what a call leaves then. All this follows from what a call does as a whole; a caller reads it one by one.
use Rattle.std.specs.Prelude.{◌≡◌, ℕ, ◌<◌, ◌⊎◌, List, [], ◌∷◌, Contains, Option, Some, None, IsSome}
use Rattle.fm_files.specs.Files.{Bytes, Disk}
use Rattle.fm_files.specs.Sink.{GetsAtMostOne, with_piece}
use Rattle.fm_code.specs.declared.class_file.ClassDef.{ClassDef}
use Rattle.fm_cli.specs.Outside.{HasNoFileFault}
use Rattle.fm_cli.specs.CommandRefusal.{memory_line}
use Rattle.fm_cli.specs.Status.{ComesExactly}
use Rattle.fm_cli.specs.declared.status.TheConstants.{DONE, WORDS, READ, MALFORMED, VERSION, LIMIT, UNSUPPORTED, LINK, CHECK, WRITE, OUT_OF_MEMORY}
use Rattle.fm_conn.specs.Facts.{AreFacts, Facts}
use Rattle.fm_summ_shapes.specs.Analysed.{AreLeastTypings}
use Rattle.fm_rewrite.specs.FreeCalls.{first_call}
use Rattle.fm_rewrite.specs.declared.error.RewriteFail.{RewriteFail}
use Rattle.fm_world.specs.Programs.{Program}
use Rattle.fm_load.specs.ProgramCalls.{IsRefusedBy, ProgramCall, PutsText, SaysCheck, SaysLink, SaysLong, SaysMany, SaysRead, SaysRefused, SaysWords}
use Rattle.fm_load.specs.Refusal.{write_line}
use Rattle.freeme.specs.Audits.{IsNotSafe, IsSafe, OnlyReads}
use Rattle.freeme.specs.Refusal.{not_safe_line, rewrite_line, rewrite_status}
use Rattle.fm_cli_requests.specs.AuditRequest.{Audit}
use Rattle.fm_cli_requests.specs.FreemeRequest.{AskForNoRequest, AskNoAudit, AskNothing, AskOnlyForText, AskToAudit, Asks, FreemeJob}
use Rattle.fm_cli_requests.specs.ProgramText.{AskForText}
use Rattle.fm_cli_requests.specs.declared.program_text.ProgramText.{ProgramText}
use Rattle.freeme.specs.Jobs.{given_of, IsJobProgram}
use Rattle.freeme.specs.Rewriting.{cause_by}
use Rattle.freeme.specs.TopCall.{StaysWithin, IsDone, IsUnwritten, IsBroken, IsNotFreed, IsUnreported, Outcome, ComesOf, text_bytes}
use Rattle.freeme.specs.declared.status.TheConstants.{CALLS_FREE, POOL_FULL, METHOD_TOO_LONG, NOT_SAFE}
use Rattle.fm_load.specs.Causes.{FailsARead, FailsAWrite, HasTooMany, IsMissing, IsKnownLong, IsKnownRefusal, IsKnownRefused, IsKnownUnlinked, IsKnownUntyped}
use Rattle.fm_load.specs.Given.{Given, IsUntouched, AreChecked, given_program}
use Rattle.fm_load.specs.Reading.{KeepsWrites}
use Rattle.fm_load.specs.Returned.{ReadsFrom, with_contents}

-- there is no other status
abbrev pub IsStatus : ℕ → Type 0
IsStatus result =
    Contains (DONE ∷ WORDS ∷ READ ∷ MALFORMED ∷ VERSION ∷ LIMIT ∷ UNSUPPORTED ∷ LINK ∷ CHECK
    ∷ CALLS_FREE ∷ POOL_FULL ∷ METHOD_TOO_LONG ∷ NOT_SAFE ∷ WRITE ∷ OUT_OF_MEMORY ∷ []) result

-- what is said of calls whose words ask for no audit
abbrev pub OfJobs : (ProgramCall → Type 0) → ProgramCall → Type 0
OfJobs Said call = AskNoAudit call.words → Said call

-- the words ask for a job such as this
abbrev pub AskFor : List Bytes → (FreemeJob → Type 0) → Type 0
AskFor words P = (job : FreemeJob) × (Asks words job × P job)

-- the words ask for a job with class files and a main class such as these
abbrev pub AskForGiven : List Bytes → (Given → Type 0) → Type 0
AskForGiven words P = AskFor words (λ job. P (given_of job))

-- ---- 64

-- this status comes exactly where the words ask for nothing, unless the put fails or memory can't be had
abbrev pub IsForWords : ProgramCall → Type 0
IsForWords call = ComesExactly WORDS (WRITE ∷ OUT_OF_MEMORY ∷ []) call.status (AskNothing call.words × SaysWords call) (AskNothing call.words)

-- ---- 65

-- this status comes exactly where the read of a file of the job failed, unless the put fails or memory can't be had
abbrev pub IsForRead : ProgramCall → Type 0
IsForRead call =
    ComesExactly READ (WRITE ∷ OUT_OF_MEMORY ∷ []) call.status (AskForGiven call.words (SaysRead call))
    (FailsARead call.old call.new ⊎ AskForGiven call.words (IsMissing call.old))

-- ---- 66, 67 and 69

-- this status comes exactly where a file of the job is refused by its bytes with it, unless a read or the put fails or memory can't be had
abbrev pub IsForBytes : ℕ → ProgramCall → Type 0
IsForBytes status call =
    ComesExactly status (READ ∷ WRITE ∷ OUT_OF_MEMORY ∷ []) call.status (AskForGiven call.words (SaysRefused status call))
    (AskForGiven call.words (IsKnownRefused status call.old))

-- ---- 68

-- there are too many files, or one is too long, or a count of a method is above its limit
abbrev pub SaysLimit : ProgramCall → Given → Type 0
SaysLimit call given = SaysMany call given ⊎ (SaysLong call given ⊎ SaysRefused LIMIT call given)

-- this status comes exactly there, unless a read or the put fails or memory can't be had; of too many files none is read
pub record IsForLimit (call : ProgramCall) : Type 0 where
  pub only : call.status ≡ LIMIT → AskForGiven call.words (SaysLimit call)
  pub many : AskForGiven call.words HasTooMany → Contains (LIMIT ∷ WRITE ∷ OUT_OF_MEMORY ∷ []) call.status
  pub long : AskForGiven call.words (IsKnownLong call.old) → Contains (LIMIT ∷ READ ∷ WRITE ∷ OUT_OF_MEMORY ∷ []) call.status
  pub bytes : AskForGiven call.words (IsKnownRefused LIMIT call.old) → Contains (LIMIT ∷ READ ∷ WRITE ∷ OUT_OF_MEMORY ∷ []) call.status

-- ---- 70

-- this status comes exactly where the classes of the job make no program, unless a read or the put fails or memory can't be had
abbrev pub IsForLink : ProgramCall → Type 0
IsForLink call =
    ComesExactly LINK (READ ∷ WRITE ∷ OUT_OF_MEMORY ∷ []) call.status (AskForGiven call.words (SaysLink call))
    (AskForGiven call.words (IsKnownUnlinked call.old))

-- ---- 71

-- this status comes exactly where a method of the job's program isn't typed, unless a read or the put fails or memory can't be had
abbrev pub IsForCheck : ProgramCall → Type 0
IsForCheck call =
    ComesExactly CHECK (READ ∷ WRITE ∷ OUT_OF_MEMORY ∷ []) call.status (AskForGiven call.words (SaysCheck call))
    (AskForGiven call.words (IsKnownUntyped call.old))

-- ---- 72, 73 and 74

-- all files of the job are taken, their classes make a program, its methods are typed, there is a
-- cause of this status not to rewrite it, nothing failed, and no contents changed; the line names the
-- first such cause
pub record SaysNotFreed (status : ℕ) (call : ProgramCall) (job : FreemeJob) : Type 0 where
  pub cause : RewriteFail
  pub status_is : rewrite_status cause ≡ status
  pub name : Bytes
  pub not_freed : IsNotFreed job cause name call.old call.new
  pub refused : IsRefusedBy (rewrite_line cause name) call

-- the status of what becomes of classes by their first cause, if there is one
abbrev pub cause_status : Option RewriteFail → ℕ
cause_status None = DONE
cause_status (Some cause) = rewrite_status cause

-- by some exact facts of the program of the job, with least typings, this is the status of its classes; which facts are taken makes no
-- difference
pub record BecomesByFacts (status : ℕ) (job : FreemeJob) (classes : List ClassDef) : Type 0 where
  pub program : Program
  pub analysed : IsJobProgram job classes program
  pub facts : Facts
  pub exact : AreFacts program facts
  pub least : AreLeastTypings program facts.typing
  pub status_is : cause_status (cause_by job.chains program facts classes) ≡ status

-- this status comes of them: as their program calls FreeMe, or else by facts
abbrev pub BecomesAs : ℕ → FreemeJob → List ClassDef → Option (ℕ × ℕ) → Type 0
BecomesAs status job classes (Some call) = CALLS_FREE ≡ status
BecomesAs status job classes None = BecomesByFacts status job classes

-- contents are known, all files of the job are taken, their classes make a program, its methods are
-- typed, and this is its status
pub record IsKnownAs (status : ℕ) (old : Disk) (job : FreemeJob) : Type 0 where
  pub known : IsSome old.contents
  pub classes : List ClassDef
  pub checked : AreChecked (given_of job) old.contents classes
  pub becomes : BecomesAs status job classes (first_call (given_program (given_of job) classes))

-- this status comes exactly where there is such a cause, unless a read or the put fails or memory can't be had
abbrev pub IsForRewrite : ℕ → ProgramCall → Type 0
IsForRewrite status call =
    ComesExactly status (READ ∷ WRITE ∷ OUT_OF_MEMORY ∷ []) call.status (AskFor call.words (SaysNotFreed status call))
    (AskFor call.words (IsKnownAs status call.old))

-- ---- 0

-- all files of the job are taken, their classes make a program, its methods are typed, its classes are written with what frees
-- their dead objects, nothing failed, every other name is as before, the output got the lines of the classes as one piece, and
-- the report is as it was
pub record SaysDone (call : ProgramCall) (job : FreemeJob) : Type 0 where
  pub lines : List ℕ
  pub done : IsDone job lines call.old call.new
  pub line : call.after ≡ with_piece lines call.before
  pub unreported : call.reported ≡ call.report

-- this status comes only there, or where the words ask for a text; exactly where there is no cause against it, unless a read, a write or the put fails or
-- memory can't be had
abbrev pub IsForDone : ProgramCall → Type 0
IsForDone call =
    ComesExactly DONE (READ ∷ WRITE ∷ OUT_OF_MEMORY ∷ []) call.status (AskFor call.words (SaysDone call) ⊎ AskOnlyForText call.words)
    (AskFor call.words (IsKnownAs DONE call.old))

-- ---- 0, for a text

-- where the words ask for a text, it is put, or the put fails, or memory can't be had, and nothing else happens
abbrev pub IsForText : ProgramCall → Type 0
IsForText call = (asked : ProgramText) → AskForText call.words asked → PutsText (text_bytes asked) call

-- ---- 75

-- the first classes of the job are written, the write of the next one failed, and nothing else
pub record SaysUnwritten (call : ProgramCall) (job : FreemeJob) : Type 0 where
  pub name : Bytes
  pub unwritten : IsUnwritten job name call.old call.new
  pub refused : IsRefusedBy (write_line name) call

-- the words came out in some way, and the put of the lines of that failed, into the output or, of a refusal, into the report
pub record SaysUnput (call : ProgramCall) : Type 0 where
  pub outcome : Outcome
  pub comes : ComesOf call.words call.old call.new outcome
  pub fails : IsUnreported outcome call

-- one of the two, or the words ask for a text
abbrev pub SaysWrite : ProgramCall → Type 0
SaysWrite call = SaysUnput call ⊎ (AskFor call.words (SaysUnwritten call) ⊎ AskOnlyForText call.words)

-- only there; exactly there where a put failed, and where a write failed unless memory for its line can't be had
pub record IsForWrite (call : ProgramCall) : Type 0 where
  pub only : call.status ≡ WRITE → SaysWrite call
  pub put : (call.before.faults < call.after.faults) ⊎ (call.report.faults < call.reported.faults) → call.status ≡ WRITE
  pub write : FailsAWrite call.old call.new → Contains (WRITE ∷ OUT_OF_MEMORY ∷ []) call.status

-- ---- 76

-- memory couldn't be had for the job: nothing failed, and the first classes are written, or no contents changed
pub record SaysMemory (call : ProgramCall) : Type 0 where
  pub stopped : IsUntouched call.old call.new ⊎ AskFor call.words (λ job. IsBroken job call.old call.new)
  pub refused : IsRefusedBy memory_line call

-- the words came out in some way, memory couldn't be had for the lines of that, and both sinks are as they were
pub record LacksLine (call : ProgramCall) : Type 0 where
  pub outcome : Outcome
  pub comes : ComesOf call.words call.old call.new outcome
  pub silent : call.after ≡ call.before
  pub unreported : call.reported ≡ call.report

-- one of the two, or the words ask for a text
abbrev pub IsForMemory : ProgramCall → Type 0
IsForMemory call = call.status ≡ OUT_OF_MEMORY → SaysMemory call ⊎ (LacksLine call ⊎ AskOnlyForText call.words)

-- ---- what reads returned

-- contents are known, and this is the status of a job: its class files are refused, or its program is rewritten or not
abbrev pub IsKnownStatus : ℕ → Disk → FreemeJob → Type 0
IsKnownStatus status old job = IsKnownRefusal status old (given_of job) ⊎ IsKnownAs status old job

-- Where each read of the call returned bytes, known contents that hold these bytes decide the status, unless a write or the put fails or
-- memory can't be had. So what is said above of known contents holds of what the reads returned, of files of the system too.
abbrev pub IsForReturned : ProgramCall → Type 0
IsForReturned call =
    (held : Bytes → Option Bytes) (status : ℕ) → ReadsFrom held call.old call.new → AskFor call.words (IsKnownStatus status (with_contents held call.old))
    → Contains (status ∷ WRITE ∷ OUT_OF_MEMORY ∷ []) call.status

-- ---- what changes

-- at a status that isn't for a fault or for memory, no count of faults rose in this call
abbrev pub IsFaultless : ProgramCall → Type 0
IsFaultless call =
    Contains (DONE ∷ WORDS ∷ MALFORMED ∷ VERSION ∷ LIMIT ∷ UNSUPPORTED ∷ LINK ∷ CHECK
    ∷ CALLS_FREE ∷ POOL_FULL ∷ METHOD_TOO_LONG ∷ NOT_SAFE ∷ []) call.status
    → HasNoFileFault call.old call.new × (call.after.faults ≡ call.before.faults) × (call.reported.faults ≡ call.report.faults)

-- the statuses of refusals before the first write
abbrev pub before_writes : List ℕ
before_writes =
    WORDS ∷ READ ∷ MALFORMED ∷ VERSION ∷ LIMIT ∷ UNSUPPORTED ∷ LINK ∷ CHECK ∷ CALLS_FREE ∷ POOL_FULL ∷ METHOD_TOO_LONG ∷ NOT_SAFE ∷ []

-- such a refusal leaves all contents as they were, and writes nothing
abbrev pub KeepsContents : ProgramCall → Type 0
KeepsContents call = Contains before_writes call.status → (call.new.contents ≡ call.old.contents) × (call.new.writes ≡ call.old.writes)

-- such a refusal leaves the output as it was: only the report gets something
abbrev pub IsSilent : ProgramCall → Type 0
IsSilent call = Contains before_writes call.status → call.after ≡ call.before

-- one of the two sinks got at most one piece, which has bytes, and the other one is as it was; a put that failed isn't tried again
abbrev pub PutsOnce : ProgramCall → Type 0
PutsOnce call =
    (GetsAtMostOne call.before call.after × (call.reported ≡ call.report)) ⊎ (GetsAtMostOne call.report call.reported × (call.after ≡ call.before))

-- a job reads only its files and changes no name but those of class files in its folder, an audit reads only its files and class files
-- of its folder and changes nothing, and words that ask for neither leave the files as they were
pub record ChangesOnly (call : ProgramCall) : Type 0 where
  pub asked : (job : FreemeJob) → Asks call.words job → StaysWithin job call.old call.new
  pub audited : (audit : Audit) → AskToAudit call.words audit → OnlyReads audit call.old call.new
  pub unasked : AskForNoRequest call.words → call.new ≡ call.old

-- ---- audits

-- all files of an audit are taken, and those that are audited are safe insertions; nothing else happened to the files, the output got a line
-- of each class as one piece, and the report is as it was
pub record SaysSafe (audit : Audit) (call : ProgramCall) : Type 0 where
  pub lines : List ℕ
  pub safe : IsSafe audit lines call.old call.new
  pub line : call.after ≡ with_piece lines call.before
  pub unreported : call.reported ≡ call.report

-- an audit is done only there
abbrev pub IsForSafe : ProgramCall → Type 0
IsForSafe call = (audit : Audit) → AskToAudit call.words audit → call.status ≡ DONE → SaysSafe audit call

-- the words ask for an audit, all files of which are taken, and those that are audited aren't safe insertions; the line names the first class or method
-- for which they aren't, and a part
pub record SaysNotSafe (call : ProgramCall) : Type 0 where
  pub audit : Audit
  pub asked : AskToAudit call.words audit
  pub name : Bytes
  pub part : ℕ
  pub not_safe : IsNotSafe audit name part call.old call.new
  pub refused : IsRefusedBy (not_safe_line name part) call

-- this status comes only there
abbrev pub IsForNotSafe : ProgramCall → Type 0
IsForNotSafe call = call.status ≡ NOT_SAFE → SaysNotSafe call

-- an audit changes no contents and writes nothing, at any status
abbrev pub IsUnwrittenByAudits : ProgramCall → Type 0
IsUnwrittenByAudits call = (audit : Audit) → AskToAudit call.words audit → KeepsWrites call.old call.new
