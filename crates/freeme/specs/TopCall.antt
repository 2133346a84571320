-- What one call of the program does to the files, to its output and to the sink of its report.
use Rattle.std.specs.declared.alloc.Global.{Global}
use Rattle.std.specs.Prelude.{◌≡◌, ℕ, ◌⊎◌, Bool, true, List, [], ◌∷◌, Contains, Option, Some, None, IfSome, Result, Ok, Err, String, string_bytes}
use Rattle.std.specs.List.{AllByRecursion}
use Rattle.fm_files.specs.Files.{Bytes, Contents, Disk}
use Rattle.fm_files.specs.Sink.{Output, FailsPut}
use Rattle.fm_code.specs.Profile.{Profile}
use Rattle.fm_code.specs.declared.class_file.ClassDef.{ClassDef}
use Rattle.fm_conn.specs.Facts.{Facts}
use Rattle.fm_place.specs.Safe.{full_plans}
use Rattle.fm_link_refusals.specs.Refused.{refusal_of}
use Rattle.fm_law_beside_freeme.specs.Lengths.{AreHeld, HasLengthsAlone}
use Rattle.fm_law_chains.specs.FreesAll.{FreesAll}
use Rattle.fm_law_headline.specs.Headline.{DoesTheSame}
use Rattle.fm_law_retyped.specs.Retyped.{NoneUnready}
use Rattle.fm_rewrite.specs.declared.counts.Count.{Count}
use Rattle.fm_rewrite.specs.declared.error.RewriteFail.{RewriteFail}
use Rattle.fm_rewrite.specs.declared.error.RewriteFail.TheVariants as fail
use Rattle.fm_rewrite.specs.declared.rewriting.Rewritten.{Rewritten}
use Rattle.fm_cli.specs.Line.{Tells}
use Rattle.fm_cli.specs.declared.command_refusal.CommandRefusal.TheVariants as refusal
use Rattle.fm_cli.specs.declared.status.TheConstants.{DONE}
use Rattle.fm_check_program.specs.Untyped.{AreTyped}
use Rattle.fm_world.specs.Causes.{declared_name, method_text}
use Rattle.fm_world.specs.Linking.{refusals}
use Rattle.fm_world.specs.Programs.{class_info, Outline, Program, program_of}
use Rattle.fm_load.specs.Given.{given_program, IsUntouched, AreMany, IsUnread, IsLong, IsRefusedFile, IsNotLinked, IsNotTyped, AreChecked}
use Rattle.fm_load.specs.ProgramCalls.{ProgramCall, PutsText}
use Rattle.fm_load.specs.Returned.{ReadsAs, ReadsInOrder}
use Rattle.fm_load.specs.Taking.{ClassIsSpelled}
use Rattle.fm_load.specs.Changes.{RisesOnlyAt, ChangesOnlyAt, ReadsOnly}
use Rattle.freeme.specs.Refusal.{refusal_line, refusal_status}
use Rattle.fm_cli_requests.specs.AuditRequest.{Audit}
use Rattle.fm_cli_requests.specs.FreemeRequest.{AskForNoRequest, AskToAudit, Asks, FreemeJob}
use Rattle.fm_cli_requests.specs.ProgramText.{AskForNoText, AskForText}
use Rattle.fm_cli_requests.specs.declared.program_text.ProgramText.{ProgramText}
use Rattle.fm_cli_requests.specs.declared.program_text.ProgramText.TheVariants as text
use Rattle.freeme.specs.Audits.{AuditsTo, OnlyReads}
use Rattle.freeme.specs.Jobs.{given_of, IsJobProgram, main_name}
use Rattle.freeme.specs.Rewriting.{AreRewrittenBy, ComesOfRewritingBy, own_facts}
use Rattle.freeme.specs.Writing.{IsClassFileIn, written_name, class_lines, AllWritten, SomeWritten, FailsToWrite}
use Rattle.freeme.specs.declared.program_text.TheConstants.{HELP, VERSION_LINE}
use Rattle.freeme.specs.declared.refusal.FreeRefusal.{FreeRefusal}
use Rattle.freeme.specs.declared.refusal.FreeRefusal.TheVariants as free_refusal
use Rattle.fm_load.specs.declared.refusal.JobRefusal.TheVariants as job_refusal

-- ---- what a job does whatever its outcome

-- a job reads only its files, in their order, and changes no name but those of class files in its folder
pub record StaysWithin (job : FreemeJob) (old new : Disk) : Type 0 where
  pub reads : ReadsOnly (Contains job.files) old new
  pub asked : ReadsInOrder job.files old new
  pub writes : RisesOnlyAt (IsClassFileIn job.folder) old.write_faults new.write_faults
  pub contents : ChangesOnlyAt (IsClassFileIn job.folder) old.contents new.contents

-- ---- how a job comes out

-- In no method, by the facts by which the classes are rewritten, does a local hold a copy of a held object where its constructor is called
-- and a handler's range ends right behind the call (JVMS 4.10.2.4): what is inserted there is in the range too, and the handler would get
-- the copy both before it is initialised and after.
abbrev pub AreLocalsReady : Program → Facts → Type 0
AreLocalsReady p facts = NoneUnready p facts (full_plans p facts)

-- files that hold the classes that are written aren't refused with the same main class, but for their number or their lengths, as far
-- as contents decide
abbrev pub AreFilesTaken : List ℕ → Rewritten → Type 0
AreFilesTaken main made =
    (held : Bytes → Option Bytes) (files : List Bytes) → AreHeld held files made.classes.items → (old : Disk) → old.contents ≡ Some held
    → HasLengthsAlone old (record { files = files; made = None; main = main })

-- The classes that are written are taken again: they link, and where locals are ready their methods that have code are typed, and files
-- that hold them are taken.
pub record AreTakenAgain (p : Program) (main : List ℕ) (made : Rewritten) (facts : Facts) : Type 0 where
  pub links : refusals made.classes.items main ≡ []
  pub typed : AreLocalsReady p facts → AreTyped (program_of made.classes.items main)
  pub files : AreLocalsReady p facts → AreFilesTaken main made

-- Its class files make a program of typed methods that calls no FreeMe, and these are its classes
-- with a holder for each held site that is freed at all its places, where it may hold something and
-- its class isn't busy, with the counts of each; no pool of them is full, and no method too long. What
-- is held is found by their program, narrowed where the job says so; and where it says so, the holders of sites in loops hold chains.
-- The bytes of each class spell it, it is of the profile, and all of them are taken again. They do what the classes read do, and with chains they free all that a site
-- in a loop gave.
pub record AreFreed (job : FreemeJob) (contents : Contents) (made : Rewritten) : Type 0 where
  pub classes : List ClassDef
  pub checked : AreChecked (given_of job) contents classes
  pub program : Program
  pub analysed : IsJobProgram job classes program
  pub rewritten : AreRewrittenBy job.chains program classes made
  pub spelled : AllByRecursion ClassIsSpelled made.classes.items
  pub profile : AllByRecursion Profile made.classes.items
  pub again : AreTakenAgain program (main_name job) made (own_facts rewritten)
  pub does : DoesTheSame program classes (main_name job) made.classes.items rewritten.marks (own_facts rewritten)
  pub all : job.chains ≡ true
      → FreesAll program (program_of classes (main_name job)) (program_of made.classes.items (main_name job)) (own_facts rewritten) rewritten.marks

-- where contents are known, the name holds now what the file held before
abbrev pub HoldsStill : (file name : Bytes) → (old new : Contents) → Type 0
HoldsStill file name old new = IfSome old (λ before. IfSome new (λ after. after name ≡ before file))

-- of files with the classes that are written of them, and with what is reported of these: each
-- class of which no site is held is written byte for byte as read; a class that was made was not read
abbrev pub AreStill : (folder : Bytes) → List Bytes → List ClassDef → List Count → (old new : Contents) → Type 0
AreStill folder [] classes counts old new = Unit {0}
AreStill folder (file ∷ files) (c ∷ classes) (count ∷ counts) old new =
    (count.sites ≡ 0 → HoldsStill file (written_name folder c) old new) × AreStill folder files classes counts old new
AreStill folder files classes counts old new = ⊥

-- they are written, of the classes that were read, and these are their lines
pub record IsDone (job : FreemeJob) (lines : List ℕ) (old new : Disk) : Type 0 where
  pub made : Rewritten
  pub freed : AreFreed job old.contents made
  pub reads : ReadsAs job.files freed.classes old new
  pub written : AllWritten job.folder made.classes.items old new
  pub unheld : AreStill job.folder job.files made.classes.items made.counts.items old.contents new.contents
  pub lines_are : lines ≡ class_lines made.classes.items made.counts.items

-- the write of one of them, to this name, failed
pub record IsUnwritten (job : FreemeJob) (name : Bytes) (old new : Disk) : Type 0 where
  pub made : Rewritten
  pub freed : AreFreed job old.contents made
  pub reads : ReadsAs job.files freed.classes old new
  pub fails : FailsToWrite job.folder made.classes.items name old new

-- some of them are written, but not the last one
pub record IsBroken (job : FreemeJob) (old new : Disk) : Type 0 where
  pub made : Rewritten
  pub freed : AreFreed job old.contents made
  pub reads : ReadsAs job.files freed.classes old new
  pub written : SomeWritten job.folder made.classes.items old new

-- the method or the class that a cause names, by its name
abbrev pub cause_name : Outline → RewriteFail → List ℕ
cause_name o (fail.CallsFree method offset) = method_text (declared_name o.classes method.0)
cause_name o (fail.PoolFull class indices) = (class_info o class.0).name
cause_name o (fail.MethodTooLong method bytes) = method_text (declared_name o.classes method.0)
cause_name o fail.NoMemory = []

-- class files aren't rewritten by this program, with chains or without, for this cause, which is the first one
abbrev pub IsFirstCause : (chains : Bool) → Program → List ClassDef → RewriteFail → Type 0
IsFirstCause chains p classes fail.NoMemory = ⊥
IsFirstCause chains p classes cause = ComesOfRewritingBy chains p classes (Err cause)

-- its class files make a program of typed methods, and this is the first cause for which it isn't rewritten: a method calls
-- FreeMe, or else the pool of a class with a held site is full, or else a method is too long
pub record IsNotFreed (job : FreemeJob) (cause : RewriteFail) (name : Bytes) (old new : Disk) : Type 0 where
  pub classes : List ClassDef
  pub checked : AreChecked (given_of job) old.contents classes
  pub reads : ReadsAs job.files classes old new
  pub program : Program
  pub analysed : IsJobProgram job classes program
  pub refused : IsFirstCause job.chains program classes cause
  pub name_is : name ≡ cause_name (given_program (given_of job) classes).outline cause
  pub untouched : IsUntouched old new

-- how it comes out: with lines that report what is written, or with why it isn't done
abbrev pub Outcome : Type 0
Outcome = Result (String Global) FreeRefusal

-- what a job that comes out so does to the files
abbrev pub ComesTo : FreemeJob → Disk → Disk → Outcome → Type 0
ComesTo job old new (Ok lines) = IsDone job (string_bytes lines) old new
ComesTo job old new (Err (free_refusal.Rewrite cause name)) = IsNotFreed job cause name old new
ComesTo job old new (Err (free_refusal.NotSafe name part)) = ⊥
ComesTo job old new (Err (free_refusal.Job (job_refusal.Write name))) = IsUnwritten job (string_bytes name) old new
ComesTo job old new (Err (free_refusal.Job (job_refusal.TooManyFiles count))) = AreMany job.files count old new
ComesTo job old new (Err (free_refusal.Job (job_refusal.TooLong file))) = IsLong job.files file.now old new
ComesTo job old new (Err (free_refusal.Job (job_refusal.Class file refusal))) = IsRefusedFile job.files file.now refusal old new
ComesTo job old new (Err (free_refusal.Job (job_refusal.Shared (refusal.Read file)))) = IsUnread job.files file.now old new
ComesTo job old new (Err (free_refusal.Job (job_refusal.Link fail))) = IsNotLinked (given_of job) (refusal_of fail) old new
ComesTo job old new (Err (free_refusal.Job (job_refusal.Check name))) = IsNotTyped (given_of job) name old new
ComesTo job old new (Err (free_refusal.Job (job_refusal.Shared refusal.OutOfMemory))) = IsUntouched old new ⊎ IsBroken job old new
ComesTo job old new (Err (free_refusal.Job (job_refusal.Shared refusal.Words))) = ⊥
ComesTo job old new (Err (free_refusal.Job (job_refusal.TooManyArguments count))) = ⊥

-- ---- a call

-- the words ask for a job, which comes out so
pub record ComesOfJob (words : List Bytes) (old new : Disk) (outcome : Outcome) : Type 0 where
  pub job : FreemeJob
  pub asked : Asks words job
  pub within : StaysWithin job old new
  pub comes : ComesTo job old new outcome

-- the words ask for no job and for no audit, which is refused, and leaves the files as they were
pub record ComesOfNothing (words : List Bytes) (old new : Disk) (outcome : Outcome) : Type 0 where
  pub unasked : AskForNoRequest words
  pub refused : outcome ≡ Err (free_refusal.Job (job_refusal.Shared refusal.Words))
  pub kept : new ≡ old

-- memory to read the words can't be had, and the files are as they were
pub record LacksRequest (old new : Disk) (outcome : Outcome) : Type 0 where
  pub refused : outcome ≡ Err (free_refusal.Job (job_refusal.Shared refusal.OutOfMemory))
  pub kept : new ≡ old

-- what words that come out so, and ask for no audit, do to the files
abbrev pub ComesOf : List Bytes → Disk → Disk → Outcome → Type 0
ComesOf words old new outcome = ComesOfJob words old new outcome ⊎ (ComesOfNothing words old new outcome ⊎ LacksRequest old new outcome)

-- the lines of a job that is done are put into the output as one piece, that of a refusal into the report, and the result is the status of the
-- outcome; or the put fails, or memory for it can't be had; the other sink is as it was
abbrev pub IsReported : Outcome → Output → Output → Output → Output → ℕ → Type 0
IsReported (Ok lines) before after report reported result = Tells (string_bytes lines) DONE before after result × (reported ≡ report)
IsReported (Err refusal) before after report reported result =
    Tells (refusal_line refusal) (refusal_status refusal) report reported result × (after ≡ before)

-- the lines of the outcome of a call are reported so
abbrev pub Reports : Outcome → ProgramCall → Type 0
Reports outcome call = IsReported outcome call.before call.after call.report call.reported call.status

-- that put fails, and the other sink is as it was
abbrev pub IsUnreported : Outcome → ProgramCall → Type 0
IsUnreported (Ok lines) call = FailsPut (string_bytes lines) call.before call.after × (call.reported ≡ call.report)
IsUnreported (Err refusal) call = FailsPut (refusal_line refusal) call.report call.reported × (call.after ≡ call.before)

-- a call for no text: what the words ask for, which is no audit, comes out in some way, or memory to read them can't be had, and that is reported
pub record IsJobCall (call : ProgramCall) : Type 0 where
  pub no_text : AskForNoText call.words
  pub outcome : Outcome
  pub comes : ComesOf call.words call.old call.new outcome
  pub reports : Reports outcome call

-- a call for an audit, which comes out in some way, and that is reported
pub record IsAuditCall (call : ProgramCall) : Type 0 where
  pub no_text : AskForNoText call.words
  pub audit : Audit
  pub asked : AskToAudit call.words audit
  pub within : OnlyReads audit call.old call.new
  pub outcome : Outcome
  pub comes : AuditsTo audit call.old call.new outcome
  pub reports : Reports outcome call

-- one of the two
abbrev pub IsCallForNoText : ProgramCall → Type 0
IsCallForNoText call = IsJobCall call ⊎ IsAuditCall call

-- the bytes of a text of the program
abbrev pub text_bytes : ProgramText → List ℕ
text_bytes text.Help = HELP.now
text_bytes text.Version = VERSION_LINE.now

-- a call for a text
pub record IsTextCall (call : ProgramCall) : Type 0 where
  pub asked : ProgramText
  pub asks : AskForText call.words asked
  pub put : PutsText (text_bytes asked) call

-- what a call does, by what the words ask for
abbrev pub IsTopCall : ProgramCall → Type 0
IsTopCall call = IsTextCall call ⊎ IsCallForNoText call
