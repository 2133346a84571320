-- What each status says and when it comes, by what a call does as a whole.
use Rattle.std.proofs.Common.{◌≡◌, ◌≢◌, ◌≤◌, ℕ, ◌⊎◌, inl, inr, ⊎_elim, List, [], ◌∷◌, Contains, Option, Some, None, Ok, Err, IsSome, IsSomeAnd, string_bytes, eqb, false, refl, sym, ap, ◌∙◌, subst, arith}
use Rattle.std.specs.List.{list_any}
use Rattle.std.proofs.lemmas.List.Elements.{Contains-append_right}
use Rattle.fm_base.proofs.ContainsFacts.{Contains-cons_cases, unlike_elements}
use Rattle.fm_base.proofs.OptionFacts.{Some-from_is_some, Some-from_some_and}
use Rattle.fm_files.specs.Files.{Bytes, Contents, Disk, AreKept}
use Rattle.fm_files.specs.Sink.{Output, with_piece}
use Rattle.fm_cli.specs.Line.{Tells}
use Rattle.fm_cli.specs.Outside.{HasNoFileFault, IsKnownSuch}
use Rattle.fm_cli.specs.Status.{ComesExactly}
use Rattle.fm_cli.specs.declared.command_refusal.CommandRefusal.TheVariants as refusal
use Rattle.fm_cli.proofs.LineLemmas.{instead_for_file, instead_for_words, told_among, is_put, told_of_file, told_of_words, comes_of_file, comes_of_words}
use Rattle.fm_cli.proofs.OutsideLemmas.{no_fault_where_same}
use Rattle.fm_cli.specs.declared.status.TheConstants.{DONE, WORDS, READ, MALFORMED, VERSION, LIMIT, UNSUPPORTED, LINK, CHECK, WRITE, OUT_OF_MEMORY}
use Rattle.fm_code.specs.declared.class_file.ClassDef.{ClassDef}
use Rattle.fm_link_refusals.specs.Refused.{refusal_of}
use Rattle.fm_rewrite.specs.declared.error.RewriteFail.{RewriteFail}
use Rattle.fm_rewrite.specs.declared.error.RewriteFail.TheVariants as fail
use Rattle.fm_world.specs.Causes.{Refusal}
use Rattle.fm_world.specs.Linking.{refusals}
use Rattle.fm_load.specs.Given.{AreGiven, AreMany, IsUntouched, AreNotLinked, IsNotLinked, given_program}
use Rattle.freeme.specs.Causes.{AskFor, AskForGiven, IsKnownAs, IsKnownStatus, SaysLimit, SaysNotFreed, SaysDone, SaysUnwritten, SaysWrite, SaysMemory, LacksLine, IsForWords, IsForRead, IsForBytes, IsForLimit, IsForLink, IsForCheck, IsForReturned, IsForRewrite, IsForDone, IsForText, IsForWrite, IsForMemory, IsFaultless, IsSilent, KeepsContents, ChangesOnly, before_writes}
use Rattle.fm_load.specs.Causes.{FailsARead, FailsAWrite, IsMissing, HasTooMany, IsKnownLong, IsKnownRefused, IsKnownUnlinked, IsKnownUntyped}
use Rattle.fm_load.specs.LinkRefusal.{cause_line}
use Rattle.fm_load.specs.Returned.{ReadsFirst, ReadsFrom, with_contents}
use Rattle.fm_cli_requests.specs.FreemeRequest.{AskForNoRequest, AskNothing, AskOnlyForText, AskToAudit, Asks, FreemeJob}
use Rattle.fm_cli_requests.specs.ProgramText.{AskForNoText}
use Rattle.fm_cli_requests.specs.AuditRequest.{Audit}
use Rattle.freeme.specs.Audits.{OnlyReads}
use Rattle.freeme.specs.Jobs.{given_of, main_name}
use Rattle.fm_load.specs.Taking.{total_bytes, IsTooLong, IsRefused}
use Rattle.freeme.specs.TopCall.{StaysWithin, IsBroken, ComesTo, ComesOfJob, ComesOf, Outcome, Reports}
use Rattle.freeme.specs.Refusal.{rewrite_status}
use Rattle.freeme.specs.declared.refusal.FreeRefusal.TheVariants as free_refusal
use Rattle.freeme.specs.declared.status.TheConstants.{CALLS_FREE, POOL_FULL, METHOD_TOO_LONG, NOT_SAFE}
use Rattle.fm_load.specs.declared.refusal.JobRefusal.TheVariants as job_refusal
use Rattle.fm_load.specs.ProgramCalls.{IsRefusedBy, ProgramCall, SaysCheck, SaysLink, SaysRead, SaysRefused, SaysWords}
use Rattle.fm_load.specs.Refusal.{many_line}
use Rattle.fm_cli.specs.CommandRefusal.{memory_line}
use Rattle.freeme.proofs.AnalysedLemmas.{cause_becomes, done_becomes, Rewrites, rewrites_once}
use Rattle.freeme.proofs.JobLemmas.{reads_within}
use Rattle.freeme.proofs.RewritingLemmas.{CausesAgree}
use Rattle.freeme.proofs.ReportedLemmas.{IsLinePut, both_kept, line_faultless, line_put, outcome_line, outcome_status, own_after, own_before, own_reports, put_failed, reported_silent, is_unreported}
use Rattle.fm_load.proofs.ReadLemmas.{reads_none}
use Rattle.fm_cli_requests.proofs.FreemeRequestLemmas.{asks_one}
use Rattle.fm_load.proofs.GivenLemmas.{Behind, behind_once, given_passes}
use Rattle.fm_load.proofs.KnownLemmas.{bytes_stop, long_stops, missing_stops, not_empty, not_typed}
use Rattle.fm_load.proofs.RefusalLemmas.{class_status}
use Rattle.fm_load.proofs.ReturnedLemmas.{IsSeen, known_seen, not_unread, reads_first, returned_seen}
use Rattle.fm_load.proofs.VerdictLemmas.{EndsOnce, Links, links_once, Verdict, one_verdict}

-- ---- what a status says

-- the words asked for a job, where the status is neither that of words nor that of memory
job_of_status : (words : List Bytes) (old new : Disk) (o : Outcome) (status : ℕ) → ComesOf words old new o → outcome_status o ≡ status → status ≢ WORDS → status ≢ OUT_OF_MEMORY → ComesOfJob words old new o
job_of_status words old new o status (inl job) is unlike_words unlike_memory = job
job_of_status words old new o status (inr (inl nothing)) is unlike_words unlike_memory = absurd (unlike_words (sym is ∙ ap outcome_status nothing.refused))
job_of_status words old new o status (inr (inr lacking)) is unlike_words unlike_memory = absurd (unlike_memory (sym is ∙ ap outcome_status lacking.refused))

-- the status of a program that isn't rewritten: 72 to 74, or that of memory
pub rewrite_bounds : (cause : RewriteFail) → (72 ≤ rewrite_status cause) × (rewrite_status cause ≤ 76)
rewrite_bounds (fail.CallsFree method offset) = (omega arith, omega arith)
rewrite_bounds (fail.PoolFull class indices) = (omega arith, omega arith)
rewrite_bounds (fail.MethodTooLong method bytes) = (omega arith, omega arith)
rewrite_bounds fail.NoMemory = (omega arith, omega arith)

not_write : (cause : RewriteFail) → rewrite_status cause ≢ WRITE
not_write (fail.CallsFree method offset) is = omega arith
not_write (fail.PoolFull class indices) is = omega arith
not_write (fail.MethodTooLong method bytes) is = omega arith
not_write fail.NoMemory is = omega arith

module _ (call : ProgramCall) where
  -- a job that comes out so
  abbrev OfJob : Outcome → Type 0
  OfJob o = ComesOfJob call.words call.old call.new o

  -- 0
  done_said : (o : Outcome) → OfJob o → outcome_status o ≡ DONE → IsLinePut o call → AskFor call.words (SaysDone call)
  done_said (Ok lines) j is line = (j.job, (j.asked, record { lines = string_bytes lines; done = j.comes; line = line.0; unreported = line.1 }))
  done_said (Err (free_refusal.Job (job_refusal.Class file r))) j is line = absurd (let c = class_status r in let low = c.low in let high = c.high in omega arith)
  done_said (Err (free_refusal.Job (job_refusal.Shared refusal.Words))) j is line = absurd (omega arith)
  done_said (Err (free_refusal.Rewrite cause name)) j is line = absurd (let r = rewrite_bounds cause in let low = r.0 in let high = r.1 in omega arith)
  done_said o j is line = absurd (omega arith)

  -- 65
  read_said : (o : Outcome) → OfJob o → outcome_status o ≡ READ → IsLinePut o call → AskForGiven call.words (SaysRead call)
  read_said (Err (free_refusal.Job (job_refusal.Shared (refusal.Read file)))) j is line = (j.job, (j.asked, record { file = file.now; unread = j.comes; refused = line }))
  read_said (Err (free_refusal.Job (job_refusal.Class file r))) j is line = absurd (let c = class_status r in let low = c.low in let high = c.high in omega arith)
  read_said (Err (free_refusal.Rewrite cause name)) j is line = absurd (let r = rewrite_bounds cause in let low = r.0 in let high = r.1 in omega arith)
  read_said o j is line = absurd (omega arith)

  -- 70
  cause_said : (o : Outcome) (j : OfJob o) (cause : Option Refusal) → IsNotLinked (given_of j.job) cause call.old call.new → IsRefusedBy (cause_line cause) call
      → AskForGiven call.words (SaysLink call)
  cause_said o j None unlinked line = absurd unlinked.refused
  cause_said o j (Some cause) unlinked line = (j.job, (j.asked, record { cause = cause; unlinked = unlinked; refused = line }))

  link_said : (o : Outcome) → OfJob o → outcome_status o ≡ LINK → IsLinePut o call → AskForGiven call.words (SaysLink call)
  link_said (Err (free_refusal.Job (job_refusal.Link fail))) j is line = cause_said (Err (free_refusal.Job (job_refusal.Link fail))) j (refusal_of fail) j.comes line
  link_said (Err (free_refusal.Job (job_refusal.Class file r))) j is line = absurd (let c = class_status r in let low = c.low in let high = c.high in omega arith)
  link_said (Err (free_refusal.Job (job_refusal.Shared refusal.Words))) j is line = absurd (omega arith)
  link_said (Err (free_refusal.Rewrite cause name)) j is line = absurd (let r = rewrite_bounds cause in let low = r.0 in let high = r.1 in omega arith)
  link_said o j is line = absurd (omega arith)

  -- 71
  check_said : (o : Outcome) → OfJob o → outcome_status o ≡ CHECK → IsLinePut o call → AskForGiven call.words (SaysCheck call)
  check_said (Err (free_refusal.Job (job_refusal.Check name))) j is line = (j.job, (j.asked, record { name = name; untyped = j.comes; refused = line }))
  check_said (Err (free_refusal.Job (job_refusal.Class file r))) j is line = absurd (let c = class_status r in let low = c.low in let high = c.high in omega arith)
  check_said (Err (free_refusal.Job (job_refusal.Shared refusal.Words))) j is line = absurd (omega arith)
  check_said (Err (free_refusal.Rewrite cause name)) j is line = absurd (let r = rewrite_bounds cause in let low = r.0 in let high = r.1 in omega arith)
  check_said o j is line = absurd (omega arith)

  -- 72, 73 and 74
  not_freed_said : (status : ℕ) → 72 ≤ status → status ≤ 74 → (o : Outcome) → OfJob o → outcome_status o ≡ status → IsLinePut o call → AskFor call.words (SaysNotFreed status call)
  not_freed_said status low high (Err (free_refusal.Rewrite cause name)) j is line = (j.job, (j.asked, record { cause = cause; status_is = is; name = name; not_freed = j.comes; refused = line }))
  not_freed_said status low high (Err (free_refusal.Job (job_refusal.Class file r))) j is line = absurd (let c = class_status r in let most = c.high in omega arith)
  not_freed_said status low high (Err (free_refusal.Job (job_refusal.Shared refusal.Words))) j is line = absurd (omega arith)
  not_freed_said status low high o j is line = absurd (omega arith)

  -- 66, 67 and 69
  bytes_said : (status : ℕ) → 66 ≤ status → status ≤ 69 → status ≢ LIMIT → (o : Outcome) → OfJob o → outcome_status o ≡ status → IsLinePut o call → AskForGiven call.words (SaysRefused status call)
  bytes_said status low high other (Err (free_refusal.Job (job_refusal.TooManyFiles count))) j is line = absurd (other (sym is))
  bytes_said status low high other (Err (free_refusal.Job (job_refusal.TooLong file))) j is line = absurd (other (sym is))
  bytes_said status low high other (Err (free_refusal.Job (job_refusal.TooManyArguments count))) j is line = absurd j.comes
  bytes_said status low high other (Err (free_refusal.Job (job_refusal.Class file r))) j is line = (j.job, (j.asked, record { file = file.now; refusal = r; status_is = is; unaccepted = j.comes; refused = line }))
  bytes_said status low high other (Err (free_refusal.Job (job_refusal.Shared refusal.Words))) j is line = absurd (omega arith)
  bytes_said status low high other (Err (free_refusal.Rewrite cause name)) j is line = absurd (let r = rewrite_bounds cause in let from = r.0 in omega arith)
  bytes_said status low high other o j is line = absurd (omega arith)

  -- 68
  limit_said : (o : Outcome) → OfJob o → outcome_status o ≡ LIMIT → IsLinePut o call → AskForGiven call.words (SaysLimit call)
  limit_said (Err (free_refusal.Job (job_refusal.TooManyFiles count))) j is line =
      let Many : ℕ → Type 0 = λ n. AreMany j.job.files n call.old call.new × IsRefusedBy (many_line n) call in
      let own = subst Many j.comes.count_is (j.comes, line) in
      (j.job, (j.asked, inl (record { many = own.0; refused = own.1 })))
  limit_said (Err (free_refusal.Job (job_refusal.TooManyArguments count))) j is line = absurd j.comes
  limit_said (Err (free_refusal.Job (job_refusal.TooLong file))) j is line = (j.job, (j.asked, inr (inl (record { file = file.now; long = j.comes; refused = line }))))
  limit_said (Err (free_refusal.Job (job_refusal.Class file r))) j is line = (j.job, (j.asked, inr (inr (record { file = file.now; refusal = r; status_is = is; unaccepted = j.comes; refused = line }))))
  limit_said (Err (free_refusal.Job (job_refusal.Shared refusal.Words))) j is line = absurd (omega arith)
  limit_said (Err (free_refusal.Rewrite cause name)) j is line = absurd (let r = rewrite_bounds cause in let low = r.0 in let high = r.1 in omega arith)
  limit_said o j is line = absurd (omega arith)

  -- 75, where the line is put
  unwritten_said : (o : Outcome) → OfJob o → outcome_status o ≡ WRITE → IsLinePut o call → AskFor call.words (SaysUnwritten call)
  unwritten_said (Err (free_refusal.Job (job_refusal.Write name))) j is line = (j.job, (j.asked, record { name = string_bytes name; unwritten = j.comes; refused = line }))
  unwritten_said (Err (free_refusal.Job (job_refusal.Class file r))) j is line = absurd (let c = class_status r in let low = c.low in let high = c.high in omega arith)
  unwritten_said (Err (free_refusal.Job (job_refusal.Shared refusal.Words))) j is line = absurd (omega arith)
  unwritten_said (Err (free_refusal.Rewrite cause name)) j is line = absurd (not_write cause is)
  unwritten_said o j is line = absurd (omega arith)

  -- 76, where the line is put
  stopped : (o : Outcome) → OfJob o → outcome_status o ≡ OUT_OF_MEMORY → IsUntouched call.old call.new ⊎ AskFor call.words (λ job. IsBroken job call.old call.new)
  stopped (Err (free_refusal.Job (job_refusal.Shared refusal.OutOfMemory))) j is = ⊎_elim (λ untouched. inl untouched) (λ broken. inr (j.job, (j.asked, broken))) j.comes
  stopped (Err (free_refusal.Job (job_refusal.Class file r))) j is = absurd (let c = class_status r in let low = c.low in let high = c.high in omega arith)
  stopped (Err (free_refusal.Rewrite cause name)) j is = inl j.comes.untouched
  stopped o j is = absurd (omega arith)

  -- the line of memory
  memory_said : (o : Outcome) → outcome_status o ≡ OUT_OF_MEMORY → IsLinePut o call → IsRefusedBy memory_line call
  memory_said (Err (free_refusal.Job (job_refusal.Shared refusal.OutOfMemory))) is line = line
  memory_said (Err (free_refusal.Job (job_refusal.Class file r))) is line = absurd (let c = class_status r in let low = c.low in let high = c.high in omega arith)
  memory_said (Err (free_refusal.Rewrite fail.NoMemory name)) is line = line
  memory_said (Err (free_refusal.Rewrite (fail.CallsFree method offset) name)) is line = absurd (omega arith)
  memory_said (Err (free_refusal.Rewrite (fail.PoolFull class indices) name)) is line = absurd (omega arith)
  memory_said (Err (free_refusal.Rewrite (fail.MethodTooLong method bytes) name)) is line = absurd (omega arith)
  memory_said o is line = absurd (omega arith)

-- ---- what fails and what is kept

-- nothing failed, or a read did, or a write
abbrev FailsSo : Disk → Disk → ℕ → Type 0
FailsSo old new status =
    HasNoFileFault old new ⊎ (((status ≡ READ) × AreKept old.write_faults new.write_faults) ⊎ ((status ≡ WRITE) × AreKept old.read_faults new.read_faults))

job_fails : (job : FreemeJob) (old new : Disk) (o : Outcome) → ComesTo job old new o → FailsSo old new (outcome_status o)
job_fails job old new (Ok lines) comes = inl comes.written.faultless
job_fails job old new (Err (free_refusal.Job (job_refusal.Shared refusal.Words))) comes = absurd comes
job_fails job old new (Err (free_refusal.Job (job_refusal.TooManyArguments count))) comes = absurd comes
job_fails job old new (Err (free_refusal.Job (job_refusal.Shared (refusal.Read file)))) comes = inr (inl (refl, comes.fault.writes))
job_fails job old new (Err (free_refusal.Rewrite cause name)) comes = inl comes.untouched.faultless
job_fails job old new (Err (free_refusal.NotSafe name part)) comes = absurd comes
job_fails job old new (Err (free_refusal.Job (job_refusal.Shared refusal.OutOfMemory))) comes = ⊎_elim (λ untouched. inl untouched.faultless) (λ broken. inl broken.written.faultless) comes
job_fails job old new (Err (free_refusal.Job (job_refusal.TooManyFiles count))) comes = inl (no_fault_where_same old new comes.kept)
job_fails job old new (Err (free_refusal.Job (job_refusal.TooLong file))) comes = inl comes.untouched.faultless
job_fails job old new (Err (free_refusal.Job (job_refusal.Class file r))) comes = inl comes.untouched.faultless
job_fails job old new (Err (free_refusal.Job (job_refusal.Link fail))) comes = inl comes.untouched.faultless
job_fails job old new (Err (free_refusal.Job (job_refusal.Check name))) comes = inl comes.untouched.faultless
job_fails job old new (Err (free_refusal.Job (job_refusal.Write name))) comes = inr (inr (refl, comes.fails.fault.reads))

pub fails_so : (words : List Bytes) (old new : Disk) (o : Outcome) → ComesOf words old new o → FailsSo old new (outcome_status o)
fails_so words old new o (inl j) = job_fails j.job old new o j.comes
fails_so words old new o (inr (inl nothing)) = inl (no_fault_where_same old new nothing.kept)
fails_so words old new o (inr (inr lacking)) = inl (no_fault_where_same old new lacking.kept)

-- contents are kept, and nothing is written,
abbrev IsUnchanged : Disk → Disk → Type 0
IsUnchanged old new = (new.contents ≡ old.contents) × (new.writes ≡ old.writes)

unchanged_where_same : (old new : Disk) → new ≡ old → IsUnchanged old new
unchanged_where_same old new same = (ap (λ (d : Disk). d.contents) same, ap (λ (d : Disk). d.writes) same)

-- but where classes are written
job_keeps : (job : FreemeJob) (old new : Disk) (o : Outcome) → ComesTo job old new o → outcome_status o ≢ DONE → outcome_status o ≢ WRITE → outcome_status o ≢ OUT_OF_MEMORY → IsUnchanged old new
job_keeps job old new (Ok lines) comes done write memory = absurd (done refl)
job_keeps job old new (Err (free_refusal.Job (job_refusal.Shared refusal.Words))) comes done write memory = absurd comes
job_keeps job old new (Err (free_refusal.Job (job_refusal.TooManyArguments count))) comes done write memory = absurd comes
job_keeps job old new (Err (free_refusal.Job (job_refusal.Shared (refusal.Read file)))) comes done write memory = (comes.kept, comes.unwritten)
job_keeps job old new (Err (free_refusal.Rewrite cause name)) comes done write memory = (comes.untouched.kept, comes.untouched.unwritten)
job_keeps job old new (Err (free_refusal.NotSafe name part)) comes done write memory = absurd comes
job_keeps job old new (Err (free_refusal.Job (job_refusal.Shared refusal.OutOfMemory))) comes done write memory = absurd (memory refl)
job_keeps job old new (Err (free_refusal.Job (job_refusal.TooManyFiles count))) comes done write memory = unchanged_where_same old new comes.kept
job_keeps job old new (Err (free_refusal.Job (job_refusal.TooLong file))) comes done write memory = (comes.untouched.kept, comes.untouched.unwritten)
job_keeps job old new (Err (free_refusal.Job (job_refusal.Class file r))) comes done write memory = (comes.untouched.kept, comes.untouched.unwritten)
job_keeps job old new (Err (free_refusal.Job (job_refusal.Link fail))) comes done write memory = (comes.untouched.kept, comes.untouched.unwritten)
job_keeps job old new (Err (free_refusal.Job (job_refusal.Check name))) comes done write memory = (comes.untouched.kept, comes.untouched.unwritten)
job_keeps job old new (Err (free_refusal.Job (job_refusal.Write name))) comes done write memory = absurd (write refl)

keeps : (words : List Bytes) (old new : Disk) (o : Outcome) → ComesOf words old new o → outcome_status o ≢ DONE → outcome_status o ≢ WRITE → outcome_status o ≢ OUT_OF_MEMORY → IsUnchanged old new
keeps words old new o (inl j) done write memory = job_keeps j.job old new o j.comes done write memory
keeps words old new o (inr (inl nothing)) done write memory = unchanged_where_same old new nothing.kept
keeps words old new o (inr (inr lacking)) done write memory = unchanged_where_same old new lacking.kept

-- ---- verdicts, where contents are known

-- the verdict on the files of a job
abbrev JobVerdict : (Bytes → Option Bytes) → FreemeJob → ℕ → Type 0
JobVerdict held job status = Verdict (Behind job.made (Links (Rewrites job) (main_name job))) held job.files status

module _ (job : FreemeJob) (old new : Disk) (held : Bytes → Option Bytes) (seen : IsSeen (given_of job) held old new) where
  -- classes that are given, with their outcome
  given_known : {classes : List ClassDef} → AreGiven (given_of job) old.contents classes → ReadsFirst job.files classes old new → (status : ℕ)
      → Links (Rewrites job) (main_name job) classes status → JobVerdict held job status
  given_known {classes} are reads status last =
      inr (inr (given_passes (Links (Rewrites job) (main_name job)) held refl (seen.given classes are reads) status last))

  -- the verdict of an outcome, unless it is for a fault or for memory
  abbrev Comes : ℕ → Type 0
  Comes status = JobVerdict held job status ⊎ ((status ≡ READ) ⊎ ((status ≡ WRITE) ⊎ (status ≡ OUT_OF_MEMORY)))

  verdict_of : (o : Outcome) → ComesTo job old new o → Comes (outcome_status o)
  verdict_of (Ok lines) comes =
      let freed = comes.freed in
      inl (given_known freed.checked.linked.source (reads_first job.files freed.classes old new comes.reads) DONE (inr (
        freed.checked.linked.linked,
        inr (
          freed.checked.typed,
          done_becomes job freed.classes freed.program freed.analysed comes.made freed.rewritten,
        ),
      )))
  verdict_of (Err (free_refusal.Job (job_refusal.Shared refusal.Words))) comes = absurd comes
  verdict_of (Err (free_refusal.Job (job_refusal.TooManyArguments count))) comes = absurd comes
  verdict_of (Err (free_refusal.Job (job_refusal.Shared (refusal.Read file)))) comes = inr (inl refl)
  verdict_of (Err (free_refusal.Rewrite cause name)) comes =
      inl (given_known comes.checked.linked.source (reads_first job.files comes.classes old new comes.reads) (rewrite_status cause)
      (inr (comes.checked.linked.linked, inr (comes.checked.typed, cause_becomes job comes.classes comes.program comes.analysed cause comes.refused))))
  verdict_of (Err (free_refusal.NotSafe name part)) comes = absurd comes
  verdict_of (Err (free_refusal.Job (job_refusal.Shared refusal.OutOfMemory))) comes = inr (inr (inr refl))
  verdict_of (Err (free_refusal.Job (job_refusal.TooManyFiles count))) comes = let count = comes.count_is in let many = comes.many in inl (inl (omega arith, refl))
  verdict_of (Err (free_refusal.Job (job_refusal.TooLong file))) comes = inl (inr (inl (seen.long file.now comes)))
  verdict_of (Err (free_refusal.Job (job_refusal.Class file r))) comes = inl (inr (inl (seen.refused file.now r comes)))
  verdict_of (Err (free_refusal.Job (job_refusal.Link fail))) comes =
      let found = Some-from_some_and (refusal_of fail) (AreNotLinked (given_of job) old new) comes.refused in
      let refused = found.2 in
      inl (given_known refused.source refused.reads LINK (inl (not_empty (refusals refused.classes (main_name job)) found.0 refused.first, refl)))
  verdict_of (Err (free_refusal.Job (job_refusal.Check name))) comes =
      inl (given_known comes.linked.source comes.reads CHECK (inr (comes.linked.linked, inl (not_typed (given_program (given_of job) comes.classes) name comes.untyped, refl))))
  verdict_of (Err (free_refusal.Job (job_refusal.Write name))) comes = inr (inr (inl refl))

  -- files of this verdict have its status, unless there was a fault or memory was lacking
  status_of : CausesAgree → (status : ℕ) (o : Outcome) → JobVerdict held job status → ComesTo job old new o → Contains (status ∷ instead_for_file) (outcome_status o)
  status_of alike status o verdict comes = go (verdict_of o comes) where
    once : EndsOnce (Behind job.made (Links (Rewrites job) (main_name job)))
    once = behind_once job.made (Links (Rewrites job) (main_name job)) (links_once (Rewrites job) (main_name job) (rewrites_once alike job))

    go : Comes (outcome_status o) → Contains (status ∷ instead_for_file) (outcome_status o)
    go (inl own) =
        (0, omega arith, one_verdict (Behind job.made (Links (Rewrites job) (main_name job))) once held job.files status (outcome_status o) verdict own)
    go (inr (inl e)) = (1, omega arith, sym e)
    go (inr (inr (inl e))) = (2, omega arith, sym e)
    go (inr (inr (inr e))) = (3, omega arith, sym e)

-- the verdict of each cause, over contents that are known
module _ (job : FreemeJob) (disk : Disk) (held : Bytes → Option Bytes) (known : disk.contents ≡ Some held) where
  long_verdict : IsKnownLong disk (given_of job) → JobVerdict held job LIMIT
  long_verdict cause =
      let P : Contents → Type 0 = λ c. IsKnownSuch c cause.file (IsTooLong (total_bytes cause.before)) in
      inr (inl (long_stops job.files disk.contents held known cause.file cause.before cause.reaches (subst P known cause.long)))

  bytes_verdict : (status : ℕ) → IsKnownRefused status disk (given_of job) → JobVerdict held job status
  bytes_verdict status cause =
      let P : Contents → Type 0 = λ c. IsKnownSuch c cause.file (IsRefused cause.refusal (total_bytes cause.before)) in
      inr (inl (bytes_stop job.files disk.contents held known status cause.file cause.before cause.refusal cause.status_is cause.reaches (subst P known cause.refused)))

  unlinked_verdict : IsKnownUnlinked disk (given_of job) → JobVerdict held job LINK
  unlinked_verdict cause =
      inr (inr (given_passes (Links (Rewrites job) (main_name job)) held known cause.source LINK (inl (cause.refused, refl))))

  untyped_verdict : IsKnownUntyped disk (given_of job) → JobVerdict held job CHECK
  untyped_verdict cause =
      inr (inr (given_passes (Links (Rewrites job) (main_name job)) held known cause.linked.source CHECK
      (inr (cause.linked.linked, inl (cause.untyped, refl)))))

  rewriting_verdict : (status : ℕ) → IsKnownAs status disk job → JobVerdict held job status
  rewriting_verdict status cause =
      inr (inr (given_passes (Links (Rewrites job) (main_name job)) held known cause.checked.linked.source status
      (inr (cause.checked.linked.linked, inr (cause.checked.typed, cause.becomes)))))

  known_verdict : (status : ℕ) → IsKnownStatus status disk job → JobVerdict held job status
  known_verdict status (inl (inl (is, cause))) = let P : ℕ → Type 0 = λ s. JobVerdict held job s in subst P (sym is) (long_verdict cause)
  known_verdict status (inl (inr (inl cause))) = bytes_verdict status cause
  known_verdict status (inl (inr (inr (inl (is, cause))))) = let P : ℕ → Type 0 = λ s. JobVerdict held job s in subst P (sym is) (unlinked_verdict cause)
  known_verdict status (inl (inr (inr (inr (is, cause))))) = let P : ℕ → Type 0 = λ s. JobVerdict held job s in subst P (sym is) (untyped_verdict cause)
  known_verdict status (inr cause) = rewriting_verdict status cause

-- ---- the cause of each status

-- too many files have one status, and memory may be lacking
many_status : (job : FreemeJob) (old new : Disk) → HasTooMany (given_of job) → (o : Outcome) → ComesTo job old new o → Contains (LIMIT ∷ instead_for_words) (outcome_status o)
many_status job old new many (Ok lines) comes = absurd (let few = comes.freed.checked.linked.source.taken.few in omega arith)
many_status job old new many (Err (free_refusal.Rewrite cause name)) comes = absurd (let few = comes.checked.linked.source.taken.few in omega arith)
many_status job old new many (Err (free_refusal.NotSafe name part)) comes = absurd comes
many_status job old new many (Err (free_refusal.Job (job_refusal.Shared refusal.Words))) comes = absurd comes
many_status job old new many (Err (free_refusal.Job (job_refusal.TooManyArguments count))) comes = absurd comes
many_status job old new many (Err (free_refusal.Job (job_refusal.Shared (refusal.Read file)))) comes = absurd (let few = comes.reaches.few in omega arith)
many_status job old new many (Err (free_refusal.Job (job_refusal.Shared refusal.OutOfMemory))) comes = (2, omega arith, refl)
many_status job old new many (Err (free_refusal.Job (job_refusal.TooManyFiles count))) comes = (0, omega arith, refl)
many_status job old new many (Err (free_refusal.Job (job_refusal.TooLong file))) comes = (0, omega arith, refl)
many_status job old new many (Err (free_refusal.Job (job_refusal.Class file r))) comes = absurd (let few = comes.reaches.few in omega arith)
many_status job old new many (Err (free_refusal.Job (job_refusal.Link fail))) comes =
    absurd (let found = Some-from_some_and (refusal_of fail) (AreNotLinked (given_of job) old new) comes.refused in let few = found.2.source.taken.few in omega arith)
many_status job old new many (Err (free_refusal.Job (job_refusal.Check name))) comes = absurd (let few = comes.linked.source.taken.few in omega arith)
many_status job old new many (Err (free_refusal.Job (job_refusal.Write name))) comes = (1, omega arith, refl)

-- a job isn't refused for its words
not_for_words : (job : FreemeJob) (old new : Disk) (o : Outcome) → ComesTo job old new o → outcome_status o ≢ WORDS
not_for_words job old new (Err (free_refusal.Job (job_refusal.Shared refusal.Words))) comes is = comes
not_for_words job old new (Err (free_refusal.Job (job_refusal.Class file r))) comes is = let c = class_status r in let low = c.low in omega arith
not_for_words job old new (Err (free_refusal.Rewrite cause name)) comes is = let r = rewrite_bounds cause in let low = r.0 in omega arith
not_for_words job old new o comes is = omega arith

-- the statuses at which nothing failed
abbrev pub faultless_statuses : List ℕ
faultless_statuses = DONE ∷ WORDS ∷ MALFORMED ∷ VERSION ∷ LIMIT ∷ UNSUPPORTED ∷ LINK ∷ CHECK ∷ CALLS_FREE ∷ POOL_FULL ∷ METHOD_TOO_LONG ∷ NOT_SAFE ∷ []

module _ (words : List Bytes) (old new : Disk) (o : Outcome) (comes : ComesOf words old new o) (alike : CausesAgree) where
  -- the job that was asked for comes out so, or memory was lacking before
  of_job : (job : FreemeJob) → Asks words job → ComesTo job old new o ⊎ (outcome_status o ≡ OUT_OF_MEMORY)
  of_job job asked = go comes where
    go : ComesOf words old new o → ComesTo job old new o ⊎ (outcome_status o ≡ OUT_OF_MEMORY)
    go (inl j) = let P : FreemeJob → Type 0 = λ k. ComesTo k old new o in inl (subst P (asks_one words j.job job j.asked asked) j.comes)
    go (inr (inl nothing)) = absurd (nothing.unasked.no_job job asked)
    go (inr (inr lacking)) = inr (ap outcome_status lacking.refused)

  -- a verdict of its files decides the status, unless there was a fault or memory was lacking
  decided : (status : ℕ) (job : FreemeJob) (held : Bytes → Option Bytes) → IsSeen (given_of job) held old new → Asks words job → JobVerdict held job status
      → Contains (status ∷ instead_for_file) (outcome_status o)
  decided status job held seen asked verdict = ⊎_elim
      (λ (job_comes : ComesTo job old new o). status_of job old new held seen alike status o verdict job_comes)
      (λ (lacking : outcome_status o ≡ OUT_OF_MEMORY). (3, omega arith, sym lacking))
      (of_job job asked)

  missing_decides : AskForGiven words (IsMissing old) → Contains instead_for_file (outcome_status o)
  missing_decides (job, (asked, cause)) =
      let found = Some-from_some_and old.contents (λ held. held cause.file ≡ None) cause.missing in
      let decides : Contains (READ ∷ instead_for_file) (outcome_status o) =
      decided READ job found.0 (known_seen (given_of job) found.0 old new found.1) asked
      (inr (inl (missing_stops job.files old.contents found.0 found.1 cause.file cause.before cause.reaches found.2))) in
      ⊎_elim (λ (same : outcome_status o ≡ READ). (0, omega arith, sym same)) (λ (one : Contains instead_for_file (outcome_status o)). one) (Contains-cons_cases READ instead_for_file (outcome_status o) decides)

  -- where contents are known
  known_decides : (status : ℕ) (job : FreemeJob) → Asks words job → IsSome old.contents
      → ((held : Bytes → Option Bytes) → old.contents ≡ Some held → JobVerdict held job status) → Contains (status ∷ instead_for_file) (outcome_status o)
  known_decides status job asked known verdict =
      let found = Some-from_is_some old.contents known in
      decided status job found.0 (known_seen (given_of job) found.0 old new found.1) asked (verdict found.0 found.1)

  -- contents of which something is known are known
  some_known : (P : (Bytes → Option Bytes) → Type 0) → IsSomeAnd old.contents P → IsSome old.contents
  some_known P such = let found = Some-from_some_and old.contents P such in let Q : Contents → Type 0 = λ c. IsSome c in subst Q (sym found.1) refl

  long_decides : AskForGiven words (IsKnownLong old) → Contains (LIMIT ∷ instead_for_file) (outcome_status o)
  long_decides (job, (asked, cause)) =
      known_decides LIMIT job asked (some_known (λ held. IsSomeAnd (held cause.file) (IsTooLong (total_bytes cause.before))) cause.long)
      (λ held known. long_verdict job old held known cause)

  bytes_decide : (status : ℕ) → AskForGiven words (IsKnownRefused status old) → Contains (status ∷ instead_for_file) (outcome_status o)
  bytes_decide status (job, (asked, cause)) =
      known_decides status job asked (some_known (λ held. IsSomeAnd (held cause.file) (IsRefused cause.refusal (total_bytes cause.before))) cause.refused)
      (λ held known. bytes_verdict job old held known status cause)

  untyped_decides : AskForGiven words (IsKnownUntyped old) → Contains (CHECK ∷ instead_for_file) (outcome_status o)
  untyped_decides (job, (asked, cause)) = known_decides CHECK job asked cause.known (λ held known. untyped_verdict job old held known cause)

  unlinked_decides : AskForGiven words (IsKnownUnlinked old) → Contains (LINK ∷ instead_for_file) (outcome_status o)
  unlinked_decides (job, (asked, cause)) = known_decides LINK job asked cause.known (λ held known. unlinked_verdict job old held known cause)

  rewriting_decides : (status : ℕ) → AskFor words (IsKnownAs status old) → Contains (status ∷ instead_for_file) (outcome_status o)
  rewriting_decides status (job, (asked, cause)) =
      known_decides status job asked cause.known (λ held known. rewriting_verdict job old held known status cause)

  -- what the reads returned decides as known contents do
  returned_decides : (held : Bytes → Option Bytes) (status : ℕ) → ReadsFrom held old new → AskFor words (IsKnownStatus status (with_contents held old))
      → Contains (status ∷ instead_for_file) (outcome_status o)
  returned_decides held status reads (job, (asked, cause)) =
      decided status job held (returned_seen held old new reads (given_of job)) asked (known_verdict job (with_contents held old) held refl status cause)

  many_decide : AskForGiven words HasTooMany → Contains (LIMIT ∷ instead_for_words) (outcome_status o)
  many_decide (job, (asked, many)) = ⊎_elim
      (λ (job_comes : ComesTo job old new o). many_status job old new many o job_comes)
      (λ (lacking : outcome_status o ≡ OUT_OF_MEMORY). (2, omega arith, sym lacking))
      (of_job job asked)

  fault_decides : FailsARead old new → Contains instead_for_file (outcome_status o)
  fault_decides (name, rose) = go (fails_so words old new o comes) where
    go : FailsSo old new (outcome_status o) → Contains instead_for_file (outcome_status o)
    go (inl none) = absurd (let same = none.reads name in omega arith)
    go (inr (inl read)) = (0, omega arith, sym read.0)
    go (inr (inr write)) = (1, omega arith, sym write.0)

  write_decides : FailsAWrite old new → Contains instead_for_words (outcome_status o)
  write_decides (name, rose) = go (fails_so words old new o comes) where
    go : FailsSo old new (outcome_status o) → Contains instead_for_words (outcome_status o)
    go (inl none) = absurd (let same = none.writes name in omega arith)
    go (inr (inl read)) = absurd (let same = read.1 name in omega arith)
    go (inr (inr write)) = (0, omega arith, sym write.0)

-- a status that isn't that of a read
pub without_read : (status result : ℕ) → result ≢ READ → Contains (status ∷ instead_for_file) result → Contains (status ∷ WRITE ∷ OUT_OF_MEMORY ∷ []) result
without_read status result unread among = by (Contains-cons_cases status instead_for_file result among) where
  by : (result ≡ status) ⊎ Contains instead_for_file result → Contains (status ∷ WRITE ∷ OUT_OF_MEMORY ∷ []) result
  by (inl is) = (0, omega arith, sym is)
  by (inr rest) = ⊎_elim
      (λ (is : result ≡ READ). absurd (unread is))
      (λ (last : Contains (WRITE ∷ OUT_OF_MEMORY ∷ []) result). Contains-append_right (status ∷ []) (WRITE ∷ OUT_OF_MEMORY ∷ []) result last)
      (Contains-cons_cases READ (WRITE ∷ OUT_OF_MEMORY ∷ []) result rest)

-- ---- the clauses

pub is_for_text : (call : ProgramCall) → AskForNoText call.words → IsForText call
is_for_text call none asked asks = absurd (none asked asks)

module _ (call : ProgramCall) (o : Outcome) (comes : ComesOf call.words call.old call.new o) (reports : Reports o call) (alike : CausesAgree) where
  -- the sink of the lines, before and after
  abbrev from : Output
  from = own_before call o

  abbrev to : Output
  to = own_after call o

  own : Tells (outcome_line o) (outcome_status o) from to call.status
  own = own_reports call o reports

  put_so : to ≡ with_piece (outcome_line o) from → IsLinePut o call
  put_so = line_put call o reports

  -- what the line of a job says, at a status that isn't for words
  of_job_alone : {Said : Type 0} (status : ℕ) → status ≢ WORDS → status ≢ OUT_OF_MEMORY → (ComesOfJob call.words call.old call.new o → outcome_status o ≡ status → IsLinePut o call → Said)
      → outcome_status o ≡ status → to ≡ with_piece (outcome_line o) from → Said
  of_job_alone status unlike_words memory said is put = said (job_of_status call.words call.old call.new o status comes is unlike_words memory) is (put_so put)

  -- a status of the job's files comes exactly with what it says
  of_files : {Said Cause : Type 0} (status : ℕ) → status ≢ WORDS → status ≢ WRITE → status ≢ OUT_OF_MEMORY → (ComesOfJob call.words call.old call.new o → outcome_status o ≡ status → IsLinePut o call → Said)
      → (Cause → Contains (status ∷ instead_for_file) (outcome_status o)) → ComesExactly status instead_for_file call.status Said Cause
  of_files status unlike_words write memory said decides =
      comes_of_file (outcome_line o) (outcome_status o) from to call.status own status write memory (of_job_alone status unlike_words memory said) decides

  pub is_for_words : AskForNoText call.words → IsForWords call
  is_for_words no_text = comes_of_words (outcome_line o) (outcome_status o) from to call.status own WORDS (λ e. omega arith) (λ e. omega arith) (λ is put. words_said comes is (put_so put)) (λ unasked. nothing_decides unasked comes) where
    words_said : ComesOf call.words call.old call.new o → outcome_status o ≡ WORDS → IsLinePut o call → AskNothing call.words × SaysWords call
    words_said (inl j) is line = absurd (not_for_words j.job call.old call.new o j.comes is)
    words_said (inr (inl nothing)) is line = (
      record { no_text = no_text; no_job = nothing.unasked.no_job; no_audit = nothing.unasked.no_audit },
      record { kept = nothing.kept; refused = let P : Outcome → Type 0 = λ x. IsLinePut x call in subst P nothing.refused line },
    )
    words_said (inr (inr lacking)) is line = absurd (let other = sym is ∙ ap outcome_status lacking.refused in omega arith)

    nothing_decides : AskNothing call.words → ComesOf call.words call.old call.new o → Contains (WORDS ∷ instead_for_words) (outcome_status o)
    nothing_decides unasked (inl j) = absurd (unasked.no_job j.job j.asked)
    nothing_decides unasked (inr (inl nothing)) = (0, omega arith, sym (ap outcome_status nothing.refused))
    nothing_decides unasked (inr (inr lacking)) = (2, omega arith, sym (ap outcome_status lacking.refused))

  pub is_for_read : IsForRead call
  is_for_read = comes_of_words (outcome_line o) (outcome_status o) from to call.status own READ (λ e. omega arith) (λ e. omega arith)
      (of_job_alone READ (λ e. omega arith) (λ e. omega arith) (read_said call o))
      (λ cause. ⊎_elim (λ (fault : FailsARead call.old call.new). fault_decides call.words call.old call.new o comes alike fault) (λ (missing : AskForGiven call.words (IsMissing call.old)). missing_decides call.words call.old call.new o comes alike missing) cause)

  pub is_for_bytes : (status : ℕ) → 66 ≤ status → status ≤ 69 → status ≢ LIMIT → IsForBytes status call
  is_for_bytes status low high other =
      of_files status (λ e. omega arith) (λ e. omega arith) (λ e. omega arith) (bytes_said call status low high other o) (bytes_decide call.words call.old call.new o comes alike status)

  pub is_for_limit : IsForLimit call
  is_for_limit = record {
    only = λ is.
        let put = is_put (outcome_line o) (outcome_status o) from to call.status own LIMIT (λ e. omega arith) (λ e. omega arith) is in
        of_job_alone LIMIT (λ e. omega arith) (λ e. omega arith) (limit_said call o) put.0 put.1;
    many = λ cause. told_of_words (outcome_line o) (outcome_status o) from to call.status own LIMIT (many_decide call.words call.old call.new o comes alike cause);
    long = λ cause. told_of_file (outcome_line o) (outcome_status o) from to call.status own LIMIT (long_decides call.words call.old call.new o comes alike cause);
    bytes = λ cause. told_of_file (outcome_line o) (outcome_status o) from to call.status own LIMIT (bytes_decide call.words call.old call.new o comes alike LIMIT cause);
  }

  pub is_for_link : IsForLink call
  is_for_link = of_files LINK (λ e. omega arith) (λ e. omega arith) (λ e. omega arith) (link_said call o) (unlinked_decides call.words call.old call.new o comes alike)

  pub is_for_check : IsForCheck call
  is_for_check = of_files CHECK (λ e. omega arith) (λ e. omega arith) (λ e. omega arith) (check_said call o) (untyped_decides call.words call.old call.new o comes alike)

  pub is_for_rewrite : (status : ℕ) → 72 ≤ status → status ≤ 74 → IsForRewrite status call
  is_for_rewrite status low high =
      of_files status (λ e. omega arith) (λ e. omega arith) (λ e. omega arith) (not_freed_said call status low high o) (rewriting_decides call.words call.old call.new o comes alike status)

  pub is_for_done : IsForDone call
  is_for_done =
      of_files DONE (λ e. omega arith) (λ e. omega arith) (λ e. omega arith) (λ j is line. inl (done_said call o j is line)) (rewriting_decides call.words call.old call.new o comes alike DONE)

  pub is_for_returned : IsForReturned call
  is_for_returned held status reads asks =
      without_read status call.status unread (told_of_file (outcome_line o) (outcome_status o) from to call.status own status (returned_decides call.words call.old call.new o comes alike held status reads asks)) where
        unread : call.status ≢ READ
        unread is = let said = is_for_read.only is in not_unread held call.old call.new reads said.0.files said.1.1.file said.1.1.unread

  pub is_for_write : IsForWrite call
  is_for_write = record {
    only = only own;
    put = put_failed call o reports;
    write = λ cause. told_among (outcome_line o) (outcome_status o) from to call.status own instead_for_words (write_decides call.words call.old call.new o comes alike cause) (0, omega arith, refl) (1, omega arith, refl);
  } where
    only : Tells (outcome_line o) (outcome_status o) from to call.status → call.status ≡ WRITE → SaysWrite call
    only (inl put) is =
        let same : outcome_status o ≡ WRITE = sym put.0 ∙ is in
        inr (inl (unwritten_said call o (job_of_status call.words call.old call.new o WRITE comes same (λ e. omega arith) (λ e. omega arith)) same (put_so put.1)))
    only (inr (inl failed)) is = inl (record { outcome = o; comes = comes; fails = is_unreported call o reports failed.1 })
    only (inr (inr lacking)) is = absurd (let e = lacking.0 in omega arith)

  pub is_for_memory : IsForMemory call
  is_for_memory is = go own where
    own_line : ComesOf call.words call.old call.new o → outcome_status o ≡ OUT_OF_MEMORY → IsUntouched call.old call.new ⊎ AskFor call.words (λ job. IsBroken job call.old call.new)
    own_line (inl j) same = stopped call o j same
    own_line (inr (inl nothing)) same = absurd (let other = sym same ∙ ap outcome_status nothing.refused in omega arith)
    own_line (inr (inr lacking)) same = inl (record { faultless = no_fault_where_same call.old call.new lacking.kept; kept = ap (λ (d : Disk). d.contents) lacking.kept; unwritten = ap (λ (d : Disk). d.writes) lacking.kept })

    go : Tells (outcome_line o) (outcome_status o) from to call.status → SaysMemory call ⊎ (LacksLine call ⊎ AskOnlyForText call.words)
    go (inl put) =
        let same : outcome_status o ≡ OUT_OF_MEMORY = sym put.0 ∙ is in
        inl (record { stopped = own_line comes same; refused = memory_said call o same (put_so put.1) })
    go (inr (inl failed)) = absurd (let e = failed.0 in omega arith)
    go (inr (inr lacking)) =
        let kept = both_kept call o reports lacking.1 in inr (inl (record { outcome = o; comes = comes; silent = kept.0; unreported = kept.1 }))

  -- where the line is put no put failed
  own_line_put : (status : ℕ) → status ≢ WRITE → status ≢ OUT_OF_MEMORY → call.status ≡ status → (outcome_status o ≡ status) × ((call.after.faults ≡ call.before.faults) × (call.reported.faults ≡ call.report.faults))
  own_line_put status write memory is =
      let put = is_put (outcome_line o) (outcome_status o) from to call.status own status write memory is in (put.0, line_faultless call o (put_so put.1))

  pub is_faultless : IsFaultless call
  is_faultless among_these =
      let unlike : (s : ℕ) → list_any (λ y. eqb y s) faultless_statuses ≡ false → call.status ≢ s = λ s none. unlike_elements s faultless_statuses none call.status among_these in
      let line = own_line_put call.status (unlike WRITE refl) (unlike OUT_OF_MEMORY refl) refl in (
        ⊎_elim (λ (none : HasNoFileFault call.old call.new). none)
            (λ (rest : _). ⊎_elim (λ (p : _). absurd (unlike READ refl (sym line.0 ∙ p.0))) (λ (p : _). absurd (unlike WRITE refl (sym line.0 ∙ p.0))) rest)
            (fails_so call.words call.old call.new o comes),
        line.1.0,
        line.1.1,
      )

  pub keeps_contents : KeepsContents call
  keeps_contents among_these =
      let unlike : (s : ℕ) → list_any (λ y. eqb y s) before_writes ≡ false → call.status ≢ s = λ s none. unlike_elements s before_writes none call.status among_these in
      let line = own_line_put call.status (unlike WRITE refl) (unlike OUT_OF_MEMORY refl) refl in
      keeps call.words call.old call.new o comes (λ e. unlike DONE refl (sym line.0 ∙ e)) (λ e. unlike WRITE refl (sym line.0 ∙ e)) (λ e. unlike OUT_OF_MEMORY refl (sym line.0 ∙ e))

  pub is_silent : IsSilent call
  is_silent among_these =
      let unlike : (s : ℕ) → list_any (λ y. eqb y s) before_writes ≡ false → call.status ≢ s = λ s none. unlike_elements s before_writes none call.status among_these in
      reported_silent call o reports (unlike DONE refl) (unlike WRITE refl) (unlike OUT_OF_MEMORY refl)

  pub changes_only : ((audit : Audit) → AskToAudit call.words audit → OnlyReads audit call.old call.new) → ChangesOnly call
  changes_only audited = record {
    asked = λ job asked. stays job asked comes;
    audited = audited;
    unasked = λ none. unchanged none comes;
  } where
    stays : (job : FreemeJob) → Asks call.words job → ComesOf call.words call.old call.new o → StaysWithin job call.old call.new
    stays job asked (inl j) = let P : FreemeJob → Type 0 = λ k. StaysWithin k call.old call.new in subst P (asks_one call.words j.job job j.asked asked) j.within
    stays job asked (inr (inl nothing)) = absurd (nothing.unasked.no_job job asked)
    stays job asked (inr (inr lacking)) = let P : Disk → Type 0 = λ d. StaysWithin job call.old d in subst P (sym lacking.kept) (reads_within job call.old call.old (reads_none job.files call.old))

    unchanged : AskForNoRequest call.words → ComesOf call.words call.old call.new o → call.new ≡ call.old
    unchanged none (inl j) = absurd (none.no_job j.job j.asked)
    unchanged none (inr (inl nothing)) = nothing.kept
    unchanged none (inr (inr lacking)) = lacking.kept
