-- What each status says and when it comes, by what a call does as a whole.
use Rattle.std.proofs.Common.{◌≡◌, ◌≢◌, ◌<◌, ◌≤◌, ◌⊎◌, ℕ, inl, inr, ⊎_elim, List, [], ◌∷◌, Contains, Option, Some, None, IsSomeAnd, Ok, Err, length, string_bytes, refl, sym, ap, ◌∙◌, subst, arith}
use Rattle.std.proofs.lemmas.List.Elements.{Contains-append_right}
use Rattle.fm_base.proofs.ContainsFacts.{Contains-cons_cases, unlike_elements}
use Rattle.fm_base.proofs.OptionFacts.{Some-from_is_some, Some-from_some_and}
use Rattle.fm_base.specs.declared.limits.TheConstants.{MAX_ARGUMENTS, MAX_CLASS_FILES, MAX_FILE_BYTES}
use Rattle.fm_files.specs.Files.{Bytes, Disk}
use Rattle.fm_files.specs.Sink.{Output, with_piece}
use Rattle.fm_load.proofs.GivenLemmas.{Behind}
use Rattle.fm_load.proofs.KnownLemmas.{bytes_stop, long_stops, missing_stops}
use Rattle.fm_load.proofs.RefusalLemmas.{class_status}
use Rattle.fm_load.proofs.VerdictLemmas.{Links}
use Rattle.fm_load.specs.Causes.{FailsARead, HasTooMany, IsMissing, IsKnownLong, IsKnownRefused, IsKnownUnlinked, IsKnownUntyped}
use Rattle.fm_load.specs.Given.{AreMany, AreNotLinked, IsLong, IsNotLinked, IsUnread}
use Rattle.fm_load.specs.ProgramCalls.{ProgramCall, SaysCheck, SaysLink, SaysLong, SaysRefused, SaysWords}
use Rattle.fm_load.specs.LinkRefusal.{cause_line}
use Rattle.fm_load.specs.Refusal.{many_arguments_line, many_line, refusal_status}
use Rattle.fm_load.specs.Taking.{total_bytes, IsTooLong, IsRefused}
use Rattle.fm_load.specs.declared.refusal.JobRefusal.{JobRefusal}
use Rattle.fm_load.specs.declared.refusal.JobRefusal.TheVariants as job_refusal
use Rattle.fm_link_refusals.specs.Refused.{refusal_of}
use Rattle.fm_cli_requests.proofs.FmrunRequestLemmas.{asks_one}
use Rattle.fm_cli_requests.specs.FmrunRequest.{FmrunJob, Asks, AskNothing}
use Rattle.fm_cli_requests.specs.ProgramText.{AskForNoText}
use Rattle.fm_cli.proofs.LineLemmas.{instead_for_file, instead_for_words}
use Rattle.fm_cli.specs.Encoding.{modified}
use Rattle.fm_cli.specs.Status.{ComesExactly}
use Rattle.fm_cli.specs.declared.command_refusal.CommandRefusal.TheVariants as refusal
use Rattle.fm_cli.specs.declared.status.TheConstants.{DONE, WORDS, READ, LIMIT, LINK, CHECK, WRITE, OUT_OF_MEMORY}
use Rattle.fm_world.specs.Causes.{Refusal}
use Rattle.fmrun.proofs.EndStatuses.{among_refusals, job_of_reported, kind_of, not_for_words, own_among, refusal_among, run_apart}
use Rattle.fmrun.proofs.ReportedLemmas.{FailsSo, IsLinePut, fails_so, is_among, is_line_put, reported_of_file, reported_of_words}
use Rattle.fmrun.proofs.Verdicts.{JobVerdict, Runs, input_long, input_missing, one_end, passes, passes_input, ready_passes, status_of}
use Rattle.fmrun.specs.Causes.{AskFor, AskForGiven, AskToRead, AskWithInput, HasLongInput, HasManyArguments, IsForBytes, IsForCheck, IsForLimit, IsForLink, IsForRead, IsForRun, IsForWords, IsKnownReady, IsKnownRun, LacksInput, MissesFile, SaysInputLong, SaysLimit, SaysRun, SaysUnread, refusal_statuses}
use Rattle.fmrun.specs.Jobs.{given_of, job_arguments}
use Rattle.fmrun.specs.TopCall.{AreManyArguments, ComesOf, ComesOfJob, ComesTo, HasInput, HasRun, IsInputLong, IsInputUnread, IsReported, Outcome, outcome_status}
use Rattle.fmrun.specs.declared.outcome.JobFail.TheVariants as fail

-- ---- what a status says

module _ (call : ProgramCall) where
  -- a job that comes out so
  abbrev OfJob : Outcome → Type 0
  OfJob o = ComesOfJob call.words call.old call.new call.before call.after o

  -- 65
  read_said : (o : Outcome) → OfJob o → outcome_status o ≡ READ → IsLinePut o call.report call.reported → AskFor call.words (SaysUnread call)
  read_said (Ok reported) j is line = absurd (run_apart j.comes READ (omega arith) (omega arith) is)
  read_said (Err (fail.Refused (job_refusal.Shared (refusal.Read file)))) j is line = (j.job, (j.asked, by j.comes.0.1)) where
    by : IsUnread j.job.files file.now call.old call.new ⊎ IsInputUnread j.job file.now call.old call.new → SaysUnread call j.job
    by (inl unread) = inl (record { file = file.now; unread = unread; refused = record { silent = j.comes.1; reported = line } })
    by (inr unread) = inr (record { file = file.now; unread = unread; refused = record { silent = j.comes.1; reported = line } })
  read_said (Err (fail.Refused (job_refusal.Class file r))) j is line = absurd (let c = class_status r in let low = c.low in let high = c.high in omega arith)
  read_said o j is line = absurd (omega arith)

  -- 70
  cause_said : (job : FmrunJob) (cause : Option Refusal) → Asks call.words job → HasInput job call.old.contents → IsNotLinked (given_of job) cause call.old call.new → call.after ≡ call.before → call.reported ≡ with_piece (cause_line cause) call.report
      → AskWithInput call (λ job. SaysLink call (given_of job))
  cause_said job None asked input unlinked silent line = absurd unlinked.refused
  cause_said job (Some cause) asked input unlinked silent line =
      (job, (asked, (input, record { cause = cause; unlinked = unlinked; refused = record { silent = silent; reported = line } })))

  link_said : (o : Outcome) → OfJob o → outcome_status o ≡ LINK → IsLinePut o call.report call.reported → AskWithInput call (λ job. SaysLink call (given_of job))
  link_said (Ok reported) j is line = absurd (run_apart j.comes LINK (omega arith) (omega arith) is)
  link_said (Err (fail.Refused (job_refusal.Link link))) j is line = cause_said j.job (refusal_of link) j.asked j.comes.0.1.0 j.comes.0.1.1 j.comes.1 line
  link_said (Err (fail.Refused (job_refusal.Class file r))) j is line = absurd (let c = class_status r in let low = c.low in let high = c.high in omega arith)
  link_said (Err (fail.Refused (job_refusal.Shared refusal.Words))) j is line = absurd (omega arith)
  link_said o j is line = absurd (omega arith)

  -- 71
  check_said : (o : Outcome) → OfJob o → outcome_status o ≡ CHECK → IsLinePut o call.report call.reported → AskWithInput call (λ job. SaysCheck call (given_of job))
  check_said (Ok reported) j is line = absurd (run_apart j.comes CHECK (omega arith) (omega arith) is)
  check_said (Err (fail.Refused (job_refusal.Check name))) j is line =
      (j.job, (j.asked, (j.comes.0.1.0, record { name = name; untyped = j.comes.0.1.1; refused = record { silent = j.comes.1; reported = line } })))
  check_said (Err (fail.Refused (job_refusal.Class file r))) j is line = absurd (let c = class_status r in let low = c.low in let high = c.high in omega arith)
  check_said (Err (fail.Refused (job_refusal.Shared refusal.Words))) j is line = absurd (omega arith)
  check_said o j is line = absurd (omega arith)

  -- 66, 67 and 69
  bytes_said : (status : ℕ) → 66 ≤ status → status ≤ 69 → status ≢ LIMIT → (o : Outcome) → OfJob o → outcome_status o ≡ status → IsLinePut o call.report call.reported → AskForGiven call.words (SaysRefused status call)
  bytes_said status low high other (Ok reported) j is line = absurd (run_apart j.comes status (omega arith) (omega arith) is)
  bytes_said status low high other (Err (fail.Refused (job_refusal.TooManyFiles count))) j is line = absurd (other (sym is))
  bytes_said status low high other (Err (fail.Refused (job_refusal.TooManyArguments count))) j is line = absurd (other (sym is))
  bytes_said status low high other (Err (fail.Refused (job_refusal.TooLong file))) j is line = absurd (other (sym is))
  bytes_said status low high other (Err (fail.Refused (job_refusal.Class file r))) j is line = (
    j.job,
    (
      j.asked,
      record {
        file = file.now;
        refusal = r;
        status_is = is;
        unaccepted = j.comes.0.1;
        refused = record { silent = j.comes.1; reported = line };
      },
    ),
  )
  bytes_said status low high other (Err (fail.Refused (job_refusal.Shared refusal.Words))) j is line = absurd (omega arith)
  bytes_said status low high other o j is line = absurd (omega arith)

  -- 68
  limit_said : (o : Outcome) → OfJob o → outcome_status o ≡ LIMIT → IsLinePut o call.report call.reported → AskFor call.words (SaysLimit call)
  limit_said (Ok reported) j is line = absurd (run_apart j.comes LIMIT (omega arith) (omega arith) is)
  limit_said (Err (fail.Refused (job_refusal.TooManyFiles count))) j is line =
      let Many : ℕ → Type 0 = λ n. AreMany j.job.files n call.old call.new × (call.reported ≡ with_piece (many_line n) call.report) in
      let own = subst Many j.comes.0.count_is (j.comes.0, line) in
      (j.job, (j.asked, inl (record { many = own.0; refused = record { silent = j.comes.1; reported = own.1 } })))
  limit_said (Err (fail.Refused (job_refusal.TooManyArguments count))) j is line =
      let Many : ℕ → Type 0 = λ n. AreManyArguments j.job n call.old call.new × (call.reported ≡ with_piece (many_arguments_line n) call.report) in
      let own = subst Many j.comes.0.count_is (j.comes.0, line) in
      (j.job, (j.asked, inr (inl (record { many = own.0; refused = record { silent = j.comes.1; reported = own.1 } }))))
  limit_said (Err (fail.Refused (job_refusal.TooLong file))) j is line = (j.job, (j.asked, inr (inr (by j.comes.0.1)))) where
    by : IsLong j.job.files file.now call.old call.new ⊎ IsInputLong j.job file.now call.old call.new
        → SaysLong call (given_of j.job) ⊎ (SaysInputLong call j.job ⊎ SaysRefused LIMIT call (given_of j.job))
    by (inl long) = inl (record { file = file.now; long = long; refused = record { silent = j.comes.1; reported = line } })
    by (inr long) = inr (inl (record { file = file.now; long = long; refused = record { silent = j.comes.1; reported = line } }))
  limit_said (Err (fail.Refused (job_refusal.Class file r))) j is line = (
    j.job,
    (
      j.asked,
      inr (inr (inr (inr (record {
        file = file.now;
        refusal = r;
        status_is = is;
        unaccepted = j.comes.0.1;
        refused = record { silent = j.comes.1; reported = line };
      })))),
    ),
  )
  limit_said (Err (fail.Refused (job_refusal.Shared refusal.Words))) j is line = absurd (omega arith)
  limit_said o j is line = absurd (omega arith)

-- ---- the cause of each status

-- too many files or arguments have one status, and memory may be lacking
many_status : (job : FmrunJob) (old new : Disk) (before after : Output) → HasTooMany (given_of job) ⊎ HasManyArguments job → (o : Outcome) → ComesTo job old new before after o → Contains (LIMIT ∷ instead_for_words) (outcome_status o)
many_status job old new before after many o comes = go many o comes where
  both : {X : Type 0} → HasTooMany (given_of job) ⊎ HasManyArguments job → length (job_arguments job) ≤ MAX_ARGUMENTS → length job.files ≤ MAX_CLASS_FILES → X
  both (inl files) few_arguments few = absurd (omega arith)
  both (inr arguments) few_arguments few = absurd (let many = arguments.1 in omega arith)

  go : HasTooMany (given_of job) ⊎ HasManyArguments job → (o : Outcome) → ComesTo job old new before after o → Contains (LIMIT ∷ instead_for_words) (outcome_status o)
  go m (Ok reported) c = both m c.ready.few c.ready.checked.linked.source.taken.few
  go m (Err fail.Output) c = both m c.ready.few c.ready.checked.linked.source.taken.few
  go m (Err (fail.Refused (job_refusal.Shared refusal.Words))) c = absurd c.0.1
  go m (Err (fail.Refused (job_refusal.Shared (refusal.Read file)))) ((few, inl unread), same) = both m few unread.reaches.few
  go m (Err (fail.Refused (job_refusal.Shared (refusal.Read file)))) ((few, inr unread), same) = both m few unread.taken.few
  go m (Err (fail.Refused (job_refusal.Shared refusal.OutOfMemory))) c = (2, omega arith, refl)
  go m (Err (fail.Refused (job_refusal.TooManyFiles count))) c = (0, omega arith, refl)
  go m (Err (fail.Refused (job_refusal.TooManyArguments count))) c = (0, omega arith, refl)
  go m (Err (fail.Refused (job_refusal.TooLong file))) c = (0, omega arith, refl)
  go m (Err (fail.Refused (job_refusal.Class file r))) c = both m c.0.0 c.0.1.reaches.few
  go m (Err (fail.Refused (job_refusal.Link link))) c =
      let found = Some-from_some_and (refusal_of link) (AreNotLinked (given_of job) old new) c.0.1.1.refused in both m c.0.0 found.2.source.taken.few
  go m (Err (fail.Refused (job_refusal.Check name))) c = both m c.0.0 c.0.1.1.linked.source.taken.few
  go m (Err (fail.Refused (job_refusal.Write name))) c = absurd c.0.1

module _ {words : List Bytes} {old new : Disk} {before after : Output} (o : Outcome) (comes : ComesOf words old new before after o) where
  -- the job that was asked for comes out so, or memory was lacking before
  of_job : (job : FmrunJob) → Asks words job → ComesTo job old new before after o ⊎ (outcome_status o ≡ OUT_OF_MEMORY)
  of_job job asked = go comes where
    go : ComesOf words old new before after o → ComesTo job old new before after o ⊎ (outcome_status o ≡ OUT_OF_MEMORY)
    go (inl j) = let P : FmrunJob → Type 0 = λ k. ComesTo k old new before after o in inl (subst P (asks_one words j.job job j.asked asked) j.comes)
    go (inr (inl nothing)) = absurd (nothing.unasked job asked)
    go (inr (inr lacking)) = inr (ap outcome_status lacking.refused)

  -- a verdict of its files decides the kind of outcome, unless there was a fault or memory was lacking
  decided : (status : ℕ) (job : FmrunJob) (held : Bytes → Option Bytes) → old.contents ≡ Some held → Asks words job → length (job_arguments job) ≤ MAX_ARGUMENTS → JobVerdict held job status
      → Contains (status ∷ instead_for_file) (kind_of o) ⊎ (outcome_status o ≡ OUT_OF_MEMORY)
  decided status job held known asked few verdict = ⊎_elim
      (λ (job_comes : ComesTo job old new before after o). inl (status_of job old held known new before after few status o verdict job_comes))
      (λ (lacking : outcome_status o ≡ OUT_OF_MEMORY). inr lacking)
      (of_job job asked)

  -- and its status, where that isn't for what is done
  settled : (status : ℕ) → status ≢ DONE → Contains (status ∷ instead_for_file) (kind_of o) ⊎ (outcome_status o ≡ OUT_OF_MEMORY) → Contains (status ∷ instead_for_file) (outcome_status o)
  settled status other (inl among) = own_among o status other among
  settled status other (inr lacking) = (3, omega arith, sym lacking)

  missing_decides : AskToRead words (λ job. IsMissing old (given_of job) ⊎ LacksInput old job) → Contains instead_for_file (outcome_status o)
  missing_decides (job, (asked, (few, cause))) = once (go cause) where
    once : Contains (READ ∷ instead_for_file) (outcome_status o) → Contains instead_for_file (outcome_status o)
    once among = ⊎_elim (λ (same : outcome_status o ≡ READ). (0, omega arith, sym same)) (λ (one : Contains instead_for_file (outcome_status o)). one) (Contains-cons_cases READ instead_for_file (outcome_status o) among)

    go : IsMissing old (given_of job) ⊎ LacksInput old job → Contains (READ ∷ instead_for_file) (outcome_status o)
    go (inl lacks) =
        let found = Some-from_some_and old.contents (λ held. held lacks.file ≡ None) lacks.missing in
        settled READ (λ e. omega arith) (decided READ job found.0 found.1 asked few (inr (inl (missing_stops job.files old.contents found.0 found.1 lacks.file lacks.before lacks.reaches found.2))))
    go (inr lacks) =
        let found = Some-from_some_and old.contents (λ held. held lacks.file ≡ None) lacks.missing in
        settled READ (λ e. omega arith) (decided READ job found.0 found.1 asked few (passes job old found.0 found.1 lacks.classes READ lacks.taken
        (input_missing (Behind job.made (Links Runs (modified job.main))) found.0 job.input lacks.classes lacks.file lacks.named found.2)))

  long_decides : AskToRead words (λ job. IsKnownLong old (given_of job) ⊎ HasLongInput old job) → Contains (LIMIT ∷ instead_for_file) (outcome_status o)
  long_decides (job, (asked, (few, cause))) = go cause where
    go : IsKnownLong old (given_of job) ⊎ HasLongInput old job → Contains (LIMIT ∷ instead_for_file) (outcome_status o)
    go (inl is) =
        let found = Some-from_some_and old.contents (λ held. IsSomeAnd (held is.file) (IsTooLong (total_bytes is.before))) is.long in
        settled LIMIT (λ e. omega arith) (decided LIMIT job found.0 found.1 asked few (inr (inl (long_stops job.files old.contents found.0 found.1 is.file is.before is.reaches found.2))))
    go (inr is) =
        let found = Some-from_some_and old.contents (λ held. IsSomeAnd (held is.file) (λ bytes. MAX_FILE_BYTES < length bytes)) is.long in
        settled LIMIT (λ e. omega arith) (decided LIMIT job found.0 found.1 asked few (passes job old found.0 found.1 is.classes LIMIT is.taken
        (input_long (Behind job.made (Links Runs (modified job.main))) found.0 job.input is.classes is.file is.named found.2)))

  bytes_decide : (status : ℕ) → status ≢ DONE → AskToRead words (λ job. IsKnownRefused status old (given_of job)) → Contains (status ∷ instead_for_file) (outcome_status o)
  bytes_decide status other (job, (asked, (few, cause))) =
      let found = Some-from_some_and old.contents (λ held. IsSomeAnd (held cause.file) (IsRefused cause.refusal (total_bytes cause.before))) cause.refused in
      settled status other (decided status job found.0 found.1 asked few
      (inr (inl (bytes_stop job.files old.contents found.0 found.1 status cause.file cause.before cause.refusal cause.status_is cause.reaches found.2))))

  unlinked_decides : AskToRead words (λ job. IsKnownUnlinked old (given_of job) × HasInput job old.contents) → Contains (LINK ∷ instead_for_file) (outcome_status o)
  unlinked_decides (job, (asked, (few, (cause, input)))) =
      let found = Some-from_is_some old.contents cause.known in
      settled LINK (λ e. omega arith) (decided LINK job found.0 found.1 asked few (passes_input job old found.0 found.1 cause.classes LINK cause.source input (inl (cause.refused, refl))))

  untyped_decides : AskToRead words (λ job. IsKnownUntyped old (given_of job) × HasInput job old.contents) → Contains (CHECK ∷ instead_for_file) (outcome_status o)
  untyped_decides (job, (asked, (few, (cause, input)))) =
      let found = Some-from_is_some old.contents cause.known in
      settled CHECK (λ e. omega arith) (decided CHECK job found.0 found.1 asked few
      (passes_input job old found.0 found.1 cause.classes CHECK cause.linked.source input (inr (cause.linked.linked, inl (cause.untyped, refl)))))

  many_decide : AskFor words (λ job. HasTooMany (given_of job) ⊎ HasManyArguments job) → Contains (LIMIT ∷ instead_for_words) (outcome_status o)
  many_decide (job, (asked, many)) = ⊎_elim
      (λ (job_comes : ComesTo job old new before after o). many_status job old new before after many o job_comes)
      (λ (lacking : outcome_status o ≡ OUT_OF_MEMORY). (2, omega arith, sym lacking))
      (of_job job asked)

  fault_decides : FailsARead old new → Contains instead_for_file (outcome_status o)
  fault_decides (name, rose) = go (fails_so words old new before after o comes) where
    go : FailsSo old new (outcome_status o) → Contains instead_for_file (outcome_status o)
    go (inl none) = absurd (let same = none.reads name in omega arith)
    go (inr read) = (0, omega arith, sym read)

  -- a job that is ready is run, unless there was a fault or memory was lacking
  ready_decides : AskFor words (IsKnownReady old) → (kind_of o ≡ DONE) ⊎ Contains instead_for_file (outcome_status o)
  ready_decides (job, (asked, is)) =
      let found = Some-from_is_some old.contents is.known in
      go (decided DONE job found.0 found.1 asked is.ready.few (ready_passes job old found.0 found.1 is.classes is.input is.ready)) where
        late : (x : Outcome) → Contains instead_for_file (kind_of x) → Contains instead_for_file (outcome_status x)
        late (Ok reported) among = absurd (unlike_elements DONE instead_for_file refl DONE among refl)
        late (Err e) among = among

        go : Contains (DONE ∷ instead_for_file) (kind_of o) ⊎ (outcome_status o ≡ OUT_OF_MEMORY) → (kind_of o ≡ DONE) ⊎ Contains instead_for_file (outcome_status o)
        go (inl among) = ⊎_elim (λ (same : kind_of o ≡ DONE). inl same) (λ (one : Contains instead_for_file (kind_of o)). inr (late o one)) (Contains-cons_cases DONE instead_for_file (kind_of o) among)
        go (inr lacking) = inr (2, omega arith, sym lacking)

-- a failure isn't reported as what is done
not_done : {words : List Bytes} {old new : Disk} {before after : Output} (r : JobRefusal) → ComesOf words old new before after (Err (fail.Refused r)) → refusal_status r ≡ DONE → ⊥
not_done r comes is = let bounds = among_refusals (refusal_status r) (refusal_among r comes) in let low = bounds.low in omega arith

-- ---- the clauses

module _ (call : ProgramCall) (o : Outcome) (comes : ComesOf call.words call.old call.new call.before call.after o) (reports : IsReported o call.report call.reported call.status) where
  -- the words asked for a job, where the status is neither that of words nor that of memory
  of_job_alone : {Said : Type 0} (status : ℕ) → status ≢ WORDS → status ≢ WRITE → status ≢ OUT_OF_MEMORY → (ComesOfJob call.words call.old call.new call.before call.after o → outcome_status o ≡ status → IsLinePut o call.report call.reported → Said) → call.status ≡ status → Said
  of_job_alone {Said} status unlike_words write memory said is = go comes (is_line_put call.report call.reported call.status o reports status write memory is) where
    go : ComesOf call.words call.old call.new call.before call.after o → (outcome_status o ≡ status) × IsLinePut o call.report call.reported → Said
    go (inl j) put = said j put.0 put.1
    go (inr (inl nothing)) put = absurd (unlike_words (sym put.0 ∙ ap outcome_status nothing.refused))
    go (inr (inr lacking)) put = absurd (memory (sym put.0 ∙ ap outcome_status lacking.refused))

  -- a status of the job's files comes exactly with what it says
  of_files : {Said Cause : Type 0} (status : ℕ) → status ≢ WORDS → status ≢ WRITE → status ≢ OUT_OF_MEMORY → (ComesOfJob call.words call.old call.new call.before call.after o → outcome_status o ≡ status → IsLinePut o call.report call.reported → Said)
      → (Cause → Contains (status ∷ instead_for_file) (outcome_status o)) → ComesExactly status instead_for_file call.status Said Cause
  of_files status unlike_words write memory said decides = record {
    only = of_job_alone status unlike_words write memory said;
    there = λ cause. reported_of_file call.report call.reported call.status o reports status (decides cause);
  }

  pub is_for_words : AskForNoText call.words → IsForWords call
  is_for_words no_text = record {
    only = λ is. let put = is_line_put call.report call.reported call.status o reports WORDS (λ e. omega arith) (λ e. omega arith) is in words_said comes put.0 put.1;
    there = λ unasked. reported_of_words call.report call.reported call.status o reports WORDS (nothing_decides unasked comes);
  } where
    words_said : ComesOf call.words call.old call.new call.before call.after o → outcome_status o ≡ WORDS → IsLinePut o call.report call.reported → AskNothing call.words × SaysWords call
    words_said (inl j) is line = absurd (not_for_words j.job call.old call.new call.before call.after o j.comes is)
    words_said (inr (inl nothing)) is line = (
      record { no_text = no_text; no_job = nothing.unasked },
      record {
        kept = nothing.kept;
        refused = record { silent = nothing.silent; reported = let P : Outcome → Type 0 = λ x. IsLinePut x call.report call.reported in subst P nothing.refused line };
      },
    )
    words_said (inr (inr lacking)) is line = absurd (let other = sym is ∙ ap outcome_status lacking.refused in omega arith)

    nothing_decides : AskNothing call.words → ComesOf call.words call.old call.new call.before call.after o → Contains (WORDS ∷ instead_for_words) (outcome_status o)
    nothing_decides unasked (inl j) = absurd (unasked.no_job j.job j.asked)
    nothing_decides unasked (inr (inl nothing)) = (0, omega arith, sym (ap outcome_status nothing.refused))
    nothing_decides unasked (inr (inr lacking)) = (2, omega arith, sym (ap outcome_status lacking.refused))

  pub is_for_read : IsForRead call
  is_for_read = record {
    only = of_job_alone READ (λ e. omega arith) (λ e. omega arith) (λ e. omega arith) (read_said call o);
    there = λ cause. is_among call.report call.reported call.status o reports instead_for_file (decides cause) (1, omega arith, refl) (2, omega arith, refl);
  } where
    decides : MissesFile call.words call.old call.new → Contains instead_for_file (outcome_status o)
    decides (inl fault) = fault_decides o comes fault
    decides (inr missing) = missing_decides o comes missing

  pub is_for_bytes : (status : ℕ) → 66 ≤ status → status ≤ 69 → status ≢ LIMIT → IsForBytes status call
  is_for_bytes status low high other =
      of_files status (λ e. omega arith) (λ e. omega arith) (λ e. omega arith) (bytes_said call status low high other o) (bytes_decide o comes status (λ e. omega arith))

  pub is_for_limit : IsForLimit call
  is_for_limit = record {
    only = of_job_alone LIMIT (λ e. omega arith) (λ e. omega arith) (λ e. omega arith) (limit_said call o);
    many = λ cause. reported_of_words call.report call.reported call.status o reports LIMIT (many_decide o comes cause);
    long = λ cause. reported_of_file call.report call.reported call.status o reports LIMIT (long_decides o comes cause);
    bytes = λ cause. reported_of_file call.report call.reported call.status o reports LIMIT (bytes_decide o comes LIMIT (λ e. omega arith) cause);
  }

  pub is_for_link : IsForLink call
  is_for_link = of_files LINK (λ e. omega arith) (λ e. omega arith) (λ e. omega arith) (link_said call o) (unlinked_decides o comes)

  pub is_for_check : IsForCheck call
  is_for_check = of_files CHECK (λ e. omega arith) (λ e. omega arith) (λ e. omega arith) (check_said call o) (untyped_decides o comes)

-- ---- the run

module _ (call : ProgramCall) where
  -- the line of the run is put
  run_put : (o : Outcome) (comes : ComesOf call.words call.old call.new call.before call.after o) → ¬ Contains refusal_statuses (outcome_status o) → IsLinePut o call.report call.reported → call.status ≡ outcome_status o → SaysRun call
  run_put (Ok reported) comes none line is =
      let j = job_of_reported reported comes in
      let P : ℕ → Type 0 = λ s. HasRun j.job (string_bytes reported.line) s call.old call.new call.before call.after in
      record { job = j.job; asked = j.asked; line = string_bytes reported.line; ran = subst P (sym is) j.comes; reported = line }
  run_put (Err (fail.Refused r)) comes none line is = absurd (none (refusal_among r comes))
  run_put (Err fail.Output) comes none line is = absurd (none (8, omega arith, refl))

  pub run_only : (o : Outcome) → ComesOf call.words call.old call.new call.before call.after o → IsReported o call.report call.reported call.status → ¬ Contains refusal_statuses call.status → SaysRun call
  run_only o comes reports none =
      let put = is_line_put call.report call.reported call.status o reports call.status (λ e. none (8, omega arith, sym e)) (λ e. none (9, omega arith, sym e)) refl in
      let P : ℕ → Type 0 = λ s. ¬ Contains refusal_statuses s in
      run_put o comes (subst P (sym put.0) none) put.1 (sym put.0)

  -- a run that is reported, or isn't
  run_reported : (o : Outcome) → ComesOf call.words call.old call.new call.before call.after o → IsReported o call.report call.reported call.status → kind_of o ≡ DONE → SaysRun call ⊎ Contains instead_for_file call.status
  run_reported (Ok reported) comes (inl put) is =
      let j = job_of_reported reported comes in
      let P : ℕ → Type 0 = λ s. HasRun j.job (string_bytes reported.line) s call.old call.new call.before call.after in
      inl (record { job = j.job; asked = j.asked; line = string_bytes reported.line; ran = subst P (sym put.0) j.comes; reported = put.1 })
  run_reported (Ok reported) comes (inr (inl failed)) is = inr (1, omega arith, sym failed.0)
  run_reported (Ok reported) comes (inr (inr lacking)) is = inr (2, omega arith, sym lacking.0)
  run_reported (Err (fail.Refused r)) comes reports is = absurd (not_done r comes is)
  run_reported (Err fail.Output) comes reports is = absurd (omega arith)

  -- it has the status of the definitions' run
  end_reported : (o : Outcome) → ComesOf call.words call.old call.new call.before call.after o → (status : ℕ) (job : FmrunJob) → Asks call.words job → IsKnownRun status call.old job → kind_of o ≡ DONE → outcome_status o ≡ status
  end_reported (Ok reported) comes status job asked known is =
      let j = job_of_reported reported comes in
      let found = Some-from_is_some call.old.contents known.known in
      let P : FmrunJob → Type 0 = λ k. HasRun k (string_bytes reported.line) reported.status call.old call.new call.before call.after in
      one_end job call.old call.new call.before call.after found.0 found.1 (string_bytes reported.line) reported.status status (subst P (asks_one call.words j.job job j.asked asked) j.comes)
      known.classes known.input known.ready known.last known.printed known.run known.status_is
  end_reported (Err (fail.Refused r)) comes status job asked known is = absurd (not_done r comes is)
  end_reported (Err fail.Output) comes status job asked known is = absurd (omega arith)

  pub is_for_run : (o : Outcome) → ComesOf call.words call.old call.new call.before call.after o → IsReported o call.report call.reported call.status → IsForRun call
  is_for_run o comes reports = record { only = λ none. inl (run_only o comes reports none); ready = λ asks. is_ready (ready_decides o comes asks); ends = is_end } where
    late : Contains instead_for_file (outcome_status o) → Contains instead_for_file call.status
    late own = is_among call.report call.reported call.status o reports instead_for_file own (1, omega arith, refl) (2, omega arith, refl)

    is_ready : (kind_of o ≡ DONE) ⊎ Contains instead_for_file (outcome_status o) → SaysRun call ⊎ Contains instead_for_file call.status
    is_ready (inl is) = run_reported o comes reports is
    is_ready (inr own) = inr (late own)

    is_end : (status : ℕ) → AskFor call.words (IsKnownRun status call.old) → Contains (status ∷ instead_for_file) call.status
    is_end status (job, (asked, known)) =
        let own : Contains (status ∷ instead_for_file) (outcome_status o) = ⊎_elim
        (λ (is : kind_of o ≡ DONE). (0, omega arith, sym (end_reported o comes status job asked known is)))
        (λ (later : Contains instead_for_file (outcome_status o)). Contains-append_right (status ∷ []) instead_for_file (outcome_status o) later)
        (ready_decides o comes (job, (asked, record { known = known.known; classes = known.classes; input = known.input; ready = known.ready }))) in
        reported_of_file call.report call.reported call.status o reports status own
