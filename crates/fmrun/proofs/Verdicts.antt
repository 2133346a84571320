-- Where contents are known, a job has one verdict, and so one status.
use Rattle.std.proofs.Common.{◌≡◌, ◌<◌, ◌≤◌, ◌⊎◌, ℕ, inl, inr, ⊎_elim, List, ◌∷◌, length, Contains, Option, Some, None, IsSomeAnd, MatchOption, Ok, Err, refl, sym, ap, ◌∙◌, subst, arith}
use Rattle.std.proofs.lemmas.Bool.{cases_lt}
use Rattle.fm_base.proofs.OptionFacts.{IsSomeAnd-weaker, Some-from_some_and, same_value}
use Rattle.fm_base.specs.declared.limits.TheConstants.{MAX_ARGUMENTS, MAX_FILE_BYTES}
use Rattle.fm_code.specs.declared.class_file.ClassDef.{ClassDef}
use Rattle.fm_files.specs.Files.{Bytes, Contents, Disk}
use Rattle.fm_files.specs.Sink.{Output}
use Rattle.fm_frames.specs.Acts.{Choose}
use Rattle.fm_frames.specs.Reports.{report_of}
use Rattle.fm_frames.specs.Runs.{after, IsRun}
use Rattle.fm_frames.specs.States.{Moved, silent, State}
use Rattle.fm_load.proofs.GivenLemmas.{Behind, behind, behind_once, given_passes}
use Rattle.fm_load.proofs.KnownLemmas.{all_taken, bytes_stop, long_stops, not_empty, not_typed}
use Rattle.fm_load.proofs.VerdictLemmas.{Ends, EndsOnce, Links, Verdict, links_once, one_verdict}
use Rattle.fm_load.specs.ClassRefusal.{class_refusal_status}
use Rattle.fm_load.specs.Given.{AreGiven, AreNotLinked, given_program}
use Rattle.fm_load.specs.Taking.{total_bytes, AllTaken, IsTooLong, IsRefused}
use Rattle.fm_load.specs.declared.refusal.JobRefusal.TheVariants as job_refusal
use Rattle.fm_run_job.specs.Reading.{IsInputOf}
use Rattle.fm_link_refusals.specs.Refused.{refusal_of}
use Rattle.fm_run_job.specs.Reports.{end_status}
use Rattle.fm_cli_requests.specs.FmrunRequest.{FmrunJob}
use Rattle.fm_run_job.specs.Runs.{choice}
use Rattle.fm_cli.proofs.LineLemmas.{instead_for_file}
use Rattle.fm_cli.proofs.OutsideLemmas.{known_such}
use Rattle.fm_cli.specs.Encoding.{modified}
use Rattle.fm_cli.specs.declared.command_refusal.CommandRefusal.TheVariants as refusal
use Rattle.fm_cli.specs.declared.status.TheConstants.{DONE, READ, LIMIT, LINK, CHECK, WRITE, OUT_OF_MEMORY}
use Rattle.fm_world.specs.Linking.{refusals}
use Rattle.fm_world.specs.Programs.{Program}
use Rattle.fmrun.proofs.EndStatuses.{kind_of}
use Rattle.fmrun.specs.Jobs.{given_of, job_arguments, job_program, opened_job, IsReady}
use Rattle.fmrun.specs.TopCall.{ComesTo, HasInput, HasRun, Outcome}
use Rattle.fmrun.specs.declared.outcome.JobFail.TheVariants as fail

-- ---- the input

-- the verdict on a file for the input: it isn't there, or is too long, or the rest follows
abbrev pub OfInput : Type 0 → ℕ → Option Bytes → Type 0
OfInput Rest status there =
    ((there ≡ None) × (status ≡ READ)) ⊎ IsSomeAnd there (λ bytes. ((MAX_FILE_BYTES < length bytes) × (status ≡ LIMIT)) ⊎ ((length bytes ≤ MAX_FILE_BYTES) × Rest))

-- the verdict on classes after the input
abbrev pub Inputs : Ends → (Bytes → Option Bytes) → Option Bytes → Ends
Inputs Rest held named classes status = MatchOption named (Rest classes status) (λ file. OfInput (Rest classes status) status (held file))

one_input : (A B : Type 0) (s t : ℕ) → (A → B → s ≡ t) → (there : Option Bytes) → OfInput A s there → OfInput B t there → s ≡ t
one_input A B s t rest None (inl p) (inl q) = p.1 ∙ sym q.1
one_input A B s t rest None (inl p) (inr q) = absurd q
one_input A B s t rest None (inr p) q = absurd p
one_input A B s t rest (Some bytes) (inl p) q = absurd (let none = p.0 in cc)
one_input A B s t rest (Some bytes) (inr p) (inl q) = absurd (let none = q.0 in cc)
one_input A B s t rest (Some bytes) (inr (inl p)) (inr (inl q)) = p.1 ∙ sym q.1
one_input A B s t rest (Some bytes) (inr (inl p)) (inr (inr q)) = absurd (let long = p.0 in let short = q.0 in omega arith)
one_input A B s t rest (Some bytes) (inr (inr p)) (inr (inl q)) = absurd (let short = p.0 in let long = q.0 in omega arith)
one_input A B s t rest (Some bytes) (inr (inr p)) (inr (inr q)) = rest p.1 q.1

inputs_once : (Rest : Ends) (held : Bytes → Option Bytes) (named : Option Bytes) → EndsOnce Rest → EndsOnce (Inputs Rest held named)
inputs_once Rest held None once = once
inputs_once Rest held (Some file) once = λ classes s t. one_input (Rest classes s) (Rest classes t) s t (once classes s t) (held file)

-- the input is read, isn't there, or is too long
pub input_read : (Rest : Ends) (held : Bytes → Option Bytes) (named : Option Bytes) (classes : List ClassDef) (status : ℕ) (input : Bytes) → IsInputOf named (Some held) input → Rest classes status → Inputs Rest held named classes status
input_read Rest held None classes status input is rest = rest
input_read Rest held (Some file) classes status input is rest =
    let P : Option Bytes → Type 0 = OfInput (Rest classes status) status in subst P (sym is.1) (inr (inr (is.0, rest)))

pub input_missing : (Rest : Ends) (held : Bytes → Option Bytes) (named : Option Bytes) (classes : List ClassDef) (file : Bytes) → named ≡ Some file → held file ≡ None → Inputs Rest held named classes READ
input_missing Rest held named classes file is none =
    let P : Option Bytes → Type 0 = λ o. Inputs Rest held o classes READ in subst P (sym is) (inl (none, refl))

pub input_long : (Rest : Ends) (held : Bytes → Option Bytes) (named : Option Bytes) (classes : List ClassDef) (file : Bytes) → named ≡ Some file → IsSomeAnd (held file) (λ bytes. MAX_FILE_BYTES < length bytes)
    → Inputs Rest held named classes LIMIT
input_long Rest held named classes file is long =
    let P : Option Bytes → Type 0 = λ o. Inputs Rest held o classes LIMIT in
    let Long : Bytes → Type 0 = λ bytes. MAX_FILE_BYTES < length bytes in
    let Ends : Bytes → Type 0 = λ bytes. ((MAX_FILE_BYTES < length bytes) × (LIMIT ≡ LIMIT)) ⊎ ((length bytes ≤ MAX_FILE_BYTES) × Rest classes LIMIT) in
    subst P (sym is) (inr (IsSomeAnd-weaker (held file) Long Ends (λ bytes l. inl (l, refl)) long))

-- a file holds one input
same_input : (named : Option Bytes) (held : Bytes → Option Bytes) (a b : Bytes) → IsInputOf named (Some held) a → IsInputOf named (Some held) b → a ≡ b
same_input None held a b p q = p ∙ sym q
same_input (Some file) held a b p q = same_value (held file) a b p.1 q.1

-- ---- verdicts

-- a program that is run has the status of what is done
abbrev pub Runs : Ends
Runs classes status = status ≡ DONE

-- the verdict on the class files of a job
abbrev pub Last : (Bytes → Option Bytes) → FmrunJob → Ends
Last held job = Inputs (Behind job.made (Links Runs (modified job.main))) held job.input

last_once : (held : Bytes → Option Bytes) (job : FmrunJob) → EndsOnce (Last held job)
last_once held job =
    inputs_once (Behind job.made (Links Runs (modified job.main))) held job.input
    (behind_once job.made (Links Runs (modified job.main)) (links_once Runs (modified job.main) (λ classes s t a b. a ∙ sym b)))

-- the verdict on its files
abbrev pub JobVerdict : (Bytes → Option Bytes) → FmrunJob → ℕ → Type 0
JobVerdict held job status = Verdict (Last held job) held job.files status

module _ (job : FmrunJob) (old : Disk) (held : Bytes → Option Bytes) (known : old.contents ≡ Some held) where
  pub input_known : (input : Bytes) → IsInputOf job.input old.contents input → IsInputOf job.input (Some held) input
  input_known input = let P : Contents → Type 0 = λ c. IsInputOf job.input c input in subst P known

  -- all files are taken, and this follows
  pub passes : (classes : List ClassDef) (status : ℕ) → AllTaken old.contents job.files classes → Last held job classes status → JobVerdict held job status
  passes classes status taken last = inr (inr (record { classes = classes; taken = all_taken job.files old.contents held known classes taken; last = last }))

  -- the input is read too
  pub passes_input : (classes : List ClassDef) (status : ℕ) → AreGiven (given_of job) old.contents classes → HasInput job old.contents → Links Runs (modified job.main) classes status
      → JobVerdict held job status
  passes_input classes status are has rest =
      passes are.read status are.taken (input_read (Behind job.made (Links Runs (modified job.main))) held job.input are.read status has.input (input_known has.input has.input_is)
      (behind (Links Runs (modified job.main)) are status rest))

  -- and the program is run
  pub ready_passes : (classes : List ClassDef) (input : Bytes) → IsReady job old.contents classes input → JobVerdict held job DONE
  ready_passes classes input ready =
      passes_input classes DONE ready.checked.linked.source (record { input = input; input_is = ready.input_is }) (inr (ready.checked.linked.linked, inr (ready.checked.typed, refl)))

  module _ (new : Disk) (before after : Output) (few : length (job_arguments job) ≤ MAX_ARGUMENTS) where
    -- the verdict of an outcome, unless it is for a fault or for memory
    abbrev Comes : ℕ → Type 0
    Comes status = JobVerdict held job status ⊎ ((status ≡ READ) ⊎ ((status ≡ WRITE) ⊎ (status ≡ OUT_OF_MEMORY)))

    verdict_of : (o : Outcome) → ComesTo job old new before after o → Comes (kind_of o)
    verdict_of (Ok reported) comes = inl (ready_passes comes.classes comes.input comes.ready)
    verdict_of (Err fail.Output) comes = inr (inr (inl refl))
    verdict_of (Err (fail.Refused (job_refusal.Shared refusal.Words))) comes = absurd comes.0.1
    verdict_of (Err (fail.Refused (job_refusal.Shared (refusal.Read file)))) comes = inr (inl refl)
    verdict_of (Err (fail.Refused (job_refusal.Shared refusal.OutOfMemory))) comes = inr (inr (inr refl))
    verdict_of (Err (fail.Refused (job_refusal.TooManyFiles count))) comes = let count = comes.0.count_is in let many = comes.0.many in inl (inl (omega arith, refl))
    verdict_of (Err (fail.Refused (job_refusal.TooManyArguments count))) comes = absurd (let count = comes.0.count_is in let many = comes.0.many in omega arith)
    verdict_of (Err (fail.Refused (job_refusal.TooLong file))) ((_, inl long), same) =
        inl (inr (inl (long_stops job.files old.contents held known file.now long.before long.reaches (known_such old.contents held file.now (IsTooLong (total_bytes long.before)) known long.long))))
    verdict_of (Err (fail.Refused (job_refusal.TooLong file))) ((_, inr long), same) =
        inl (passes long.classes LIMIT long.taken (input_long (Behind job.made (Links Runs (modified job.main))) held job.input long.classes file.now long.named
        (known_such old.contents held file.now (λ bytes. MAX_FILE_BYTES < length bytes) known long.long)))
    verdict_of (Err (fail.Refused (job_refusal.Class file r))) comes =
        let bad = comes.0.1 in
        inl (inr (inl (bytes_stop job.files old.contents held known (class_refusal_status r) file.now bad.before r refl bad.reaches (known_such old.contents held file.now (IsRefused r (total_bytes bad.before)) known bad.refused))))
    verdict_of (Err (fail.Refused (job_refusal.Link link))) comes =
        let found = Some-from_some_and (refusal_of link) (AreNotLinked (given_of job) old new) comes.0.1.1.refused in
        let bad = found.2 in
        inl (passes_input bad.classes LINK bad.source comes.0.1.0 (inl (not_empty (refusals bad.classes (modified job.main)) found.0 bad.first, refl)))
    verdict_of (Err (fail.Refused (job_refusal.Check name))) comes =
        let bad = comes.0.1.1 in
        inl (passes_input bad.classes CHECK bad.linked.source comes.0.1.0 (inr (bad.linked.linked, inl (not_typed (given_program (given_of job) bad.classes) name bad.untyped, refl))))
    verdict_of (Err (fail.Refused (job_refusal.Write name))) comes = absurd comes.0.1

    -- files of this verdict have its status, unless there was a fault or memory was lacking
    pub status_of : (status : ℕ) (o : Outcome) → JobVerdict held job status → ComesTo job old new before after o → Contains (status ∷ instead_for_file) (kind_of o)
    status_of status o verdict comes = go (verdict_of o comes) where
      go : Comes (kind_of o) → Contains (status ∷ instead_for_file) (kind_of o)
      go (inl own) = (0, omega arith, one_verdict (Last held job) (last_once held job) held job.files status (kind_of o) verdict own)
      go (inr (inl e)) = (1, omega arith, sym e)
      go (inr (inr (inl e))) = (2, omega arith, sym e)
      go (inr (inr (inr e))) = (3, omega arith, sym e)

-- ---- runs

-- a run within a budget reaches one state, with one output
one_run : (p : Program) (choose : Choose) (budget : ℕ) (opened x y : Moved) → IsRun p choose budget opened x → IsRun p choose budget opened y → x ≡ y
one_run p choose budget opened x y a b = ⊎_elim
    (λ (lower : a.count < b.count). absurd (a.stops (b.goes a.count lower)))
    (λ (high : b.count ≤ a.count). ⊎_elim
    (λ (lower : b.count < a.count). absurd (b.stops (a.goes b.count lower)))
    (λ (low : a.count ≤ b.count).
    let same : a.count ≡ b.count = omega arith in
    a.is ∙ ap (λ k. after p choose k opened) same ∙ sym b.is)
    (cases_lt b.count a.count))
    (cases_lt a.count b.count)

-- the run of a job with these classes reaches an end of this status
pub record EndsAs (held : Bytes → Option Bytes) (job : FmrunJob) (classes : List ClassDef) (status : ℕ) : Type 0 where
  pub input : Bytes
  pub input_is : IsInputOf job.input (Some held) input
  pub last : State
  pub printed : List ℕ
  pub run : IsRun (job_program job classes) choice job.steps (silent (opened_job job classes input)) (record { state = last; printed = printed })
  pub status_is : status ≡ end_status (report_of last).end

pub ends_once : (held : Bytes → Option Bytes) (job : FmrunJob) → EndsOnce (EndsAs held job)
ends_once held job classes s t a b =
    let p = job_program job classes in
    let input : b.input ≡ a.input = same_input job.input held b.input a.input b.input_is a.input_is in
    let Of : Bytes → Type 0 = λ i. IsRun p choice job.steps (silent (opened_job job classes i)) (record { state = b.last; printed = b.printed }) in
    let same = one_run p choice job.steps (silent (opened_job job classes a.input)) (record { state = a.last; printed = a.printed }) (record { state = b.last; printed = b.printed }) a.run (subst Of input b.run) in
    a.status_is ∙ ap (λ (m : Moved). end_status (report_of m.state).end) same ∙ sym b.status_is

-- a run that is known is the one that was done
pub one_end : (job : FmrunJob) (old new : Disk) (before after : Output) (held : Bytes → Option Bytes) → old.contents ≡ Some held → (line : List ℕ) (s t : ℕ) → HasRun job line s old new before after
    → (classes : List ClassDef) (input : Bytes) → IsReady job old.contents classes input → (last : State) (printed : List ℕ)
    → IsRun (job_program job classes) choice job.steps (silent (opened_job job classes input)) (record { state = last; printed = printed }) → t ≡ end_status (report_of last).end → s ≡ t
one_end job old new before after held known line s t ran classes input ready last printed run is =
    one_verdict (Behind job.made (EndsAs held job)) (behind_once job.made (EndsAs held job) (ends_once held job)) held job.files s t
    (inr (inr (given_passes (EndsAs held job) held known ran.ready.checked.linked.source s (record {
      input = ran.input;
      input_is = input_known job old held known ran.input ran.ready.input_is;
      last = ran.last;
      printed = ran.runs.printed;
      run = ran.runs.run;
      status_is = ran.status_is;
    }))))
    (inr (inr (given_passes (EndsAs held job) held known ready.checked.linked.source t (record {
      input = input;
      input_is = input_known job old held known input ready.input_is;
      last = last;
      printed = printed;
      run = run;
      status_is = is;
    }))))
