-- What fails, what is lacking and what is kept, by what a call does as a whole.
use Rattle.std.proofs.Common.{◌≡◌, ◌≢◌, ◌<◌, ◌≤◌, ◌⊎◌, ℕ, inl, inr, ⊎_elim, Contains, Ok, Err, string_bytes, refl, sym, ap, ◌∙◌, subst, arith}
use Rattle.fm_files.specs.Files.{Disk}
use Rattle.fm_files.specs.Sink.{Output, with_piece}
use Rattle.fm_frames.specs.Reports.{report_of}
use Rattle.fm_load.proofs.RefusalLemmas.{class_status}
use Rattle.fm_load.specs.ProgramCalls.{ProgramCall}
use Rattle.fm_load.specs.Refusal.{refusal_line, refusal_status}
use Rattle.fm_load.specs.declared.refusal.JobRefusal.{JobRefusal}
use Rattle.fm_load.specs.declared.refusal.JobRefusal.TheVariants as job_refusal
use Rattle.fm_cli_requests.proofs.FmrunRequestLemmas.{asks_one}
use Rattle.fm_cli_requests.specs.FmrunRequest.{FmrunJob, Asks, AskNoJob}
use Rattle.fm_cli.proofs.OutsideLemmas.{no_fault_where_same}
use Rattle.fm_cli.specs.Outside.{HasNoFileFault}
use Rattle.fm_cli.specs.declared.command_refusal.CommandRefusal.TheVariants as refusal
use Rattle.fm_cli.specs.declared.status.TheConstants.{WRITE, OUT_OF_MEMORY}
use Rattle.fmrun.proofs.EndStatuses.{among_before_run, job_of_failed, job_of_reported, not_for_write, refusal_among, run_apart}
use Rattle.fmrun.proofs.JobLemmas.{none_within}
use Rattle.fmrun.proofs.ReportedLemmas.{FailsSo, IsLinePut, fails_so, is_line_put, output_faultless, report_fails, report_faultless}
use Rattle.fmrun.specs.Causes.{IsFaultless, IsForMemory, IsForWrite, IsSilent, IsStatus, OnlyReads, SaysMemory, SaysWrite, before_run, refusal_statuses}
use Rattle.fmrun.specs.TopCall.{ComesOf, ComesTo, IsReported, Outcome, StaysWithin, outcome_status}
use Rattle.fmrun.specs.declared.outcome.JobFail.TheVariants as fail

module _ (call : ProgramCall) where
  -- ---- 75

  write_only : (o : Outcome) → ComesOf call.words call.old call.new call.before call.after o → IsReported o call.report call.reported call.status → call.status ≡ WRITE
      → SaysWrite call
  write_only (Ok reported) comes (inl put) is = absurd (run_apart (job_of_reported reported comes).comes WRITE (omega arith) (omega arith) (sym put.0 ∙ is))
  write_only (Ok reported) comes (inr (inl failed)) is = inr (inl (record { outcome = Ok reported; comes = comes; line = string_bytes reported.line; line_is = refl; fails = failed.1 }))
  write_only (Ok reported) comes (inr (inr lacking)) is = absurd (let e = lacking.0 in omega arith)
  write_only (Err (fail.Refused r)) comes (inl put) is = absurd (not_for_write r comes (sym put.0 ∙ is))
  write_only (Err (fail.Refused r)) comes (inr (inl failed)) is = inr (inl (record { outcome = Err (fail.Refused r); comes = comes; line = refusal_line r; line_is = refl; fails = failed.1 }))
  write_only (Err (fail.Refused r)) comes (inr (inr lacking)) is = absurd (let e = lacking.0 in omega arith)
  write_only (Err fail.Output) comes reports is = let j = job_of_failed comes in inl (j.job, (j.asked, record { failed = j.comes; silent = reports.1 }))

  write_there : (o : Outcome) → ComesOf call.words call.old call.new call.before call.after o → IsReported o call.report call.reported call.status → (call.before.faults < call.after.faults) ⊎ (call.report.faults < call.reported.faults) → call.status ≡ WRITE
  write_there o comes reports (inl rose) = go (output_faultless call.words call.old call.new call.before call.after o comes) where
    go : (call.after.faults ≡ call.before.faults) ⊎ (o ≡ Err fail.Output) → call.status ≡ WRITE
    go (inl same) = absurd (omega arith)
    go (inr failed) = let P : Outcome → Type 0 = λ x. IsReported x call.report call.reported call.status in let reported = subst P failed reports in reported.0
  write_there o comes reports (inr rose) = report_fails call.report call.reported call.status o reports rose

  pub is_for_write : (o : Outcome) → ComesOf call.words call.old call.new call.before call.after o → IsReported o call.report call.reported call.status → IsForWrite call
  is_for_write o comes reports = record { only = write_only o comes reports; there = write_there o comes reports }

  -- ---- 76

  -- where its line is put
  memory_said : (r : JobRefusal) → ComesOf call.words call.old call.new call.before call.after (Err (fail.Refused r)) → refusal_status r ≡ OUT_OF_MEMORY → call.reported ≡ with_piece (refusal_line r) call.report → SaysMemory call
  memory_said (job_refusal.Shared refusal.OutOfMemory) (inl j) is line =
      record { stopped = ⊎_elim (λ none. inl none) (λ broken. inr (j.job, (j.asked, broken))) j.comes; reported = line }
  memory_said (job_refusal.Shared refusal.OutOfMemory) (inr (inl nothing)) is line = absurd (let other = nothing.refused in cc)
  memory_said (job_refusal.Shared refusal.OutOfMemory) (inr (inr lacking)) is line =
      record { stopped = inl (record { faultless = no_fault_where_same call.old call.new lacking.kept; kept = ap (λ (d : Disk). d.contents) lacking.kept; unwritten = ap (λ (d : Disk). d.writes) lacking.kept }, lacking.silent); reported = line }
  memory_said (job_refusal.Class file r) comes is line = absurd (let c = class_status r in let low = c.low in let high = c.high in omega arith)
  memory_said r comes is line = absurd (omega arith)

  pub is_for_memory : (o : Outcome) → ComesOf call.words call.old call.new call.before call.after o → IsReported o call.report call.reported call.status → IsForMemory call
  is_for_memory (Ok reported) comes (inl put) is = absurd (run_apart (job_of_reported reported comes).comes OUT_OF_MEMORY (omega arith) (omega arith) (sym put.0 ∙ is))
  is_for_memory (Ok reported) comes (inr (inl failed)) is = absurd (let e = failed.0 in omega arith)
  is_for_memory (Ok reported) comes (inr (inr lacking)) is = inr (inl (record { outcome = Ok reported; comes = comes; silent = lacking.1 }))
  is_for_memory (Err (fail.Refused r)) comes (inl put) is = inl (memory_said r comes (sym put.0 ∙ is) put.1)
  is_for_memory (Err (fail.Refused r)) comes (inr (inl failed)) is = absurd (let e = failed.0 in omega arith)
  is_for_memory (Err (fail.Refused r)) comes (inr (inr lacking)) is = inr (inl (record { outcome = Err (fail.Refused r); comes = comes; silent = lacking.1 }))
  is_for_memory (Err fail.Output) comes reports is = absurd (let e = reports.0 in omega arith)

  -- ---- what fails and what is kept

  pub is_faultless : (o : Outcome) → ComesOf call.words call.old call.new call.before call.after o → IsReported o call.report call.reported call.status → IsFaultless call
  is_faultless o comes reports none = (reads (fails_so call.words call.old call.new call.before call.after o comes), output (output_faultless call.words call.old call.new call.before call.after o comes), report_faultless call.report call.reported call.status o unwritten put.1) where
    put : (outcome_status o ≡ call.status) × IsLinePut o call.report call.reported
    put = is_line_put call.report call.reported call.status o reports call.status (λ e. none (1, omega arith, sym e)) (λ e. none (2, omega arith, sym e)) refl

    unwritten : outcome_status o ≢ WRITE
    unwritten e = none (1, omega arith, sym e ∙ put.0)

    reads : FailsSo call.old call.new (outcome_status o) → HasNoFileFault call.old call.new
    reads (inl faultless) = faultless
    reads (inr e) = absurd (none (0, omega arith, sym e ∙ put.0))

    output : (call.after.faults ≡ call.before.faults) ⊎ (o ≡ Err fail.Output) → call.after.faults ≡ call.before.faults
    output (inl same) = same
    output (inr failed) = absurd (unwritten (ap outcome_status failed))

  -- a refusal leaves the output as it was
  job_silent : (job : FmrunJob) (o : Outcome) → ComesTo job call.old call.new call.before call.after o → Contains before_run (outcome_status o) → call.after ≡ call.before
  job_silent job (Ok reported) comes among = absurd (let bounds = among_before_run reported.status among in run_apart comes reported.status bounds.low (let high = bounds.high in omega arith) refl)
  job_silent job (Err fail.Output) comes among = absurd (let bounds = among_before_run WRITE among in let high = bounds.high in omega arith)
  job_silent job (Err (fail.Refused (job_refusal.Shared refusal.OutOfMemory))) comes among = absurd (let bounds = among_before_run OUT_OF_MEMORY among in let high = bounds.high in omega arith)
  job_silent job (Err (fail.Refused r)) comes among = comes.1

  pub is_silent : (o : Outcome) → ComesOf call.words call.old call.new call.before call.after o → IsReported o call.report call.reported call.status → IsSilent call
  is_silent o comes reports among = go comes where
    bounded : (s : ℕ) → 75 ≤ s → call.status ≢ s
    bounded s from e = let bounds = among_before_run call.status among in let high = bounds.high in omega arith

    put : (outcome_status o ≡ call.status) × IsLinePut o call.report call.reported
    put = is_line_put call.report call.reported call.status o reports call.status (bounded WRITE (omega arith)) (bounded OUT_OF_MEMORY (omega arith)) refl

    own : Contains before_run (outcome_status o)
    own = let P : ℕ → Type 0 = Contains before_run in subst P (sym put.0) among

    go : ComesOf call.words call.old call.new call.before call.after o → call.after ≡ call.before
    go (inl j) = job_silent j.job o j.comes own
    go (inr (inl nothing)) = nothing.silent
    go (inr (inr lacking)) = lacking.silent

  pub only_reads : (o : Outcome) → ComesOf call.words call.old call.new call.before call.after o → OnlyReads call
  only_reads o comes = record { asked = λ job asked. stays job asked comes; unasked = λ none. unchanged none comes } where
    stays : (job : FmrunJob) → Asks call.words job → ComesOf call.words call.old call.new call.before call.after o → StaysWithin job call.old call.new
    stays job asked (inl j) = let P : FmrunJob → Type 0 = λ k. StaysWithin k call.old call.new in subst P (asks_one call.words j.job job j.asked asked) j.within
    stays job asked (inr (inl nothing)) = absurd (nothing.unasked job asked)
    stays job asked (inr (inr lacking)) = let P : Disk → Type 0 = λ d. StaysWithin job call.old d in subst P (sym lacking.kept) (none_within job call.old)

    unchanged : AskNoJob call.words → ComesOf call.words call.old call.new call.before call.after o → call.new ≡ call.old
    unchanged none (inl j) = absurd (none j.job j.asked)
    unchanged none (inr (inl nothing)) = nothing.kept
    unchanged none (inr (inr lacking)) = lacking.kept

  -- ---- all statuses

  among_all : {status : ℕ} → Contains refusal_statuses status → call.status ≡ status → IsStatus call.status
  among_all among is = let P : ℕ → Type 0 = Contains refusal_statuses in inl (subst P (sym is) among)

  pub is_status : (o : Outcome) → ComesOf call.words call.old call.new call.before call.after o → IsReported o call.report call.reported call.status → IsStatus call.status
  is_status (Ok reported) comes (inl put) = let j = job_of_reported reported comes in inr ((report_of j.comes.last).end, put.0 ∙ j.comes.status_is)
  is_status (Ok reported) comes (inr (inl failed)) = among_all (8, omega arith, refl) failed.0
  is_status (Ok reported) comes (inr (inr lacking)) = among_all (9, omega arith, refl) lacking.0
  is_status (Err (fail.Refused r)) comes (inl put) = among_all (refusal_among r comes) put.0
  is_status (Err (fail.Refused r)) comes (inr (inl failed)) = among_all (8, omega arith, refl) failed.0
  is_status (Err (fail.Refused r)) comes (inr (inr lacking)) = among_all (9, omega arith, refl) lacking.0
  is_status (Err fail.Output) comes reports = among_all (8, omega arith, refl) reports.0
