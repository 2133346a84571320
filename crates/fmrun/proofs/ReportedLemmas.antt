-- What is reported of an outcome, and what outcomes do to the counts of faults.
use Rattle.std.proofs.Common.{◌≡◌, ◌≢◌, ◌<◌, ◌⊎◌, ℕ, inl, inr, List, ◌∷◌, Contains, IfSome, Ok, Err, string_bytes, refl, sym, ap, ◌∙◌, subst, arith}
use Rattle.fm_files.specs.Files.{Bytes, Disk}
use Rattle.fm_files.specs.Sink.{Output, with_piece}
use Rattle.fm_load.specs.Refusal.{refusal_line, refusal_status}
use Rattle.fm_load.specs.declared.refusal.JobRefusal.TheVariants as job_refusal
use Rattle.fm_cli_requests.specs.FmrunRequest.{FmrunJob}
use Rattle.fm_cli.proofs.LineLemmas.{instead_for_file, instead_for_words, is_put, put_fails, told_among}
use Rattle.fm_cli.proofs.OutsideLemmas.{no_fault_where_same}
use Rattle.fm_cli.specs.Outside.{HasNoFileFault}
use Rattle.fm_cli.specs.declared.command_refusal.CommandRefusal.TheVariants as refusal
use Rattle.fm_cli.specs.declared.status.TheConstants.{READ, WRITE, OUT_OF_MEMORY}
use Rattle.fmrun.specs.TopCall.{ComesOf, ComesTo, IsReported, Outcome, outcome_line, outcome_status}
use Rattle.fmrun.specs.declared.outcome.JobFail.TheVariants as fail

-- the line of an outcome was put
abbrev pub IsLinePut : Outcome → Output → Output → Type 0
IsLinePut o report report' = IfSome (outcome_line o) (λ line. report' ≡ with_piece line report)

module _ (report report' : Output) (result : ℕ) where
  -- the result is among statuses of which these three are
  pub is_among : (o : Outcome) → IsReported o report report' result → (statuses : List ℕ) → Contains statuses (outcome_status o) → Contains statuses WRITE → Contains statuses OUT_OF_MEMORY → Contains statuses result
  is_among (Ok reported) reports = told_among (string_bytes reported.line) reported.status report report' result reports
  is_among (Err (fail.Refused r)) reports = told_among (refusal_line r) (refusal_status r) report report' result reports
  is_among (Err fail.Output) reports = λ statuses own write memory. let P : ℕ → Type 0 = Contains statuses in subst P (sym reports.0) write

  -- at a status that is neither that of a failed put nor that of memory the line is put
  pub is_line_put : (o : Outcome) → IsReported o report report' result → (wanted : ℕ) → wanted ≢ WRITE → wanted ≢ OUT_OF_MEMORY → result ≡ wanted → (outcome_status o ≡ wanted) × IsLinePut o report report'
  is_line_put (Ok reported) reports = is_put (string_bytes reported.line) reported.status report report' result reports
  is_line_put (Err (fail.Refused r)) reports = is_put (refusal_line r) (refusal_status r) report report' result reports
  is_line_put (Err fail.Output) reports = λ wanted write memory is. absurd (write (sym is ∙ reports.0))

  -- where the faults of the report's sink rose the put failed
  pub report_fails : (o : Outcome) → IsReported o report report' result → report.faults < report'.faults → result ≡ WRITE
  report_fails (Ok reported) reports = put_fails (string_bytes reported.line) reported.status report report' result reports
  report_fails (Err (fail.Refused r)) reports = put_fails (refusal_line r) (refusal_status r) report report' result reports
  report_fails (Err fail.Output) reports = λ rose. reports.0

  -- where the line was put, they didn't
  pub report_faultless : (o : Outcome) → outcome_status o ≢ WRITE → IsLinePut o report report' → report'.faults ≡ report.faults
  report_faultless (Ok reported) other put = ap (λ (x : Output). x.faults) put
  report_faultless (Err (fail.Refused r)) other put = ap (λ (x : Output). x.faults) put
  report_faultless (Err fail.Output) other put = absurd (other refl)

  -- a cause that decides the outcome's status decides the result, but for a failed put and for memory
  pub reported_of_file : (o : Outcome) → IsReported o report report' result → (wanted : ℕ) → Contains (wanted ∷ instead_for_file) (outcome_status o) → Contains (wanted ∷ instead_for_file) result
  reported_of_file o reports wanted own = is_among o reports (wanted ∷ instead_for_file) own (2, omega arith, refl) (3, omega arith, refl)

  pub reported_of_words : (o : Outcome) → IsReported o report report' result → (wanted : ℕ) → Contains (wanted ∷ instead_for_words) (outcome_status o) → Contains (wanted ∷ instead_for_words) result
  reported_of_words o reports wanted own = is_among o reports (wanted ∷ instead_for_words) own (1, omega arith, refl) (2, omega arith, refl)

-- ---- counts of faults

-- nothing failed, or a read did
abbrev pub FailsSo : Disk → Disk → ℕ → Type 0
FailsSo old new status = HasNoFileFault old new ⊎ (status ≡ READ)

job_fails : (job : FmrunJob) (old new : Disk) (before after : Output) (o : Outcome) → ComesTo job old new before after o → FailsSo old new (outcome_status o)
job_fails job old new before after (Ok reported) comes = inl comes.untouched.faultless
job_fails job old new before after (Err fail.Output) comes = inl comes.untouched.faultless
job_fails job old new before after (Err (fail.Refused (job_refusal.Shared refusal.Words))) comes = absurd comes.0.1
job_fails job old new before after (Err (fail.Refused (job_refusal.Shared (refusal.Read file)))) comes = inr refl
job_fails job old new before after (Err (fail.Refused (job_refusal.Shared refusal.OutOfMemory))) (inl none) = inl none.0.faultless
job_fails job old new before after (Err (fail.Refused (job_refusal.Shared refusal.OutOfMemory))) (inr broken) = inl broken.untouched.faultless
job_fails job old new before after (Err (fail.Refused (job_refusal.TooManyFiles count))) comes = inl (no_fault_where_same old new comes.0.kept)
job_fails job old new before after (Err (fail.Refused (job_refusal.TooManyArguments count))) comes = inl (no_fault_where_same old new comes.0.kept)
job_fails job old new before after (Err (fail.Refused (job_refusal.TooLong file))) ((few, inl long), same) = inl long.untouched.faultless
job_fails job old new before after (Err (fail.Refused (job_refusal.TooLong file))) ((few, inr long), same) = inl long.untouched.faultless
job_fails job old new before after (Err (fail.Refused (job_refusal.Class file r))) comes = inl comes.0.1.untouched.faultless
job_fails job old new before after (Err (fail.Refused (job_refusal.Link link))) comes = inl comes.0.1.1.untouched.faultless
job_fails job old new before after (Err (fail.Refused (job_refusal.Check name))) comes = inl comes.0.1.1.untouched.faultless
job_fails job old new before after (Err (fail.Refused (job_refusal.Write name))) comes = absurd comes.0.1

pub fails_so : (words : List Bytes) (old new : Disk) (before after : Output) (o : Outcome) → ComesOf words old new before after o → FailsSo old new (outcome_status o)
fails_so words old new before after o (inl j) = job_fails j.job old new before after o j.comes
fails_so words old new before after o (inr (inl nothing)) = inl (no_fault_where_same old new nothing.kept)
fails_so words old new before after o (inr (inr lacking)) = inl (no_fault_where_same old new lacking.kept)

-- the faults of the output didn't rise, but where it failed
job_output : (job : FmrunJob) (old new : Disk) (before after : Output) (o : Outcome) → ComesTo job old new before after o → (after.faults ≡ before.faults) ⊎ (o ≡ Err fail.Output)
job_output job old new before after (Ok reported) comes = inl (ap (λ (x : Output). x.faults) comes.runs.put)
job_output job old new before after (Err fail.Output) comes = inr refl
job_output job old new before after (Err (fail.Refused (job_refusal.Shared refusal.OutOfMemory))) (inl none) = inl (ap (λ (x : Output). x.faults) none.1)
job_output job old new before after (Err (fail.Refused (job_refusal.Shared refusal.OutOfMemory))) (inr broken) = inl (ap (λ (x : Output). x.faults) broken.breaks.put)
job_output job old new before after (Err (fail.Refused r)) comes = inl (ap (λ (x : Output). x.faults) comes.1)

pub output_faultless : (words : List Bytes) (old new : Disk) (before after : Output) (o : Outcome) → ComesOf words old new before after o → (after.faults ≡ before.faults) ⊎ (o ≡ Err fail.Output)
output_faultless words old new before after o (inl j) = job_output j.job old new before after o j.comes
output_faultless words old new before after o (inr (inl nothing)) = inl (ap (λ (x : Output). x.faults) nothing.silent)
output_faultless words old new before after o (inr (inr lacking)) = inl (ap (λ (x : Output). x.faults) lacking.silent)
