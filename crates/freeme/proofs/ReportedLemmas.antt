-- What is reported of an outcome: its lines are put into the output, or those of a refusal into the report, and the other sink is as it was.
use Rattle.std.proofs.Common.{◌≡◌, ◌≢◌, ◌<◌, ◌⊎◌, ℕ, inl, inr, List, Ok, Err, string_bytes, ap, arith}
use Rattle.fm_files.specs.Sink.{Output, FailsPut, with_piece}
use Rattle.fm_cli.proofs.LineLemmas.{put_fails}
use Rattle.fm_cli.specs.Line.{Tells}
use Rattle.fm_cli.specs.declared.status.TheConstants.{DONE, WRITE, OUT_OF_MEMORY}
use Rattle.fm_load.specs.ProgramCalls.{IsRefusedBy, ProgramCall}
use Rattle.freeme.specs.Refusal.{refusal_line, refusal_status}
use Rattle.freeme.specs.TopCall.{IsUnreported, Outcome, Reports}

-- the lines of an outcome
abbrev pub outcome_line : Outcome → List ℕ
outcome_line (Ok lines) = string_bytes lines
outcome_line (Err refusal) = refusal_line refusal

-- its status
abbrev pub outcome_status : Outcome → ℕ
outcome_status (Ok lines) = DONE
outcome_status (Err refusal) = refusal_status refusal

-- the sink that its lines are put into: the output, or of a refusal the report
abbrev pub own_sink : Outcome → Output → Output → Output
own_sink (Ok lines) output report = output
own_sink (Err refusal) output report = report

-- the lines were put there, and the other sink is as it was
abbrev pub IsLinePut : Outcome → ProgramCall → Type 0
IsLinePut (Ok lines) call = (call.after ≡ with_piece (string_bytes lines) call.before) × (call.reported ≡ call.report)
IsLinePut (Err refusal) call = IsRefusedBy (refusal_line refusal) call

module _ (call : ProgramCall) where
  -- and so no put failed
  pub line_faultless : (o : Outcome) → IsLinePut o call → (call.after.faults ≡ call.before.faults) × (call.reported.faults ≡ call.report.faults)
  line_faultless (Ok lines) put = (ap (λ (x : Output). x.faults) put.0, ap (λ (x : Output). x.faults) put.1)
  line_faultless (Err refusal) put = (ap (λ (x : Output). x.faults) put.silent, ap (λ (x : Output). x.faults) put.reported)

  -- the sink of an outcome's lines, before the call and after it
  abbrev pub own_before : Outcome → Output
  own_before o = own_sink o call.before call.report

  abbrev pub own_after : Outcome → Output
  own_after o = own_sink o call.after call.reported

  -- its own sink got its lines, or the put failed, or memory was lacking
  pub own_reports : (o : Outcome) → Reports o call → Tells (outcome_line o) (outcome_status o) (own_before o) (own_after o) call.status
  own_reports (Ok lines) reports = reports.0
  own_reports (Err refusal) reports = reports.0

  pub line_put : (o : Outcome) → Reports o call → own_after o ≡ with_piece (outcome_line o) (own_before o) → IsLinePut o call
  line_put (Ok lines) reports put = (put, reports.1)
  line_put (Err refusal) reports put = record { silent = reports.1; reported = put }

  pub is_unreported : (o : Outcome) → Reports o call → FailsPut (outcome_line o) (own_before o) (own_after o) → IsUnreported o call
  is_unreported (Ok lines) reports fails = (fails, reports.1)
  is_unreported (Err refusal) reports fails = (fails, reports.1)

  pub both_kept : (o : Outcome) → Reports o call → own_after o ≡ own_before o → (call.after ≡ call.before) × (call.reported ≡ call.report)
  both_kept (Ok lines) reports kept = (kept, reports.1)
  both_kept (Err refusal) reports kept = (reports.1, kept)

  -- where the faults of a sink rose the put failed
  pub put_failed : (o : Outcome) → Reports o call → (call.before.faults < call.after.faults) ⊎ (call.report.faults < call.reported.faults) → call.status ≡ WRITE
  put_failed (Ok lines) reports (inl rose) = put_fails (string_bytes lines) DONE call.before call.after call.status reports.0 rose
  put_failed (Ok lines) reports (inr rose) = absurd (let same = ap (λ (x : Output). x.faults) reports.1 in omega arith)
  put_failed (Err refusal) reports (inl rose) = absurd (let same = ap (λ (x : Output). x.faults) reports.1 in omega arith)
  put_failed (Err refusal) reports (inr rose) = put_fails (refusal_line refusal) (refusal_status refusal) call.report call.reported call.status reports.0 rose

  -- at a status of a refusal the output is as it was
  pub reported_silent : (o : Outcome) → Reports o call → call.status ≢ DONE → call.status ≢ WRITE → call.status ≢ OUT_OF_MEMORY → call.after ≡ call.before
  reported_silent (Err refusal) reports done write memory = reports.1
  reported_silent (Ok lines) reports done write memory = absurd (go reports.0) where
    go : Tells (string_bytes lines) DONE call.before call.after call.status → ⊥
    go (inl own) = done own.0
    go (inr (inl failed)) = write failed.0
    go (inr (inr lacking)) = memory lacking.0
