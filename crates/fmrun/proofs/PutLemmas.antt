-- What a run prints and the line of each outcome have bytes, so a call puts no empty piece.
use Rattle.std.proofs.Common.{◌≡◌, ◌<◌, ℕ, zero, suc, inl, inr, ⊎_elim, List, [], ◌∷◌, ◌++◌, length, length-append, Ok, Err, string_bytes, sym, subst, arith}
use Rattle.std.specs.List.{AllByRecursion}
use Rattle.fm_base.proofs.ListFacts.{AllByRecursion-append}
use Rattle.fm_cli.proofs.LineLemmas.{line_once}
use Rattle.fm_cli.specs.declared.command_refusal.CommandRefusal.TheVariants as refusal
use Rattle.fm_cli_requests.specs.FmrunRequest.{FmrunJob}
use Rattle.fm_files.proofs.SinkLemmas.{at_most_one}
use Rattle.fm_files.specs.Files.{Bytes, Disk}
use Rattle.fm_files.specs.Sink.{GetsAtMostOne, GetsPieces, Output}
use Rattle.fm_frames.specs.Acts.{Choose}
use Rattle.fm_frames.specs.Reports.{report_of}
use Rattle.fm_frames.specs.States.{State}
use Rattle.fm_frames.specs.declared.report.Report.{Report}
use Rattle.fm_load.proofs.RefusalLemmas.{refusal_some}
use Rattle.fm_load.specs.ProgramCalls.{ProgramCall}
use Rattle.fm_load.specs.Refusal.{refusal_line, refusal_status}
use Rattle.fm_load.specs.declared.refusal.JobRefusal.TheVariants as job_refusal
use Rattle.fm_run.specs.Running.{BreaksRun, FailsRun, RunsTo, piece_of, pieces_of, printed_at}
use Rattle.fm_run_job.specs.Reports.{end_text, report_line}
use Rattle.fm_world.specs.Programs.{Program}
use Rattle.fmrun.specs.Causes.{PutsPieces}
use Rattle.fmrun.specs.Jobs.{job_program}
use Rattle.fmrun.specs.TopCall.{ComesOf, ComesTo, HasRun, IsReported, Outcome}
use Rattle.fmrun.specs.declared.outcome.JobFail.TheVariants as fail

-- ---- the output

piece_some : (printed : List ℕ) → AllByRecursion (λ piece. 0 < length piece) (piece_of printed)
piece_some [] = tt
piece_some (byte ∷ bytes) = (omega arith, tt)

-- each piece of a run has bytes
pieces_some : (p : Program) (choose : Choose) (x : State) (count : ℕ) → AllByRecursion (λ piece. 0 < length piece) (pieces_of p choose x count)
pieces_some p choose x zero = tt
pieces_some p choose x (suc count) =
    AllByRecursion-append (λ piece. 0 < length piece) (pieces_of p choose x count) (piece_of (printed_at p choose count x)) (pieces_some p choose x count)
    (piece_some (printed_at p choose count x))

module _ (p : Program) (choose : Choose) (budget : ℕ) (x : State) (before after : Output) where
  run_gets : (y : State) → RunsTo p choose budget x y before after → GetsPieces before after
  run_gets y runs = record { pieces = pieces_of p choose x runs.run.count; some = pieces_some p choose x runs.run.count; last = inl runs.put }

  failed_gets : FailsRun p choose budget x before after → GetsPieces before after
  failed_gets fails = record {
    pieces = pieces_of p choose x fails.count;
    some = pieces_some p choose x fails.count;
    last = inr (printed_at p choose fails.count x, fails.fails);
  }

  broken_gets : BreaksRun p choose budget x before after → GetsPieces before after
  broken_gets breaks = record { pieces = pieces_of p choose x breaks.count; some = pieces_some p choose x breaks.count; last = inl breaks.put }

kept_gets : (before after : Output) → after ≡ before → GetsPieces before after
kept_gets before after same = at_most_one before after (inl same)

job_gets : (job : FmrunJob) (old new : Disk) (before after : Output) (o : Outcome) → ComesTo job old new before after o → GetsPieces before after
job_gets job old new before after (Ok reported) comes = run_gets _ _ _ _ before after comes.last comes.runs
job_gets job old new before after (Err fail.Output) comes = failed_gets _ _ _ _ before after comes.fails
job_gets job old new before after (Err (fail.Refused (job_refusal.Shared refusal.OutOfMemory))) comes =
    ⊎_elim (λ kept. kept_gets before after kept.1) (λ broken. broken_gets _ _ _ _ before after broken.breaks) comes
job_gets job old new before after (Err (fail.Refused r)) comes = kept_gets before after comes.1

words_get : (words : List Bytes) (old new : Disk) (before after : Output) (o : Outcome) → ComesOf words old new before after o → GetsPieces before after
words_get words old new before after o (inl j) = job_gets j.job old new before after o j.comes
words_get words old new before after o (inr (inl nothing)) = kept_gets before after nothing.silent
words_get words old new before after o (inr (inr lacking)) = kept_gets before after lacking.silent

-- ---- the report

report_some : (p : Program) (r : Report) → 0 < length (report_line p r)
report_some p r = go (end_text p r.end) _ (omega arith) where
  go : (s t : List ℕ) → 0 < length t → 0 < length (s ++ t)
  go s t some = omega (arith, length-append s t)

run_some : (job : FmrunJob) (line : List ℕ) (status : ℕ) (old new : Disk) (before after : Output) → HasRun job line status old new before after → 0 < length line
run_some job line status old new before after ran = let P : List ℕ → Type 0 = λ l. 0 < length l in subst P (sym ran.line_is) (report_some (job_program job ran.classes) (report_of ran.last))

report_gets : {words : List Bytes} {old new : Disk} {before after : Output} (report report' : Output) (result : ℕ) (o : Outcome) → ComesOf words old new before after o
    → IsReported o report report' result → GetsAtMostOne report report'
report_gets {words} {old} {new} {before} {after} report report' result (Ok reported) (inl j) reports =
    line_once (string_bytes reported.line) reported.status report report' result reports
    (run_some j.job (string_bytes reported.line) reported.status old new before after j.comes)
report_gets report report' result (Ok reported) (inr (inl nothing)) reports = absurd (let other = nothing.refused in cc)
report_gets report report' result (Ok reported) (inr (inr lacking)) reports = absurd (let other = lacking.refused in cc)
report_gets report report' result (Err (fail.Refused r)) comes reports =
    line_once (refusal_line r) (refusal_status r) report report' result reports (refusal_some r)
report_gets report report' result (Err fail.Output) comes reports = inl reports.1

pub puts_pieces : (call : ProgramCall) (o : Outcome) → ComesOf call.words call.old call.new call.before call.after o
    → IsReported o call.report call.reported call.status → PutsPieces call
puts_pieces call o comes reports =
    (words_get call.words call.old call.new call.before call.after o comes, report_gets call.report call.reported call.status o comes reports)
