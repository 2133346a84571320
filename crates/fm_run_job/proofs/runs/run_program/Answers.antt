use Rattle.std.proofs.Common.{◌≡◌, ◌∙◌, Err, refl, sym, ap, subst}
use Rattle.std.proofs.lemmas.Result.{err_from_is_err_and}
use Rattle.fm_cells.specs.Soundness.{CellsFit}
use Rattle.fm_frames.specs.Runs.{opening}
use Rattle.fm_frames.specs.States.{State}
use Rattle.fm_frames.specs.declared.report.Report.{Report}
use Rattle.fm_frames.specs.declared.turns.StepFail.TheVariants as fail
use Rattle.fm_law_can_step.proofs.Constants.{start_fits}
use Rattle.fm_run_job.specs.Reports.{end_status, IsEndIn, report_line}
use Rattle.fm_run.specs.Running.{CanGo, RunsTo}
use Rattle.fm_run_job.proofs.Opened.{end_reported, ends-breaks, job_of, none-breaks, opened_goes}
use Rattle.fm_run_job.specs.Runs.{choice, ComesOfRun, opened_run}
use Rattle.fm_run_job.proofs.runs.run_program.Goals as goal

pub open-requires-clause-starts_fit : goal.open-requires-clause-starts_fit
open-requires-clause-starts_fit g c = start_fits c.args.program.now c.requires.can

pub returns-in_err-machine : goal.returns-in_err-machine
returns-in_err-machine g c =
    let p = c.args.program.now in
    let b = c.args.budgets in
    let out = g.O.Sink.output c.args.out.now in
    let handed = err_from_is_err_and c.from_residual.result c.from_residual.ensures.1 in
    let is : c.from_residual.result ≡ Err fail.NoMemory = handed.1 ∙ ap Err handed.2 in
    subst (ComesOfRun p b c.args.arguments.now c.args.input.now out out) (sym is)
    (none-breaks p b (opened_run p b c.args.arguments.now c.args.input.now) out out refl)

pub run-requires-clause-going : goal.run-requires-clause-going
run-requires-clause-going g c =
    let p = c.args.program.now in
    let b = c.args.budgets in
    let is : c.in_ok-machine.machine ≡ opened_run p b c.args.arguments.now c.args.input.now =
    c.in_ok-machine.ensures ∙ ap (λ s. (opening p choice (job_of b c.args.arguments.now c.args.input.now) s).state) c.new-memory.ensures in
    subst (CanGo p b.steps) (sym is)
    (opened_goes p b c.args.arguments.now c.args.input.now c.births-births.ensures.lawful c.requires.can c.requires.typed c.requires.within c.requires.few
    c.requires.given (subst (λ (x : State). CellsFit x.areas.store) is c.births-births.ensures.sound.cells_fit))

pub report_line-requires : goal.report_line-requires
report_line-requires g c =
    let p = c.args.program.now in
    let b = c.args.budgets in
    let before = g.O.Sink.output c.args.out.now in
    let later = g.O.Sink.output c.run.new.out in
    let is : c.in_ok-machine.machine ≡ opened_run p b c.args.arguments.now c.args.input.now =
    c.in_ok-machine.ensures ∙ ap (λ s. (opening p choice (job_of b c.args.arguments.now c.args.input.now) s).state) c.new-memory.ensures in
    subst (λ (r : Report). IsEndIn p r.end) (sym c.in_ok-report.ensures.report)
    (end_reported p b c.args.arguments.now c.args.input.now c.requires.can c.requires.typed c.requires.within c.requires.given c.run.new.machine before
    later (subst (λ x. RunsTo p choice b.steps x c.run.new.machine before later) is c.in_ok-report.ensures.runs))

pub returns-in_err-line : goal.returns-in_err-line
returns-in_err-line g c =
    let p = c.args.program.now in
    let b = c.args.budgets in
    let before = g.O.Sink.output c.args.out.now in
    let later = g.O.Sink.output c.run.new.out in
    let x = opened_run p b c.args.arguments.now c.args.input.now in
    let first : c.in_ok-machine.machine ≡ x =
    c.in_ok-machine.ensures ∙ ap (λ s. (opening p choice (job_of b c.args.arguments.now c.args.input.now) s).state) c.new-memory.ensures in
    let handed = err_from_is_err_and c.from_residual-in_err-line.result c.from_residual-in_err-line.ensures.1 in
    let is : c.from_residual-in_err-line.result ≡ Err fail.NoMemory = handed.1 ∙ ap Err handed.2 in
    subst (ComesOfRun p b c.args.arguments.now c.args.input.now before later) (sym is)
    (ends-breaks p b x c.run.new.machine before later (subst (λ y. RunsTo p choice b.steps y c.run.new.machine before later) first c.in_ok-report.ensures.runs))

pub returns : goal.returns
returns g c =
    let p = c.args.program.now in
    let b = c.args.budgets in
    let before = g.O.Sink.output c.args.out.now in
    let later = g.O.Sink.output c.run.new.out in
    let is : c.in_ok-machine.machine ≡ opened_run p b c.args.arguments.now c.args.input.now =
    c.in_ok-machine.ensures ∙ ap (λ s. (opening p choice (job_of b c.args.arguments.now c.args.input.now) s).state) c.new-memory.ensures in
    record {
      last = c.run.new.machine;
      runs = subst (λ x. RunsTo p choice b.steps x c.run.new.machine before later) is c.in_ok-report.ensures.runs;
      line_is = c.in_ok-line.ensures ∙ ap (report_line p) c.in_ok-report.ensures.report;
      status_is = c.end_status.ensures ∙ ap (λ (r : Report). end_status r.end) c.in_ok-report.ensures.report;
    }
