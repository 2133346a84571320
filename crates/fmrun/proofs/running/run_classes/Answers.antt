use Rattle.std.proofs.lemmas.Result.{err_from_is_err_and}
use Rattle.fm_cli.specs.Encoding.{modified}
use Rattle.fmrun.proofs.RunningLemmas.{are_typed, are_within, can_run, comes_failed, comes_refused, comes_reported}
use Rattle.fmrun.proofs.running.run_classes.Goals as goal

pub program_of-requires-clause-within : goal.program_of-requires-clause-within
program_of-requires-clause-within g c = are_within c.args.classes.items c.requires.accepted

pub returns-in_err-program : goal.returns-in_err-program
returns-in_err-program g c =
    let out = g.O.Sink.output c.args.out.now in
    let handed = err_from_is_err_and c.from_residual.result c.from_residual.ensures.1 in
    rw (handed.1, handed.2)
    (comes_refused c.args.classes.items (modified c.args.main.now) c.args.budgets c.args.arguments.now c.args.input.now out c.in_err-program.field-0.0 c.in_err-program.ensures)

pub run_program-requires-clause-can : goal.run_program-requires-clause-can
run_program-requires-clause-can g c =
    can_run c.args.classes.items (modified c.args.main.now) c.law_can_run.ensures c.in_ok-program.program c.requires.spelled c.requires.accepted c.requires.few_files
    c.in_ok-program.ensures

pub run_program-requires-clause-typed : goal.run_program-requires-clause-typed
run_program-requires-clause-typed g c = are_typed c.args.classes.items (modified c.args.main.now) c.in_ok-program.program c.in_ok-program.ensures

pub returns-in_err-reported : goal.returns-in_err-reported
returns-in_err-reported g c =
    let before = g.O.Sink.output c.args.out.now in
    let later = g.O.Sink.output c.run_program.new.out in
    let handed = err_from_is_err_and c.from_residual-in_err-reported.result c.from_residual-in_err-reported.ensures.1 in
    rw handed.1
    (comes_failed c.args.classes.items (modified c.args.main.now) c.args.budgets c.args.arguments.now c.args.input.now before later c.in_ok-program.program
    c.in_ok-program.ensures c.in_err-reported.field-0.0 handed.0 handed.2 c.in_err-reported.ensures)

pub returns : goal.returns
returns g c =
    let before = g.O.Sink.output c.args.out.now in
    let later = g.O.Sink.output c.run_program.new.out in
    comes_reported c.args.classes.items (modified c.args.main.now) c.args.budgets c.args.arguments.now c.args.input.now before later c.in_ok-program.program
    c.in_ok-program.ensures c.law_linked_no_fault.ensures c.requires.spelled c.requires.accepted c.requires.few_files c.requires.within c.requires.given
    c.in_ok-reported.reported c.in_ok-reported.ensures
