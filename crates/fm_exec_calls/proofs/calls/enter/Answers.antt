use Rattle.std.proofs.Common.{sym, ◌∙◌}
use Rattle.fm_exec_calls.proofs.BuiltInStarts.{row-known}
use Rattle.fm_exec_calls.proofs.CallSteps.{called-steps, native-fails, native-steps}
use Rattle.fm_exec_calls.proofs.calls.enter.Goals as goal
use Rattle.fm_native.proofs.Prints.{error-kept}

pub returns-in-Ok-clause-told : goal.returns-in-Ok-clause-told
returns-in-Ok-clause-told g c =
    let p = c.args.program.now in
    let is = sym c.row_of.ensures ∙ c.in-Some.is in
    let known = row-known p c.args.target.0 c.in-Some.row c.requires.can.runnable c.requires.rows is in
    native-steps p g.M.Memory.choose c.args.machine.now c.native.new.machine (g.S.Sink.output c.args.out.now) (g.S.Sink.output c.native.new.out)
    c.args.words c.args.target.0 c.in-Some.row known.0 is known.1 (c.in-Ok.ensures.told known.0 known.1)

pub returns-in-Err-clause-failed : goal.returns-in-Err-clause-failed
returns-in-Err-clause-failed g c failed =
    let p = c.args.program.now in
    let is = sym c.row_of.ensures ∙ c.in-Some.is in
    let known = row-known p c.args.target.0 c.in-Some.row c.requires.can.runnable c.requires.rows is in
    native-fails p g.M.Memory.choose c.args.machine.now (g.S.Sink.output c.args.out.now) (g.S.Sink.output c.native.new.out)
    c.args.words c.args.target.0 c.in-Some.row known.0 is known.1 (c.in-Err.ensures.failed (error-kept c.in-Err.fail _ failed) known.0 known.1)

pub returns-in-Ok-call-clause-told : goal.returns-in-Ok-call-clause-told
returns-in-Ok-call-clause-told g c =
    called-steps c.args.program.now g.M.Memory.choose c.args.machine.now c.call.new.self (g.S.Sink.output c.args.out.now) c.args.words c.args.target.0
    (sym c.row_of.ensures ∙ c.in-None.is) c.in-Ok-call.ensures
