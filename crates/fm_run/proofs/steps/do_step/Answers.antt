use Rattle.fm_native.proofs.Prints.{error-kept}
use Rattle.fm_run.proofs.Counting.{step-does, step-fails}
use Rattle.fm_run.proofs.Steadying.{stepped-is}
use Rattle.fm_run.proofs.steps.do_step.Goals as goal

pub returns-in-Ok-clause-does : goal.returns-in-Ok-clause-does
returns-in-Ok-clause-does g c =
    step-does c.args.program.now g.M.Memory.choose c.args.machine.now c.do_insn.new.machine (g.S.Sink.output c.args.out.now) (g.S.Sink.output c.do_insn.new.out)
    c.requires.going.goes c.in-Ok.ensures.told

pub returns-in-Ok-clause-stepped : goal.returns-in-Ok-clause-stepped
returns-in-Ok-clause-stepped g c =
    let out = g.S.Sink.output c.args.out.now in
    let new = g.S.Sink.output c.do_insn.new.out in
    stepped-is c.args.program.now g.M.Memory.choose c.args.machine.now c.do_insn.new.machine out new c.requires.run c.requires.going
    (step-does c.args.program.now g.M.Memory.choose c.args.machine.now c.do_insn.new.machine out new c.requires.going.goes c.in-Ok.ensures.told)
    c.births-births.ensures.lawful c.births-births.ensures.sound

pub returns-in-Err-clause-failed : goal.returns-in-Err-clause-failed
returns-in-Err-clause-failed g c failed =
    step-fails c.args.program.now g.M.Memory.choose c.args.machine.now (g.S.Sink.output c.args.out.now) (g.S.Sink.output c.do_insn.new.out)
    c.requires.going.goes (c.in-Err.ensures.failed (error-kept c.in-Err.fail _ failed))
