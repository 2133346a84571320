use Rattle.std.proofs.Common.{true, IfOk, sym, subst}
use Rattle.fm_exec_calls.proofs.ActSteps.{literal-acts, number-acts, started-acts}
use Rattle.fm_exec_calls.proofs.acts.act.Goals as goal
use Rattle.fm_exec_calls.specs.inner.Actions.{Acts}
use Rattle.fm_frames.specs.inner.StartActions.{action_of}

pub returns-in-Start : goal.returns-in-Start
returns-in-Start g c =
    subst (λ a. Acts c.args.program.now g.M.Memory.choose c.args.machine.now c.mark_started.new.self (action_of a) true) (sym c.in-Start.is)
    (started-acts c.args.program.now g.M.Memory.choose c.args.machine.now c.mark_started.new.self c.in-Start.class.0 c.mark_started.ensures)

pub returns-in-MakeLiteral : goal.returns-in-MakeLiteral
returns-in-MakeLiteral g c =
    subst (λ a. IfOk c.make_literal.result (λ goes. Acts c.args.program.now g.M.Memory.choose c.args.machine.now c.make_literal.new.machine (action_of a) goes))
    (sym c.in-MakeLiteral.is) c.make_literal.ensures

pub returns-in-SetNumber : goal.returns-in-SetNumber
returns-in-SetNumber g c =
    subst (λ a. Acts c.args.program.now g.M.Memory.choose c.args.machine.now c.set_static.new.self (action_of a) true) (sym c.in-SetNumber.is)
    (number-acts c.args.program.now g.M.Memory.choose c.args.machine.now c.set_static.new.self c.in-SetNumber.slot c.in-SetNumber.kind c.in-SetNumber.value
    c.set_static.ensures)

pub returns-in-SetLiteral : goal.returns-in-SetLiteral
returns-in-SetLiteral g c =
    subst (λ a. Acts c.args.program.now g.M.Memory.choose c.args.machine.now c.set_static-in-SetLiteral.new.self (action_of a) true) (sym c.in-SetLiteral.is)
    (literal-acts c.args.program.now g.M.Memory.choose c.args.machine.now c.set_static-in-SetLiteral.new.self c.in-SetLiteral.slot c.in-SetLiteral.kind
    c.in-SetLiteral.text c.literal_at-literal.result c.literal_at-literal.ensures c.set_static-in-SetLiteral.ensures)
