use Rattle.std.proofs.Common.{◌≡◌, codes, None, Some, rules}
use Rattle.fm_alu.specs.Operations.{result_of_op}
use Rattle.fm_exec.proofs.Exceptions.{arithmetic-is}
use Rattle.fm_exec.proofs.NumberSteps.{int_op-both, int_op-first, int_op-second, int_op_result}
use Rattle.fm_exec.proofs.Seen.{carried}
use Rattle.fm_exec.proofs.numbers.int_op.Goals as goal
use Rattle.fm_exec.specs.Steps.{seen}
use Rattle.fm_frames.proofs.Throwing.{told-ok}
use Rattle.fm_frames.specs.Effects.{Plain, stuck}
use Rattle.fm_frames.specs.NumberRows.{int_op_effect}
use Rattle.fm_frames.specs.Steps.{stack_of}
use Rattle.fm_frames.specs.declared.values.Value.TheVariants as value

pub returns-in_default : goal.returns-in_default
returns-in_default g c =
    let o = c.args.program.now.outline in
    let x = c.args.machine.now in
    carried c.args.program.now g.M.Memory.choose x c.stuck.new.self (int_op_effect o c.args.op (seen c.args.program.now x)) stuck
    (int_op-first o c.args.op x.areas.store (stack_of x) c.in_default.ensures) (c.stuck.ensures c.requires.runnable g.M.Memory.choose)

pub returns-in_default-int_operand : goal.returns-in_default-int_operand
returns-in_default-int_operand g c =
    let o = c.args.program.now.outline in
    let x = c.args.machine.now in
    carried c.args.program.now g.M.Memory.choose x c.stuck-in_default-int_operand.new.self (int_op_effect o c.args.op (seen c.args.program.now x)) stuck
    (int_op-second o c.args.op x.areas.store (stack_of x) c.in-Some.b c.in-Some.ensures c.in_default-int_operand.ensures)
    (c.stuck-in_default-int_operand.ensures c.requires.runnable g.M.Memory.choose)

pub returns-in-Some-int_op : goal.returns-in-Some-int_op
returns-in-Some-int_op g c =
    let o = c.args.program.now.outline in
    let x = c.args.machine.now in
    let told : result_of_op c.args.op 32 c.in-Some-int_operand.a c.in-Some.b ≡ Some c.in-Some-int_op.n = search rules in
    told-ok c.give.result _ _
    (λ given.
    carried c.args.program.now g.M.Memory.choose x c.give.new.self (int_op_effect o c.args.op (seen c.args.program.now x))
    (int_op_result o (Some c.in-Some-int_op.n))
    (int_op-both o c.args.op x.areas.store (stack_of x) c.in-Some.b c.in-Some-int_operand.a (Some c.in-Some-int_op.n) c.in-Some.ensures
    c.in-Some-int_operand.ensures told)
    (given (Plain (value.Int c.in-Some-int_op.n)) (search rules) c.args.program.now g.M.Memory.choose))
    c.give.ensures

pub returns-in-None : goal.returns-in-None
returns-in-None g c =
    let o = c.args.program.now.outline in
    let x = c.args.machine.now in
    let told : result_of_op c.args.op 32 c.in-Some-int_operand.a c.in-Some.b ≡ None = search rules in
    told-ok c.throw_new.result _ _
    (λ thrown.
    carried c.args.program.now g.M.Memory.choose x c.throw_new.new.self (int_op_effect o c.args.op (seen c.args.program.now x))
    (int_op_result o None)
    (int_op-both o c.args.op x.areas.store (stack_of x) c.in-Some.b c.in-Some-int_operand.a None c.in-Some.ensures
    c.in-Some-int_operand.ensures told)
    (thrown (codes "java/lang/ArithmeticException") (arithmetic-is c.args.program.now c.requires.runnable)))
    c.throw_new.ensures
