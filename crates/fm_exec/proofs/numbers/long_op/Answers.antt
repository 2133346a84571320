use Rattle.std.proofs.Common.{◌≡◌, codes, None, Some, refl, ap, rules}
use Rattle.fm_alu.specs.Operations.{result_of_op}
use Rattle.fm_exec.proofs.Exceptions.{arithmetic-is}
use Rattle.fm_exec.proofs.PlainSteps.{gave-wide, stuck-long, with-long}
use Rattle.fm_exec.proofs.numbers.long_op.Goals as goal
use Rattle.fm_frames.proofs.Throwing.{told-ok}
use Rattle.fm_frames.specs.Effects.{long_words, words}
use Rattle.fm_frames.specs.NumberRows.{long_op_effect}
use Rattle.fm_frames.specs.Operands.{or_thrown}
use Rattle.fm_frames.specs.declared.values.Value.TheVariants as value

pub returns-in_default : goal.returns-in_default
unfolding long_op_effect
returns-in_default g c =
    stuck-long c.args.program.now g.M.Memory.choose c.args.machine.now c.stuck.new.self 1 _ c.in_default.ensures
    (c.stuck.ensures c.requires.runnable g.M.Memory.choose)

pub returns-in_default-long_operand : goal.returns-in_default-long_operand
unfolding long_op_effect
returns-in_default-long_operand g c =
    let p = c.args.program.now in
    let x = c.args.machine.now in
    let y = c.stuck-in_default-long_operand.new.self in
    with-long p g.M.Memory.choose x y 1 c.in-Some.b _ _ c.in-Some.ensures refl
    (stuck-long p g.M.Memory.choose x y 3 _ c.in_default-long_operand.ensures
    (c.stuck-in_default-long_operand.ensures c.requires.runnable g.M.Memory.choose))

pub returns-in-Some-long_op : goal.returns-in-Some-long_op
unfolding long_op_effect
returns-in-Some-long_op g c =
    let p = c.args.program.now in
    let x = c.args.machine.now in
    let y = c.give_wide.new.self in
    let told : result_of_op c.args.op 64 c.in-Some-long_operand.a c.in-Some.b ≡ Some c.in-Some-long_op.n = search rules in
    told-ok c.give_wide.result _ _
    (λ given.
    with-long p g.M.Memory.choose x y 1 c.in-Some.b _ _ c.in-Some.ensures refl
    (with-long p g.M.Memory.choose x y 3 c.in-Some-long_operand.a _ _ c.in-Some-long_operand.ensures
    (ap (λ r. or_thrown p.outline r (λ n. words 4 (long_words n))) told) given))
    (gave-wide c.give_wide.result p g.M.Memory.choose x y 4 (value.Long c.in-Some-long_op.n) _ (search rules)
    c.give_wide.ensures)

pub returns-in-None : goal.returns-in-None
unfolding long_op_effect
returns-in-None g c =
    let p = c.args.program.now in
    let x = c.args.machine.now in
    let y = c.throw_new.new.self in
    let told : result_of_op c.args.op 64 c.in-Some-long_operand.a c.in-Some.b ≡ None = search rules in
    told-ok c.throw_new.result _ _
    (λ thrown.
    with-long p g.M.Memory.choose x y 1 c.in-Some.b _ _ c.in-Some.ensures refl
    (with-long p g.M.Memory.choose x y 3 c.in-Some-long_operand.a _ _ c.in-Some-long_operand.ensures
    (ap (λ r. or_thrown p.outline r (λ n. words 4 (long_words n))) told)
    (thrown (codes "java/lang/ArithmeticException") (arithmetic-is p c.requires.runnable))))
    c.throw_new.ensures
