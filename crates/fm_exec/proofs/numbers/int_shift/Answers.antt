use Rattle.std.proofs.Common.{◌≡◌, refl, ap, rules}
use Rattle.fm_exec.proofs.PlainSteps.{gave, stuck-int, with-int}
use Rattle.fm_exec.proofs.numbers.int_shift.Goals as goal
use Rattle.fm_alu.specs.TwosComplement.{low_bits}
use Rattle.fm_alu.specs.Shifts.{result_of_shift}
use Rattle.fm_frames.proofs.Throwing.{told-ok}
use Rattle.fm_frames.specs.Effects.{int_word, words}
use Rattle.fm_frames.specs.NumberRows.{int_shift_effect}
use Rattle.fm_frames.specs.declared.values.Value.TheVariants as value

pub returns-in_default : goal.returns-in_default
unfolding int_shift_effect
returns-in_default g c =
    stuck-int c.args.program.now g.M.Memory.choose c.args.machine.now c.stuck.new.self 0 _ c.in_default.ensures
    (c.stuck.ensures c.requires.runnable g.M.Memory.choose)

pub returns-in_default-int_operand : goal.returns-in_default-int_operand
unfolding int_shift_effect
returns-in_default-int_operand g c =
    with-int c.args.program.now g.M.Memory.choose c.args.machine.now c.stuck-in_default-int_operand.new.self 0 c.in-Some.n _ _ c.in-Some.ensures refl
    (stuck-int c.args.program.now g.M.Memory.choose c.args.machine.now c.stuck-in_default-int_operand.new.self 1 _ c.in_default-int_operand.ensures
    (c.stuck-in_default-int_operand.ensures c.requires.runnable g.M.Memory.choose))

pub returns : goal.returns
unfolding int_shift_effect
returns g c =
    let told : result_of_shift c.args.shift 32 c.in-Some-int_operand.a (low_bits 5 c.in-Some.n) ≡ c.int_shift.result = search rules in
    told-ok c.give.result _ _
    (λ given.
    with-int c.args.program.now g.M.Memory.choose c.args.machine.now c.give.new.self 0 c.in-Some.n _ _ c.in-Some.ensures refl
    (with-int c.args.program.now g.M.Memory.choose c.args.machine.now c.give.new.self 1 c.in-Some-int_operand.a _ _ c.in-Some-int_operand.ensures
    (ap (λ n. words 2 (int_word n)) told) given))
    (gave c.give.result c.args.program.now g.M.Memory.choose c.args.machine.now c.give.new.self 2 (value.Int c.int_shift.result) _ (search rules)
    c.give.ensures)
