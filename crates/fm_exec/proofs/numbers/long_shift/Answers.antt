use Rattle.std.proofs.Common.{◌≡◌, refl, ap, rules}
use Rattle.fm_exec.proofs.PlainSteps.{gave-wide, stuck-int, stuck-long, with-int, with-long}
use Rattle.fm_exec.proofs.numbers.long_shift.Goals as goal
use Rattle.fm_alu.specs.TwosComplement.{low_bits}
use Rattle.fm_alu.specs.Shifts.{result_of_shift}
use Rattle.fm_frames.proofs.Throwing.{told-ok}
use Rattle.fm_frames.specs.Effects.{long_words, words}
use Rattle.fm_frames.specs.NumberRows.{long_shift_effect}
use Rattle.fm_frames.specs.declared.values.Value.TheVariants as value

pub returns-in_default : goal.returns-in_default
unfolding long_shift_effect
returns-in_default g c =
    stuck-int c.args.program.now g.M.Memory.choose c.args.machine.now c.stuck.new.self 0 _ c.in_default.ensures
    (c.stuck.ensures c.requires.runnable g.M.Memory.choose)

pub returns-in_default-long_operand : goal.returns-in_default-long_operand
unfolding long_shift_effect
returns-in_default-long_operand g c =
    with-int c.args.program.now g.M.Memory.choose c.args.machine.now c.stuck-in_default-long_operand.new.self 0 c.in-Some.n _ _ c.in-Some.ensures refl
    (stuck-long c.args.program.now g.M.Memory.choose c.args.machine.now c.stuck-in_default-long_operand.new.self 2 _ c.in_default-long_operand.ensures
    (c.stuck-in_default-long_operand.ensures c.requires.runnable g.M.Memory.choose))

pub returns : goal.returns
unfolding long_shift_effect
returns g c =
    let told : result_of_shift c.args.shift 64 c.in-Some-long_operand.a (low_bits 6 c.in-Some.n) ≡ c.long_shift.result = search rules in
    told-ok c.give_wide.result _ _
    (λ given.
    with-int c.args.program.now g.M.Memory.choose c.args.machine.now c.give_wide.new.self 0 c.in-Some.n _ _ c.in-Some.ensures refl
    (with-long c.args.program.now g.M.Memory.choose c.args.machine.now c.give_wide.new.self 2 c.in-Some-long_operand.a _ _ c.in-Some-long_operand.ensures
    (ap (λ n. words 3 (long_words n)) told) given))
    (gave-wide c.give_wide.result c.args.program.now g.M.Memory.choose c.args.machine.now c.give_wide.new.self 3 (value.Long c.long_shift.result) _ (search rules)
    c.give_wide.ensures)
