use Rattle.std.proofs.Common.{◌≡◌, refl, ap, rules}
use Rattle.fm_exec.proofs.PlainSteps.{gave, stuck-long, with-long}
use Rattle.fm_exec.proofs.numbers.long_compare.Goals as goal
use Rattle.fm_alu.specs.Conversions.{result_of_comparison}
use Rattle.fm_frames.proofs.Throwing.{told-ok}
use Rattle.fm_frames.specs.Effects.{int_word, words}
use Rattle.fm_frames.specs.NumberRows.{compare_effect}
use Rattle.fm_frames.specs.declared.values.Value.TheVariants as value

pub returns-in_default : goal.returns-in_default
unfolding compare_effect
returns-in_default g c =
    stuck-long c.args.program.now g.M.Memory.choose c.args.machine.now c.stuck.new.self 1 _ c.in_default.ensures
    (c.stuck.ensures c.requires.runnable g.M.Memory.choose)

pub returns-in_default-long_operand : goal.returns-in_default-long_operand
unfolding compare_effect
returns-in_default-long_operand g c =
    with-long c.args.program.now g.M.Memory.choose c.args.machine.now c.stuck-in_default-long_operand.new.self 1 c.in-Some.b _ _ c.in-Some.ensures refl
    (stuck-long c.args.program.now g.M.Memory.choose c.args.machine.now c.stuck-in_default-long_operand.new.self 3 _ c.in_default-long_operand.ensures
    (c.stuck-in_default-long_operand.ensures c.requires.runnable g.M.Memory.choose))

pub returns : goal.returns
unfolding compare_effect
returns g c =
    let told : result_of_comparison c.in-Some-long_operand.a c.in-Some.b ≡ c.compare.result = search rules in
    told-ok c.give.result _ _
    (λ given.
    with-long c.args.program.now g.M.Memory.choose c.args.machine.now c.give.new.self 1 c.in-Some.b _ _ c.in-Some.ensures refl
    (with-long c.args.program.now g.M.Memory.choose c.args.machine.now c.give.new.self 3 c.in-Some-long_operand.a _ _ c.in-Some-long_operand.ensures
    (ap (λ n. words 4 (int_word n)) told) given))
    (gave c.give.result c.args.program.now g.M.Memory.choose c.args.machine.now c.give.new.self 4 (value.Int c.compare.result) _ (search rules)
    c.give.ensures)
