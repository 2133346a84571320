use Rattle.std.proofs.Common.{◌≡◌, pos, ◌-ℤ◌, ap, rules}
use Rattle.fm_exec.proofs.PlainSteps.{gave, stuck-int, with-int}
use Rattle.fm_exec.proofs.numbers.int_negate.Goals as goal
use Rattle.fm_alu.specs.TwosComplement.{signed}
use Rattle.fm_frames.proofs.Throwing.{told-ok}
use Rattle.fm_frames.specs.Effects.{int_word, words}
use Rattle.fm_frames.specs.NumberRows.{int_negate_effect}
use Rattle.fm_frames.specs.declared.values.Value.TheVariants as value

pub returns-in_default : goal.returns-in_default
unfolding int_negate_effect
returns-in_default g c =
    stuck-int c.args.program.now g.M.Memory.choose c.args.machine.now c.stuck.new.self 0 _ c.in_default.ensures
    (c.stuck.ensures c.requires.runnable g.M.Memory.choose)

pub returns : goal.returns
unfolding int_negate_effect
returns g c =
    let told : signed 32 (pos 0 -ℤ c.in-Some.a) ≡ c.negated_int.result = search rules in
    told-ok c.give.result _ _
    (with-int c.args.program.now g.M.Memory.choose c.args.machine.now c.give.new.self 0 c.in-Some.a _ _ c.in-Some.ensures
    (ap (λ n. words 1 (int_word n)) told))
    (gave c.give.result c.args.program.now g.M.Memory.choose c.args.machine.now c.give.new.self 1 (value.Int c.negated_int.result) _ (search rules)
    c.give.ensures)
