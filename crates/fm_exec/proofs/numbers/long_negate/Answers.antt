use Rattle.std.proofs.Common.{◌≡◌, pos, ◌-ℤ◌, ap, rules}
use Rattle.fm_exec.proofs.PlainSteps.{gave-wide, stuck-long, with-long}
use Rattle.fm_exec.proofs.numbers.long_negate.Goals as goal
use Rattle.fm_alu.specs.TwosComplement.{signed}
use Rattle.fm_frames.proofs.Throwing.{told-ok}
use Rattle.fm_frames.specs.Effects.{long_words, words}
use Rattle.fm_frames.specs.NumberRows.{long_negate_effect}
use Rattle.fm_frames.specs.declared.values.Value.TheVariants as value

pub returns-in_default : goal.returns-in_default
unfolding long_negate_effect
returns-in_default g c =
    stuck-long c.args.program.now g.M.Memory.choose c.args.machine.now c.stuck.new.self 1 _ c.in_default.ensures
    (c.stuck.ensures c.requires.runnable g.M.Memory.choose)

pub returns : goal.returns
unfolding long_negate_effect
returns g c =
    let told : signed 64 (pos 0 -ℤ c.in-Some.a) ≡ c.negated_long.result = search rules in
    told-ok c.give_wide.result _ _
    (with-long c.args.program.now g.M.Memory.choose c.args.machine.now c.give_wide.new.self 1 c.in-Some.a _ _ c.in-Some.ensures
    (ap (λ n. words 2 (long_words n)) told))
    (gave-wide c.give_wide.result c.args.program.now g.M.Memory.choose c.args.machine.now c.give_wide.new.self 2 (value.Long c.negated_long.result) _ (search rules)
    c.give_wide.ensures)
