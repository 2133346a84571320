use Rattle.std.proofs.Common.{refl, rules}
use Rattle.fm_exec.proofs.PlainSteps.{gave-wide, stuck-int, with-int}
use Rattle.fm_exec.proofs.numbers.widen.Goals as goal
use Rattle.fm_frames.proofs.Throwing.{told-ok}
use Rattle.fm_frames.specs.NumberRows.{convert_effect}
use Rattle.fm_frames.specs.declared.values.Value.TheVariants as value

pub returns-in_default : goal.returns-in_default
unfolding convert_effect
returns-in_default g c =
    stuck-int c.args.program.now g.M.Memory.choose c.args.machine.now c.stuck.new.self 0 _ c.in_default.ensures
    (c.stuck.ensures c.requires.runnable g.M.Memory.choose)

pub returns : goal.returns
unfolding convert_effect
returns g c =
    told-ok c.give_wide.result _ _
    (with-int c.args.program.now g.M.Memory.choose c.args.machine.now c.give_wide.new.self 0 c.in-Some.a _ _ c.in-Some.ensures
    refl)
    (gave-wide c.give_wide.result c.args.program.now g.M.Memory.choose c.args.machine.now c.give_wide.new.self 1 (value.Long c.in-Some.a) _ (search rules)
    c.give_wide.ensures)
