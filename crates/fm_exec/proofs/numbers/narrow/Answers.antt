use Rattle.std.proofs.Common.{◌≡◌, ap, rules}
use Rattle.fm_exec.proofs.PlainSteps.{gave, stuck-long, with-long}
use Rattle.fm_exec.proofs.numbers.narrow.Goals as goal
use Rattle.fm_code.specs.declared.operations.Conv.TheVariants as conv
use Rattle.fm_alu.specs.Conversions.{result_of_conversion}
use Rattle.fm_frames.proofs.Throwing.{told-ok}
use Rattle.fm_frames.specs.Effects.{int_word, words}
use Rattle.fm_frames.specs.NumberRows.{convert_effect}
use Rattle.fm_frames.specs.declared.values.Value.TheVariants as value

pub returns-in_default : goal.returns-in_default
unfolding convert_effect
returns-in_default g c =
    stuck-long c.args.program.now g.M.Memory.choose c.args.machine.now c.stuck.new.self 1 _ c.in_default.ensures
    (c.stuck.ensures c.requires.runnable g.M.Memory.choose)

pub returns : goal.returns
unfolding convert_effect
returns g c =
    let told : result_of_conversion conv.LongToInt c.in-Some.a ≡ c.convert-n.result = search rules in
    told-ok c.give.result _ _
    (with-long c.args.program.now g.M.Memory.choose c.args.machine.now c.give.new.self 1 c.in-Some.a _ _ c.in-Some.ensures
    (ap (λ n. words 2 (int_word n)) told))
    (gave c.give.result c.args.program.now g.M.Memory.choose c.args.machine.now c.give.new.self 2 (value.Int c.convert-n.result) _ (search rules)
    c.give.ensures)
