use Rattle.std.proofs.Common.{rules}
use Rattle.fm_exec.proofs.PlainSteps.{gave-wide}
use Rattle.fm_exec.proofs.constants.long_constant.Goals as goal
use Rattle.fm_frames.specs.declared.values.Value.TheVariants as value

pub returns : goal.returns
returns g c = gave-wide c.give_wide.result c.args.program.now g.M.Memory.choose c.args.machine.now c.give_wide.new.self 0 (value.Long c.args.n) _ (search rules) c.give_wide.ensures
