use Rattle.std.proofs.Common.{rules}
use Rattle.fm_exec.proofs.PlainSteps.{gave}
use Rattle.fm_exec.proofs.constants.int_constant.Goals as goal
use Rattle.fm_frames.specs.declared.values.Value.TheVariants as value

pub returns : goal.returns
returns g c = gave c.give.result c.args.program.now g.M.Memory.choose c.args.machine.now c.give.new.self 0 (value.Int c.args.n) _ (search rules) c.give.ensures
