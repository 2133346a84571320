use Rattle.std.proofs.Common.{refl}
use Rattle.fm_exec.proofs.PlainSteps.{gave}
use Rattle.fm_exec.proofs.constants.null.Goals as goal
use Rattle.fm_frames.specs.States.{null}

pub returns : goal.returns
returns g c = gave c.give.result c.args.program.now g.M.Memory.choose c.args.machine.now c.give.new.self 0 null _ refl c.give.ensures
