use Rattle.fm_exec.proofs.shuffles.pop.Goals as goal
use Rattle.fm_frames.specs.NumberRows.{move_effect}

pub returns : goal.returns
unfolding move_effect
returns g c = c.take.ensures c.args.program.now g.M.Memory.choose
