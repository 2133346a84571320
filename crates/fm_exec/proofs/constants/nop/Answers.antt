use Rattle.fm_exec.proofs.constants.nop.Goals as goal

pub returns : goal.returns
returns g c = c.take.ensures c.args.program.now g.M.Memory.choose
