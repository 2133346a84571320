use Rattle.fm_code.specs.declared.instructions.Insn.TheVariants as insn
use Rattle.fm_frames.specs.Rows.{effect_of}
use Rattle.fm_run.proofs.NextSteps.{row-done}
use Rattle.fm_run.proofs.plain.thrown.Goals as goal

pub returns : goal.returns
unfolding effect_of
returns g c =
    row-done c.args.program.now g.M.Memory.choose c.args.machine.now c.throw.new.machine c.args.insn.now insn.Throw c.throw.result c.requires.at c.in-Throw.is c.throw.ensures
