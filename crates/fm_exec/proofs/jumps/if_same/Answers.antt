use Rattle.std.proofs.Common.{refl}
use Rattle.fm_code.specs.declared.instructions.Insn.TheVariants as insn
use Rattle.fm_exec.proofs.PlainSteps.{target-is}
use Rattle.fm_exec.proofs.jumps.if_same.Goals as goal

pub returns : goal.returns
returns g c =
    c.jump_if_same.ensures c.args.program.now g.M.Memory.choose
    (target-is c.args.program.now c.args.machine.now (insn.IfSame c.args.same c.args.target) 0 c.args.target refl c.requires.at)
