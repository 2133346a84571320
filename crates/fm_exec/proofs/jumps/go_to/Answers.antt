use Rattle.std.proofs.Common.{refl}
use Rattle.fm_code.specs.declared.instructions.Insn.TheVariants as insn
use Rattle.fm_exec.proofs.PlainSteps.{target-is}
use Rattle.fm_exec.proofs.jumps.go_to.Goals as goal

pub returns : goal.returns
returns g c =
    c.jump.ensures c.args.program.now g.M.Memory.choose 0 (target-is c.args.program.now c.args.machine.now (insn.Goto c.args.target) 0 c.args.target refl c.requires.at)
