use Rattle.std.proofs.Common.{refl, ap}
use Rattle.fm_code.specs.declared.instructions.Insn.TheVariants as insn
use Rattle.fm_exec.proofs.NullSteps.{by_look}
use Rattle.fm_exec.proofs.PlainSteps.{cell-jumps, null-jumps, null-stuck, target-is}
use Rattle.fm_exec.proofs.jumps.if_null.Goals as goal

pub returns-in-Other : goal.returns-in-Other
returns-in-Other g c =
    null-stuck c.args.program.now g.M.Memory.choose c.args.machine.now c.stuck.new.self c.args.null c.look-operand.result c.look-operand.ensures c.in-Other.is
    (c.stuck.ensures c.requires.can.runnable g.M.Memory.choose)

pub returns-in-Null : goal.returns-in-Null
returns-in-Null g c =
    null-jumps c.args.program.now g.M.Memory.choose c.args.machine.now c.branch-machine.new.machine c.args.null c.look-operand.result c.look-operand.ensures c.in-Null.is
    (c.branch-machine.ensures c.args.program.now g.M.Memory.choose
    (target-is c.args.program.now c.args.machine.now (insn.IfNull c.args.null c.args.target) 0 c.args.target refl c.requires.at))

pub returns-in-Gone : goal.returns-in-Gone
returns-in-Gone g c =
    cell-jumps c.args.program.now g.M.Memory.choose c.args.machine.now c.branch-machine-in-Gone.new.machine c.args.null c.look-operand.result c.look-operand.ensures
    (λ follows. ap (λ l. by_look l follows) c.in-Gone.is)
    (c.branch-machine-in-Gone.ensures c.args.program.now g.M.Memory.choose
    (target-is c.args.program.now c.args.machine.now (insn.IfNull c.args.null c.args.target) 0 c.args.target refl c.requires.at))

pub returns-in-Object : goal.returns-in-Object
returns-in-Object g c =
    cell-jumps c.args.program.now g.M.Memory.choose c.args.machine.now c.branch-machine-in-Object.new.machine c.args.null c.look-operand.result c.look-operand.ensures
    (λ follows. ap (λ l. by_look l follows) c.in-Object.is)
    (c.branch-machine-in-Object.ensures c.args.program.now g.M.Memory.choose
    (target-is c.args.program.now c.args.machine.now (insn.IfNull c.args.null c.args.target) 0 c.args.target refl c.requires.at))
