use Rattle.std.proofs.Common.{refl}
use Rattle.fm_code.specs.declared.instructions.Insn.TheVariants as insn
use Rattle.fm_exec.proofs.PlainSteps.{target-is}
use Rattle.fm_fast.proofs.FlowSteps.{same-branched, same-goes}
use Rattle.fm_fast.proofs.jumps.if_same.Goals as goal
use Rattle.fm_fast.specs.Flows.{on}

pub returns-clause-did : goal.returns-clause-did
returns-clause-did c told p choose x at =
    let old = c.args.frames.now in
    same-branched p choose x old c.branch-frames.new.frames c.args.same c.as_wanted.result c.args.target c.requires.fits c.branch-frames.ensures
    (target-is p (on x old) (insn.IfSame c.args.same c.args.target) 0 c.args.target refl at)
    (same-goes x old c.args.same c.as_wanted.result c.cell_there-b.result c.cell_there-a.result c.cell_there-b.ensures c.cell_there-a.ensures
    c.as_wanted.ensures)
