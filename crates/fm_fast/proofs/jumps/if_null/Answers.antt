use Rattle.std.proofs.Common.{refl}
use Rattle.fm_code.specs.declared.instructions.Insn.TheVariants as insn
use Rattle.fm_exec.proofs.PlainSteps.{target-is}
use Rattle.fm_fast.proofs.FlowSteps.{null-branched}
use Rattle.fm_fast.proofs.jumps.if_null.Goals as goal
use Rattle.fm_fast.specs.Flows.{on}

pub returns-clause-did : goal.returns-clause-did
returns-clause-did c told p choose x at =
    let old = c.args.frames.now in
    null-branched p choose x old c.branch-frames.new.frames c.args.null c.as_wanted.result c.cell_there-cell.result c.args.target c.requires.fits
    c.branch-frames.ensures (target-is p (on x old) (insn.IfNull c.args.null c.args.target) 0 c.args.target refl at) c.cell_there-cell.ensures c.as_wanted.ensures
