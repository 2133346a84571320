use Rattle.std.proofs.Common.{refl}
use Rattle.fm_code.specs.declared.instructions.Insn.TheVariants as insn
use Rattle.fm_exec.proofs.PlainSteps.{target-is}
use Rattle.fm_fast.proofs.FlowSteps.{kept-top}
use Rattle.fm_fast.proofs.jumps.go_to.Goals as goal
use Rattle.fm_fast.specs.Flows.{on}
use Rattle.fm_frames.proofs.Jumping.{jumped}

pub returns : goal.returns
returns c p choose x at =
    let old = c.args.frames.now in
    jumped p choose (on x old) (on x old) c.go_to.new.self c.go_to.new.self 0 c.args.target 0 refl c.go_to.ensures (kept-top c.go_to.new.self)
    (target-is p (on x old) (insn.Goto c.args.target) 0 c.args.target refl at)
