use Rattle.std.proofs.Common.{◌+◌, refl}
use Rattle.fm_code.specs.declared.instructions.Insn.TheVariants as insn
use Rattle.fm_fast.specs.Flows.{resumed}
use Rattle.fm_frames.specs.Rows.{effect_of}
use Rattle.fm_run.proofs.NextSteps.{row-does}
use Rattle.fm_run.proofs.called.left.Goals as goal

pub leave-requires : goal.leave-requires
leave-requires g c = (c.requires.next.next refl).can

pub returns-clause-did : goal.returns-clause-did
unfolding effect_of
returns-clause-did g c told =
    let i = insn.Return c.args.value in
    row-does c.args.program.now g.M.Memory.choose (resumed c.args.machine.now c.args.frames.now c.args.counted)
    (resumed c.args.machine.now c.leave.new.frames (c.args.counted + 1)) i i c.requires.next.at.at refl (c.leave.ensures.did told c.args.counted)
