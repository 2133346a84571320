use Rattle.fm_frames.proofs.Jumping.{same-jumps, same-passes}
use Rattle.fm_frames.proofs.machine.Machine.jump_if_same.Goals as goal

pub returns-then-goes_same : goal.returns-then-goes_same
returns-then-goes_same g c p choose there =
    same-jumps p choose c.args.self.now c.jump.new.self c.args.same _ c.goes_same.ensures c.if-goes_same.true (c.jump.ensures p choose 0 there)

pub returns-else-goes_same : goal.returns-else-goes_same
returns-else-goes_same g c p choose there =
    same-passes p choose c.args.self.now c.take.new.self c.args.same _ c.goes_same.ensures c.if-goes_same.false (c.take.ensures p choose)
