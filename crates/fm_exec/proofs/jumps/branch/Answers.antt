use Rattle.fm_exec.proofs.PlainSteps.{passed-jumps, taken-jumps}
use Rattle.fm_exec.proofs.jumps.branch.Goals as goal

pub returns-then-taken : goal.returns-then-taken
returns-then-taken g c p choose there =
    taken-jumps p choose c.args.machine.now c.jump.new.self c.args.takes c.args.taken c.if-taken.true (c.jump.ensures p choose 0 there)

pub returns-else-taken : goal.returns-else-taken
returns-else-taken g c p choose there =
    passed-jumps p choose c.args.machine.now c.take.new.self c.args.takes c.args.taken c.if-taken.false (c.take.ensures p choose)
