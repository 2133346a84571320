use Rattle.std.proofs.Common.{◌+◌, ◌≤◌, map, drop, length, subst, arith}
use Rattle.fm_exec_calls.proofs.ActSteps.{acting-ended, acting-next, acting-stopped, IsActing}
use Rattle.fm_exec_calls.proofs.StartWords.{left-at, none-left}
use Rattle.fm_exec_calls.proofs.acts.act_all.Goals as goal
use Rattle.fm_exec_calls.specs.inner.Actions.{Acts}
use Rattle.fm_frames.specs.inner.StartActions.{action_of}

pub returns-then-not-branch : goal.returns-then-not-branch
returns-then-not-branch g c =
    let p = c.args.program.now in
    let y = c.args.machine.now in
    let z = c.loop-action.machine in
    acting-stopped p g.M.Memory.choose y z c.act.new.machine (map action_of c.args.actions.now)
    (map action_of (drop (c.loop-action.action-index + 1) c.args.actions.now)) _
    (subst (IsActing p g.M.Memory.choose y z (map action_of c.args.actions.now))
    (left-at action_of c.args.actions.now c.loop-action.action-index _ c.loop-action-test.true) c.loop-action.invariant)
    (subst (Acts p g.M.Memory.choose z c.act.new.machine _) c.if-not-branch.true c.in_ok-act.ensures)

pub loop-action-preserved : goal.loop-action-preserved
loop-action-preserved g c =
    let p = c.args.program.now in
    let y = c.args.machine.now in
    let z = c.loop-action.machine in
    acting-next p g.M.Memory.choose y z c.act.new.machine (map action_of c.args.actions.now)
    (map action_of (drop (c.loop-action.action-index + 1) c.args.actions.now)) _
    (subst (IsActing p g.M.Memory.choose y z (map action_of c.args.actions.now))
    (left-at action_of c.args.actions.now c.loop-action.action-index _ c.loop-action-test.true) c.loop-action.invariant)
    (subst (Acts p g.M.Memory.choose z c.act.new.machine _) c.if-not-branch.false c.in_ok-act.ensures)

pub returns : goal.returns
returns g c =
    let p = c.args.program.now in
    let over : length c.args.actions.now ≤ c.loop-action.action-index = omega (arith, c.loop-action-test.false) in
    acting-ended p g.M.Memory.choose c.args.machine.now c.loop-action.machine (map action_of c.args.actions.now)
    (subst (IsActing p g.M.Memory.choose c.args.machine.now c.loop-action.machine (map action_of c.args.actions.now))
    (none-left action_of c.args.actions.now c.loop-action.action-index over) c.loop-action.invariant)
