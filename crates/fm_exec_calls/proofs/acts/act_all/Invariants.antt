use Rattle.std.proofs.Common.{drop, map}
use Rattle.fm_exec_calls.proofs.ActSteps.{IsActing}
use Rattle.fm_exec_calls.proofs.acts.act_all.Given as goal
use Rattle.fm_frames.specs.inner.StartActions.{action_of}

abbrev pub invariant-loop-action : goal.invariant-loop-action
invariant-loop-action g l =
    IsActing l.program g.M.Memory.choose l.initial.machine l.machine (map action_of l.actions) (map action_of (drop l.action-index l.actions))
