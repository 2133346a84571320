use Rattle.std.proofs.Common.{drop, map}
use Rattle.fm_exec_calls.proofs.StartWords.{IsCounting}
use Rattle.fm_exec_calls.proofs.words.sum_of_words.Given as goal
use Rattle.fm_frames.specs.inner.StartActions.{action_of}

abbrev pub invariant-loop-action : goal.invariant-loop-action
invariant-loop-action g l =
    IsCounting l.program.outline l.machine.areas l.own l.words l.counted (map action_of l.actions) (map action_of (drop l.action-index l.actions))
