use Rattle.std.proofs.Common.{◌+◌, length}
use Rattle.fm_flow.proofs.ReachLemmas.{ReachingOnce}
use Rattle.fm_flow.specs.Marking.{unset}
use Rattle.fm_flow.proofs.reach.reached_items.Given as goal

abbrev pub invariant-loop-j : goal.invariant-loop-j
invariant-loop-j l = ReachingOnce l.code l.edges.caught l.reached l.waiting.items l.done

abbrev pub decreases-loop-j : goal.decreases-loop-j
decreases-loop-j l = unset l.reached + length l.waiting.items
