use Rattle.std.proofs.Common.{◌+◌, length}
use Rattle.fm_chain.proofs.LoopLemmas.{LoopingOnce}
use Rattle.fm_flow.specs.Marking.{unset}
use Rattle.fm_chain.proofs.loops.looped.Given as goal

abbrev pub invariant-loop-j : goal.invariant-loop-j
invariant-loop-j l = LoopingOnce l.code l.flow l.item l.reached l.waiting.items l.done

abbrev pub decreases-loop-j : goal.decreases-loop-j
decreases-loop-j l = unset l.reached + length l.waiting.items
