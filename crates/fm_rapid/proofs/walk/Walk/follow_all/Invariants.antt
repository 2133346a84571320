use Rattle.std.proofs.Common.{◌+◌, length}
use Rattle.fm_flow.specs.Marking.{unset}
use Rattle.fm_rapid.specs.inner.Walks.{sets_of, IsUnderWay}
use Rattle.fm_rapid.proofs.walk.Walk.follow_all.Given as goal

abbrev pub invariant-loop-method : goal.invariant-loop-method
invariant-loop-method l = IsUnderWay l.program (sets_of l.self)

abbrev pub decreases-loop-method : goal.decreases-loop-method
decreases-loop-method l = unset l.self.methods + length l.self.waiting.items
