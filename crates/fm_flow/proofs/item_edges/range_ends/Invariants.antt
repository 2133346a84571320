use Rattle.std.proofs.Common.{take}
use Rattle.fm_flow.specs.inner.Walks.{AreMarked}
use Rattle.fm_flow.proofs.item_edges.range_ends.Given as goal

abbrev pub invariant-loop-handler : goal.invariant-loop-handler
invariant-loop-handler l = AreMarked l.count (take l.handler-index l.handlers) l.ends
