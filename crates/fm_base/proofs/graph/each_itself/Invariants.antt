use Rattle.fm_base.specs.inner.Graph.{LeadToThemselves}
use Rattle.fm_base.proofs.graph.each_itself.Given as goal

abbrev pub invariant-loop-node : goal.invariant-loop-node
invariant-loop-node l = LeadToThemselves l.node l.above.items
