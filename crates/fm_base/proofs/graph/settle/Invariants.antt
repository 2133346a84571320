use Rattle.fm_base.proofs.GraphLemmas.{AreSettledTo}
use Rattle.fm_base.specs.inner.Graph.{Shortens}
use Rattle.fm_base.proofs.graph.settle.Given as goal

abbrev pub invariant-loop-node : goal.invariant-loop-node
invariant-loop-node l = record {
  shortens : Shortens l.initial.above.items l.above.items;
  settled : AreSettledTo l.above.items l.node;
}
