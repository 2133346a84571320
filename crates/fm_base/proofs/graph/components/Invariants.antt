use Rattle.std.proofs.Common.{◌≡◌, ℕ, length}
use Rattle.fm_base.proofs.GraphLemmas.{AreSameTo}
use Rattle.fm_base.specs.inner.Graph.{AreStepsIn, Falls, IsSameAlong}
use Rattle.fm_base.proofs.graph.components.Given as goal

abbrev pub invariant-loop-index : goal.invariant-loop-index
invariant-loop-index l = record {
  nodes : length l.above.items ≡ l.n;
  falls : Falls l.above.items;
  steps : AreStepsIn l.pairs l.above.items;
  same : (number : ℕ → ℕ) → IsSameAlong l.above.items number → AreSameTo l.pairs number l.index;
}
