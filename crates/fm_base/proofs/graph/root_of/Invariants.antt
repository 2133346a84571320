use Rattle.std.proofs.Common.{◌≡◌, ℕ, ◌≤◌, ◌<◌, List, length}
use Rattle.fm_base.specs.Graph.{AreJoined}
use Rattle.fm_base.specs.inner.Graph.{AreStepsIn, IsSameAlong, Shortens}
use Rattle.fm_base.proofs.graph.root_of.Given as goal

abbrev pub invariant-loop-at : goal.invariant-loop-at
invariant-loop-at l = record {
  shortens : Shortens l.initial.above.items l.above.items;
  inside : l.at < length l.above.items;
  below : l.at ≤ l.node;
  joined : (pairs : List (ℕ × ℕ)) → AreStepsIn pairs l.initial.above.items → AreJoined pairs l.node l.at;
  same : (number : ℕ → ℕ) → IsSameAlong l.above.items number → number l.node ≡ number l.at;
}

abbrev pub decreases-loop-at : goal.decreases-loop-at
decreases-loop-at l = l.at
