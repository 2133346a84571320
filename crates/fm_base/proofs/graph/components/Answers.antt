use Rattle.std.proofs.Common.{◌≡◌, ◌≢◌, ℕ, [], get_or, Contains, arith, sym, subst, inl, ⊎_elim, ◌∙◌}
use Rattle.std.proofs.lemmas.Bool.{cases_eq}
use Rattle.std.proofs.lemmas.List.Elements.{Contains-get_or}
use Rattle.fm_base.specs.inner.Graph.{IsSameAlong}
use Rattle.fm_base.proofs.GraphLemmas.{AreLeastJoined_settled, numbers_one}
use Rattle.fm_base.proofs.graph.components.Goals as goal

pub loop-index-init : goal.loop-index-init
loop-index-init c =
    let forest = c.in_ok-above.ensures in
    let nodes = forest.nodes in
    record {
      nodes = nodes;
      falls = λ a within. omega (arith, forest.each a (omega arith));
      steps = λ a within. ([], sym (forest.each a (omega arith)));
      same = λ number along k below. absurd (omega arith);
    }

pub loop-index-preserved : goal.loop-index-preserved
loop-index-preserved c =
    let so_far = c.loop-index.invariant in
    let joins = c.join.ensures in
    let pairs = c.args.pairs.now in
    let index = c.loop-index.index in
    let pair = get_or pairs index (0, 0) in
    let there : Contains pairs (pair.0, pair.1) = Contains-get_or pairs index (0, 0) c.loop-index-test.true in
    record {
      nodes = joins.nodes ∙ so_far.nodes;
      falls = joins.falls;
      steps = joins.steps pairs so_far.steps (numbers_one pairs pair.0 pair.1 (inl there));
      same = λ number along k below.
          let both = joins.same number along in
          let P : ℕ → Type 0 = λ j. number (get_or pairs j (0, 0)).0 ≡ number (get_or pairs j (0, 0)).1 in
          ⊎_elim (λ (here : k ≡ index). subst P (sym here) both.1)
          (λ (apart : k ≢ index). so_far.same number both.0 k (omega arith))
          (cases_eq k index);
    }

pub returns : goal.returns
returns c =
    let so_far = c.loop-index.invariant in
    let settled = c.settle.ensures in
    let least = c.settle.new.above.items in
    let number : ℕ → ℕ = λ a. get_or least a 0 in
    let along : IsSameAlong least number = settled.settled in
    AreLeastJoined_settled c.args.pairs.now c.args.n least c.requires (settled.shortens.nodes ∙ so_far.nodes) settled.shortens.falls
    (settled.shortens.steps c.args.pairs.now so_far.steps)
    (λ k within. so_far.same number (settled.shortens.same number along) k (omega (arith, c.loop-index-test.false)))
