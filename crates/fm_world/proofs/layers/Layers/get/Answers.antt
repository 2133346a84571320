use Rattle.std.proofs.Common.{◌∙◌, ap, ◌-◌, ◌+◌, ◌/◌}
use Rattle.fm_world.proofs.LayerLemmas.{one_down}
use Rattle.fm_world.specs.inner.Nodes.{entry_of}
use Rattle.fm_world.proofs.layers.Layers.get.Goals as goal

pub loop-preserved : goal.loop-preserved
loop-preserved c =
    let nodes = c.args.self.now.nodes.items in
    let levels = c.args.self.now.levels in
    ap (λ n. entry_of nodes (levels - (c.loop.counter + 1)) n (c.loop.rest / 8)) c.child-node.ensures
    ∙ one_down nodes levels c.loop.counter c.loop.node c.loop.rest (entry_of nodes levels c.args.table c.args.key) c.loop-test.true c.loop.invariant
