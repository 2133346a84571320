use Rattle.std.proofs.Common.{◌≡◌, ◌<◌, length, get_or, arith, ap, ◌∙◌}
use Rattle.std.proofs.lemmas.List.{get_or_read}
use Rattle.fm_base.proofs.GraphLemmas.{AreSettledTo_more, Shortens_none, Shortens_past, Shortens_then}
use Rattle.fm_base.proofs.graph.settle.Goals as goal

pub loop-node-init : goal.loop-node-init
loop-node-init c = record { shortens = Shortens_none _ c.requires; settled = λ a below. absurd (omega arith) }

pub loop-node-preserved : goal.loop-node-preserved
loop-node-preserved c =
    let so_far = c.loop-node.invariant in
    let falls = so_far.shortens.falls in
    let above = c.loop-node.above.items in
    let node = c.loop-node.node in
    let next = get_or above node 0 in
    let inside : node < length above = omega (arith, c.loop-node-test.true, so_far.shortens.nodes) in
    let next_is : c.index.result.now ≡ next = get_or_read above node c.index.result.now inside c.index.ensures 0 in
    let first = falls node inside in
    let past_is : c.index-past.result.now ≡ get_or above next 0 =
    get_or_read above c.index.result.now c.index-past.result.now (omega (arith, next_is)) c.index-past.ensures 0 ∙ ap (λ k. get_or above k 0) next_is in
    rw past_is record {
      shortens = Shortens_then _ above _ so_far.shortens (Shortens_past above node inside falls);
      settled = AreSettledTo_more above node inside falls so_far.settled;
    }

pub returns-clause-settled : goal.returns-clause-settled
returns-clause-settled c =
    let so_far = c.loop-node.invariant in
    λ a within. so_far.settled a (omega (arith, c.loop-node-test.false, so_far.shortens.nodes))
