use Rattle.std.proofs.Common.{◌∙◌, ap, length, arith, ◌+◌, false}
use Rattle.std.proofs.lemmas.List.{length-replicate}
use Rattle.fm_flow.proofs.HandlerLemmas.{AreMarked-more, AreMarked-all, EndsWithin-at}
use Rattle.fm_flow.proofs.item_edges.range_ends.Goals as goal

pub set-requires : goal.set-requires
set-requires c =
    let within = EndsWithin-at c.args.count c.args.handlers.now c.loop-handler.handler-index c.loop-handler-test.true c.requires.within in
    let start = within.start in
    let bits = c.loop-handler.invariant.bits in omega arith

pub loop-handler-init : goal.loop-handler-init
loop-handler-init c = record { bits = ap length c.in_ok-ends.ensures ∙ length-replicate (c.args.count + 1) false; each = tt }

pub loop-handler-preserved : goal.loop-handler-preserved
loop-handler-preserved c =
    let i = c.loop-handler.handler-index in
    let within = EndsWithin-at c.args.count c.args.handlers.now i c.loop-handler-test.true c.requires.within in
    rw (c.set-in-loop-handler.ensures, c.set.ensures)
    (AreMarked-more c.args.count c.args.handlers.now i c.loop-handler.ends c.loop-handler-test.true c.loop-handler.invariant within)

pub returns : goal.returns
returns c = AreMarked-all c.args.count c.args.handlers.now c.loop-handler.handler-index c.loop-handler.ends c.loop-handler-test.false c.loop-handler.invariant
