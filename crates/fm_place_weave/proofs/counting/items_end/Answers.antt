use Rattle.std.proofs.Common.{arith}
use Rattle.fm_place_weave.proofs.CountingLemmas.{item_fits}
use Rattle.fm_place_weave.specs.ByPlan.{end_after}
use Rattle.fm_place_weave.proofs.counting.items_end.Goals as goal

pub item_end-end-requires-clause-fits : goal.item_end-end-requires-clause-fits
item_end-end-requires-clause-fits c =
    let fits = item_fits c.args.holders.looped.now c.args.holders.first c.args.items.now c.loop-index.index c.loop-index.end c.loop-index.index
    (end_after c.args.holders.looped.now c.args.holders.first c.args.start 0 c.args.before.now c.args.after.now c.args.items.now) c.loop-index.freeing.now c.loop-index.taking.now
    c.here.result.now c.here-in-loop-index.result.now c.index-items-index.result c.loop-index-test.true c.index-items-index.is c.loop-index.invariant.total
    c.here.ensures.is c.here-in-loop-index.ensures.is in
    omega (arith, fits, c.requires.fits)
