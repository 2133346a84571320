use Rattle.std.proofs.Common.{◌∙◌, ap, arith, get_or}
use Rattle.fm_place.specs.Woven.{freed}
use Rattle.fm_place_weave.proofs.CountingLemmas.{released_fits, released_step}
use Rattle.fm_place_weave.proofs.PairLemmas.{local_at, pair_at}
use Rattle.fm_place_weave.specs.ByPlan.{inserted_end, no_calls, released_by}
use Rattle.fm_place_weave.proofs.counting.released_end.Goals as goal

pub local_of-requires : goal.local_of-requires
local_of-requires c = local_at c.args.holders.first c.args.pairs.now c.loop-pair.pair-index c.requires.locals c.loop-pair-test.true

pub free_end-end-requires : goal.free_end-end-requires
free_end-end-requires c =
    let fits = released_fits c.args.holders.looped.now c.args.holders.first c.args.pairs.now c.loop-pair.pair-index c.loop-pair.end (get_or c.args.pairs.now c.loop-pair.pair-index (0, 0))
    (inserted_end c.args.start (released_by no_calls c.args.holders.looped.now c.args.holders.first c.args.pairs.now)) c.loop-pair-test.true
    (pair_at c.args.pairs.now c.loop-pair.pair-index c.loop-pair-test.true) c.loop-pair.invariant in
    let same = ap (λ l. inserted_end c.loop-pair.end (freed 0 l)) c.local_of.ensures in
    omega (arith, fits, same, c.requires.fits)

pub loop-pair-preserved : goal.loop-pair-preserved
loop-pair-preserved c =
    released_step c.args.holders.looped.now c.args.holders.first c.args.pairs.now c.loop-pair.pair-index c.loop-pair.end c.free_end-end.result (get_or c.args.pairs.now c.loop-pair.pair-index (0, 0))
    (inserted_end c.args.start (released_by no_calls c.args.holders.looped.now c.args.holders.first c.args.pairs.now)) c.loop-pair-test.true
    (pair_at c.args.pairs.now c.loop-pair.pair-index c.loop-pair-test.true)
    (c.free_end-end.ensures ∙ ap (λ l. inserted_end c.loop-pair.end (freed 0 l)) c.local_of.ensures) c.loop-pair.invariant
