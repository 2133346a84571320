use Rattle.std.proofs.Common.{◌≡◌, ◌+◌, ◌∙◌, arith, get_or}
use Rattle.fm_base.specs.Rows.{has}
use Rattle.fm_chain.specs.Chained.{taken}
use Rattle.fm_place_weave.proofs.CountingLemmas.{taken_fits, taken_step}
use Rattle.fm_place_weave.proofs.PairLemmas.{flag_at, local_at, pair_at}
use Rattle.fm_place_weave.specs.ByPlan.{inserted_end, no_calls, taken_by}
use Rattle.fm_place_weave.proofs.counting.taken_end.Goals as goal

pub is_looped-requires : goal.is_looped-requires
is_looped-requires c = flag_at c.args.holders.looped.now c.args.pairs.now c.loop-pair.pair-index c.requires.flags c.loop-pair-test.true

pub local_of-requires : goal.local_of-requires
local_of-requires c = local_at c.args.holders.first c.args.pairs.now c.loop-pair.pair-index c.requires.locals c.loop-pair-test.true

pub take_end-end-requires : goal.take_end-end-requires
take_end-end-requires c =
    let pair = get_or c.args.pairs.now c.loop-pair.pair-index (0, 0) in
    let fits = taken_fits c.args.holders.looped.now c.args.holders.first c.args.pairs.now c.loop-pair.pair-index c.loop-pair.end (get_or c.args.pairs.now c.loop-pair.pair-index (0, 0))
    (inserted_end c.args.start (taken_by no_calls c.args.holders.looped.now c.args.holders.first c.args.pairs.now)) c.loop-pair-test.true
    (pair_at c.args.pairs.now c.loop-pair.pair-index c.loop-pair-test.true) c.loop-pair.invariant in
    let same : inserted_end c.loop-pair.end (taken no_calls c.is_looped.result c.local_of.result)
    ≡ inserted_end c.loop-pair.end (taken no_calls (has c.args.holders.looped.now pair.1) (c.args.holders.first + pair.1)) = (λ k. inserted_end c.loop-pair.end (taken no_calls (c.is_looped.ensures k) (c.local_of.ensures k))) in
    omega (arith, fits, same, c.requires.fits)

pub loop-pair-preserved : goal.loop-pair-preserved
loop-pair-preserved c =
    taken_step c.args.holders.looped.now c.args.holders.first c.args.pairs.now c.loop-pair.pair-index c.loop-pair.end c.take_end-end.result (get_or c.args.pairs.now c.loop-pair.pair-index (0, 0))
    (inserted_end c.args.start (taken_by no_calls c.args.holders.looped.now c.args.holders.first c.args.pairs.now)) c.loop-pair-test.true
    (pair_at c.args.pairs.now c.loop-pair.pair-index c.loop-pair-test.true)
    (c.take_end-end.ensures ∙ (λ k. inserted_end c.loop-pair.end (taken no_calls (c.is_looped.ensures k) (c.local_of.ensures k)))) c.loop-pair.invariant
