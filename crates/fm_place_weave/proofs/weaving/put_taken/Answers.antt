use Rattle.fm_place_weave.proofs.PairLemmas.{flag_at, local_at}
use Rattle.fm_place_weave.proofs.weaving.put_taken.Goals as goal

pub put_take-requires-clause-flag : goal.put_take-requires-clause-flag
put_take-requires-clause-flag c = flag_at c.args.holders.looped.now c.args.pairs.now c.loop-pair.pair-index c.requires.flags c.loop-pair-test.true

pub put_take-requires-clause-local : goal.put_take-requires-clause-local
put_take-requires-clause-local c = local_at c.args.holders.first c.args.pairs.now c.loop-pair.pair-index c.requires.locals c.loop-pair-test.true
