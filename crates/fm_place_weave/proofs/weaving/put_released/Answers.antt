use Rattle.fm_place_weave.proofs.PairLemmas.{flag_at, local_at}
use Rattle.fm_place_weave.proofs.weaving.put_released.Goals as goal

pub free_call-requires : goal.free_call-requires
free_call-requires c = flag_at c.args.holders.looped.now c.args.pairs.now c.loop-pair.pair-index c.requires.flags c.loop-pair-test.true

pub local_of-requires : goal.local_of-requires
local_of-requires c = local_at c.args.holders.first c.args.pairs.now c.loop-pair.pair-index c.requires.locals c.loop-pair-test.true
