use Rattle.fm_place_weave.proofs.WeaveLemmas.{joined}
use Rattle.fm_place_weave.proofs.weaving.put_item.Goals as goal

pub returns : goal.returns
returns c = joined _ _ _ _ _ _ _ c.in_ok-put_released.ensures c.in_ok-put_kept.ensures c.in_ok-put_taken.ensures
