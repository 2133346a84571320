use Rattle.fm_place.proofs.WovenLemmas.{anchors_are_anchors, woven_is_laid_out}
use Rattle.fm_place.proofs.laws.law_woven.Goals as goal

pub returns : goal.returns
returns c = record { items = woven_is_laid_out; anchors = anchors_are_anchors }
