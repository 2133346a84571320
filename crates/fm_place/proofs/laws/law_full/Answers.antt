use Rattle.fm_place.proofs.FullLemmas.{full_is_safe}
use Rattle.fm_place.proofs.laws.law_full.Goals as goal

pub returns : goal.returns
returns c = full_is_safe
