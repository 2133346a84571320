use Rattle.fm_law_sound.proofs.OpeningActs.{opening_fits}
use Rattle.fm_law_sound.proofs.laws.law_opening_acts.Goals as goal

pub returns : goal.returns
returns c = λ p ready job given store f. opening_fits p ready store f job given
