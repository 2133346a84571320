use Rattle.fm_law_sound.proofs.StartActs.{before_fits}
use Rattle.fm_law_sound.proofs.laws.law_starts.Goals as goal

pub returns : goal.returns
returns c = λ p ready statics store f started e fits few. before_fits p ready statics store f started e fits few
