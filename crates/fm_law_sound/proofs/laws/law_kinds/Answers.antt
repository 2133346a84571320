use Rattle.fm_law_sound.proofs.KindLemmas.{kinds_along}
use Rattle.fm_law_sound.proofs.laws.law_kinds.Goals as goal

pub returns : goal.returns
returns c = kinds_along
