use Rattle.fm_law_sound.proofs.HiddenFields.{text_first}
use Rattle.fm_law_sound.proofs.laws.law_text_first.Goals as goal

pub returns : goal.returns
returns c = λ p runnable tree. text_first p runnable tree
