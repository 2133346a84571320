use Rattle.fm_law_sound.proofs.InsnActs.{instructions_fit}
use Rattle.fm_law_sound.proofs.laws.law_acts.Goals as goal

pub returns : goal.returns
returns c =
    λ p ready s after f store i u news byte h whole names made call row few.
    instructions_fit p ready store f s after h whole i u news byte names made call row few
