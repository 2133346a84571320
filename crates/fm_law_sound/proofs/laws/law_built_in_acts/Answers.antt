use Rattle.fm_law_sound.proofs.BuiltInActs.{built_ins_fit}
use Rattle.fm_law_sound.proofs.laws.law_built_in_acts.Goals as goal

pub returns : goal.returns
returns c = λ p ready names first store holds f row byte have few. built_ins_fit p ready names first store holds f row byte have few
