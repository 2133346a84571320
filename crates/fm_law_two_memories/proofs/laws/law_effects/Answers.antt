use Rattle.fm_law_two_memories.proofs.EffectsSame.{effects_same}
use Rattle.fm_law_two_memories.proofs.laws.law_effects.Goals as goal

pub returns : goal.returns
returns c = effects_same
