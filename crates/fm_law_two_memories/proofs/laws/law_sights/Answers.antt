use Rattle.fm_law_two_memories.proofs.SightsSame.{sights_same}
use Rattle.fm_law_two_memories.proofs.laws.law_sights.Goals as goal

pub returns : goal.returns
returns c = sights_same
