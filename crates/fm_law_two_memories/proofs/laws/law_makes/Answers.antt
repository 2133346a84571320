use Rattle.fm_law_two_memories.proofs.MakesSame.{made_alike}
use Rattle.fm_law_two_memories.proofs.laws.law_makes.Goals as goal

pub returns : goal.returns
returns c = made_alike
