use Rattle.fm_law_two_memories.proofs.NextSame.{continued_same}
use Rattle.fm_law_two_memories.proofs.laws.law_next.Goals as goal

pub returns : goal.returns
returns c = continued_same
