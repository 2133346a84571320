use Rattle.fm_law_two_memories.proofs.HiddenFirst.{hidden_first}
use Rattle.fm_law_two_memories.proofs.laws.law_hidden.Goals as goal

pub returns : goal.returns
returns c = hidden_first
