use Rattle.fm_law_two_memories.proofs.DeadUnseen.{dead_is_unseen}
use Rattle.fm_law_two_memories.proofs.laws.law_unseen.Goals as goal

pub returns : goal.returns
returns c = dead_is_unseen
