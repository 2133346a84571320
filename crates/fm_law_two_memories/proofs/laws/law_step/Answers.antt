use Rattle.fm_law_two_memories.proofs.TwoMemories.{steps_go_alike}
use Rattle.fm_law_two_memories.proofs.laws.law_step.Goals as goal

pub returns : goal.returns
returns c = steps_go_alike
