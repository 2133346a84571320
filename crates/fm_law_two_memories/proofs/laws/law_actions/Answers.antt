use Rattle.fm_law_two_memories.proofs.StepActs.{actions_alike}
use Rattle.fm_law_two_memories.proofs.laws.law_actions.Goals as goal

pub returns : goal.returns
returns c = actions_alike
