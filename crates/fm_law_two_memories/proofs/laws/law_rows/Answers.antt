use Rattle.fm_law_two_memories.proofs.TwoMemories.{next_effects_alike}
use Rattle.fm_law_two_memories.proofs.laws.law_rows.Goals as goal

pub returns : goal.returns
returns c = next_effects_alike
