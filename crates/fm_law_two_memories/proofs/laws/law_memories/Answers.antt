use Rattle.fm_law_two_memories.proofs.ReusesSame.{memories_alike, whole_alike}
use Rattle.fm_law_two_memories.proofs.laws.law_memories.Goals as goal

pub returns : goal.returns
returns c = record { states = memories_alike; runs = whole_alike }
