use Rattle.fm_law_two_memories.proofs.EndsSame.{ends_alike}
use Rattle.fm_law_two_memories.proofs.TwoMemories.{runs_go_alike, same_limits}
use Rattle.fm_law_two_memories.proofs.laws.law_runs.Goals as goal

pub returns : goal.returns
returns c = record { alike = runs_go_alike; same = same_limits; ends = ends_alike }
