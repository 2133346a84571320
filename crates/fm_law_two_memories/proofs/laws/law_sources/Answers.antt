use Rattle.fm_law_two_memories.proofs.SourcesSame.{source_same}
use Rattle.fm_law_two_memories.proofs.laws.law_sources.Goals as goal

pub returns : goal.returns
returns c = source_same
