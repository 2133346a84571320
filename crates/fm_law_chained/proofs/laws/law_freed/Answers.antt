use Rattle.fm_law_chained.proofs.FreedChains.{chains_are_freed}
use Rattle.fm_law_chained.proofs.laws.law_freed.Goals as goal

pub returns : goal.returns
returns c = chains_are_freed
