use Rattle.fm_law_chained.proofs.ChainedAreas.{chaining_keeps_paired}
use Rattle.fm_law_chained.proofs.laws.law_paired.Goals as goal

pub returns : goal.returns
returns c = chaining_keeps_paired
