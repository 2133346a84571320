use Rattle.fm_law_chained.proofs.Walked.{chains_are_walked}
use Rattle.fm_law_chained.proofs.laws.law_walked.Goals as goal

pub returns : goal.returns
returns c = chains_are_walked
