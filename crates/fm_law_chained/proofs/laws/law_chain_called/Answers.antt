use Rattle.fm_law_chained.proofs.CalledSteps.{chains_fault, chains_free}
use Rattle.fm_law_chained.proofs.laws.law_chain_called.Goals as goal

pub returns : goal.returns
returns c = record { freed = chains_free; lost = chains_fault }
