use Rattle.fm_chain.proofs.WithoutChains.{classes_are_rewritten, codes_are_woven}
use Rattle.fm_chain.proofs.laws.law_without_chains.Goals as goal

pub returns : goal.returns
returns c = record { codes = codes_are_woven; classes = classes_are_rewritten }
