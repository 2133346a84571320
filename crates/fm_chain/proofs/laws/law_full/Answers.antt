use Rattle.fm_chain.proofs.WithoutChains.{full_chains_are_safe}
use Rattle.fm_chain.proofs.laws.law_full.Goals as goal

pub returns : goal.returns
returns c = full_chains_are_safe
