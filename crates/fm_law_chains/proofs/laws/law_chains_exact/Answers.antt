use Rattle.fm_law_chains.proofs.ChainedAlike.{chains_serve_alike}
use Rattle.fm_law_chains.proofs.laws.law_chains_exact.Goals as goal

pub returns : goal.returns
returns c = chains_serve_alike
