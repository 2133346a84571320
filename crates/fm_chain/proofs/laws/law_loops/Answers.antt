use Rattle.fm_chain.proofs.LoopLemmas.{loops_are_by_paths}
use Rattle.fm_chain.proofs.laws.law_loops.Goals as goal

pub returns : goal.returns
returns c = loops_are_by_paths
