use Rattle.fm_chain.proofs.LaidChains.{chained_anchors_are_anchors, chained_is_laid_out}
use Rattle.fm_chain.proofs.laws.law_laid_out.Goals as goal

pub returns-clause-items : goal.returns-clause-items
returns-clause-items c = chained_is_laid_out

pub returns-clause-anchors : goal.returns-clause-anchors
returns-clause-anchors c = chained_anchors_are_anchors
