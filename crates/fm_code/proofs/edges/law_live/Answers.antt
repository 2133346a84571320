use Rattle.fm_code.proofs.EdgesLemmas.{Live-before_edge}
use Rattle.fm_code.proofs.edges.law_live.Goals as goal

pub returns-clause-before_edge : goal.returns-clause-before_edge
returns-clause-before_edge c = Live-before_edge
