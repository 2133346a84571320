use Rattle.fm_law_unwoven.proofs.KeptOnwards.{frames_reach}
use Rattle.fm_law_unwoven.proofs.laws.law_reached.Goals as goal

pub returns : goal.returns
returns c = frames_reach c.law_sites.ensures.nodes
