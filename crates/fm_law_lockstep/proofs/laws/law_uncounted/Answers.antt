use Rattle.fm_law_lockstep.proofs.Uncounted.{steps_are_uncounted}
use Rattle.fm_law_lockstep.proofs.laws.law_uncounted.Goals as goal

pub returns : goal.returns
returns c = steps_are_uncounted
