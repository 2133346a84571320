use Rattle.fm_law_lockstep.proofs.WordsWithin.{steps_stay_within}
use Rattle.fm_law_lockstep.proofs.laws.law_within.Goals as goal

pub returns : goal.returns
returns c = steps_stay_within
