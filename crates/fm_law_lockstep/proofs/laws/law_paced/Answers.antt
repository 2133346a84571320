use Rattle.fm_law_lockstep.proofs.Paced.{locksteps_keep_pace}
use Rattle.fm_law_lockstep.proofs.laws.law_paced.Goals as goal

pub returns : goal.returns
returns c = locksteps_keep_pace
