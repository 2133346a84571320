use Rattle.fm_law_lockstep.proofs.Renamed.{together_is_renamed}
use Rattle.fm_law_lockstep.proofs.laws.law_renamed.Goals as goal

pub returns : goal.returns
returns c = together_is_renamed
