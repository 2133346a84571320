use Rattle.fm_law_woven_flow.proofs.Standing.{codes_stand}
use Rattle.fm_law_woven_flow.proofs.laws.law_stands.Goals as goal

pub returns : goal.returns
returns c = codes_stand
