use Rattle.fm_law_lockstep.proofs.KeptCosts.{together_costs_same}
use Rattle.fm_law_lockstep.proofs.laws.law_costs.Goals as goal

pub returns : goal.returns
returns c = together_costs_same
