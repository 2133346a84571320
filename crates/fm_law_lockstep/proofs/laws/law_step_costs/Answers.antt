use Rattle.fm_law_lockstep.proofs.StepCosts.{shallow_steps_cost}
use Rattle.fm_law_lockstep.proofs.laws.law_step_costs.Goals as goal

pub returns : goal.returns
returns c = shallow_steps_cost c.law_rows.ensures
