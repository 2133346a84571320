use Rattle.fm_law_lockstep.proofs.StepsTogether.{locksteps_step}
use Rattle.fm_law_lockstep.proofs.laws.law_lockstep.Goals as goal

pub returns : goal.returns
returns c = locksteps_step c.law_kept_together.ensures c.law_known.ensures.next c.law_step_costs.ensures c.law_caught_up.ensures
