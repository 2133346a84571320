use Rattle.fm_law_can_step.proofs.Premises.{can_step}
use Rattle.fm_law_can_step.proofs.laws.law_steps.Goals as goal

pub returns : goal.returns
returns c = can_step
