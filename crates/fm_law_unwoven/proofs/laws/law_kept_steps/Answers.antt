use Rattle.fm_law_unwoven.proofs.KeptSteps.{kept_steps}
use Rattle.fm_law_unwoven.proofs.laws.law_kept_steps.Goals as goal

pub returns : goal.returns
returns c = kept_steps c.law_sound.ensures.steps
