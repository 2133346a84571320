use Rattle.fm_law_lockstep.proofs.KeptTogether.{kept_steps_go_together}
use Rattle.fm_law_lockstep.proofs.laws.law_kept_together.Goals as goal

pub returns : goal.returns
returns c = kept_steps_go_together c.law_kept_steps.ensures c.law_sound.ensures.steps
