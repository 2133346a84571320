use Rattle.fm_law_sound.proofs.StepsSound.{step_sound}
use Rattle.fm_law_sound.proofs.laws.law_step.Goals as goal

pub returns : goal.returns
returns c = step_sound
