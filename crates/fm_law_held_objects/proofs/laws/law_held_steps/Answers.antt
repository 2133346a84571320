use Rattle.fm_law_held_objects.proofs.Steps.{steps_keep_held}
use Rattle.fm_law_held_objects.proofs.laws.law_held_steps.Goals as goal

pub returns : goal.returns
returns c = steps_keep_held c.law_initialised.ensures
