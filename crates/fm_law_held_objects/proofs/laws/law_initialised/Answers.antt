use Rattle.fm_law_held_objects.proofs.Initialised.{step_initialised}
use Rattle.fm_law_held_objects.proofs.laws.law_initialised.Goals as goal

pub returns : goal.returns
returns c = step_initialised c.law_uninitialised.ensures.steps
