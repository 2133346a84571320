use Rattle.fm_law_unwoven.proofs.KeptOnwards.{kept_states_go_on}
use Rattle.fm_law_unwoven.proofs.laws.law_kept_states.Goals as goal

pub returns : goal.returns
returns c = kept_states_go_on c.law_kept_steps.ensures c.law_sound.ensures.steps c.law_reached.ensures
