use Rattle.fm_law_lockstep.proofs.Wanting.{wanting_steps_do_nothing}
use Rattle.fm_law_lockstep.proofs.laws.law_wanting.Goals as goal

pub returns : goal.returns
returns c = wanting_steps_do_nothing
