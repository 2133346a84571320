use Rattle.fm_law_reached.proofs.Within.{reached_cover, reached_opening, reached_step}
use Rattle.fm_law_reached.proofs.laws.law_narrowed_states.Goals as goal

pub returns : goal.returns
returns c = record { covered = reached_cover; steps = reached_step; openings = reached_opening }
