use Rattle.fm_law_reached.proofs.Openings.{runs_stay}
use Rattle.fm_law_reached.proofs.Steps.{step_stays}
use Rattle.fm_law_reached.proofs.laws.law_stays_in_reach.Goals as goal

pub returns : goal.returns
returns c = record { steps = step_stays; runs = runs_stay }
