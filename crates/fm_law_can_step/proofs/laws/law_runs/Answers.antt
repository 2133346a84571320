use Rattle.fm_law_can_step.proofs.Constants.{start_fits}
use Rattle.fm_law_can_step.proofs.Loops.{opened_steady, steady}
use Rattle.fm_law_can_step.proofs.Openings.{opened_births}
use Rattle.fm_law_can_step.proofs.laws.law_runs.Goals as goal

pub returns : goal.returns
returns c = record { steps = steady; opening = opened_steady; opening_starts = start_fits; opening_births = opened_births }
