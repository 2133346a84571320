use Rattle.fm_law_unwoven.proofs.RunsCleared.{runs_cleared}
use Rattle.fm_law_unwoven.proofs.laws.law_runs.Goals as goal

pub returns : goal.returns
returns c = runs_cleared c.law_kept_states.ensures c.law_openings.ensures
