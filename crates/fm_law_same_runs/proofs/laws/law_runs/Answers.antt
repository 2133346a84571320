use Rattle.fm_law_same_runs.proofs.Openings.{runs_go}
use Rattle.fm_law_same_runs.proofs.laws.law_runs.Goals as goal

pub returns : goal.returns
returns c = runs_go
