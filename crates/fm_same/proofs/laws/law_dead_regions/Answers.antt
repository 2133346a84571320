use Rattle.fm_same.proofs.DeadRuns.{dead_of_run}
use Rattle.fm_same.proofs.laws.law_dead_regions.Goals as goal

pub returns : goal.returns
returns c = dead_of_run
