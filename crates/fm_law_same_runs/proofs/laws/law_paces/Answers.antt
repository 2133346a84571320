use Rattle.fm_law_same_runs.proofs.Paces.{matches_paced, paced_go_together, paced_no_fault}
use Rattle.fm_law_same_runs.proofs.laws.law_paces.Goals as goal

pub returns : goal.returns
returns c = record { together = paced_go_together; matches = matches_paced; faults = paced_no_fault }
