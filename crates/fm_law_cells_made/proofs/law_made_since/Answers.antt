use Rattle.fm_law_cells_made.proofs.Runs.{made_since, opened_is_last_reused}
use Rattle.fm_law_cells_made.proofs.law_made_since.Goals as goal

pub returns-clause-since : goal.returns-clause-since
returns-clause-since c = made_since

pub returns-clause-opened : goal.returns-clause-opened
returns-clause-opened c = opened_is_last_reused
