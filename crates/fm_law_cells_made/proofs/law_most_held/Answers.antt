use Rattle.fm_law_cells_made.proofs.Runs.{made_is_most_held}
use Rattle.fm_law_cells_made.proofs.law_most_held.Goals as goal

pub returns : goal.returns
returns c = made_is_most_held
