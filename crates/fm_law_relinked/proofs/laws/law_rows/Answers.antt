use Rattle.fm_law_relinked.proofs.FitsBlind.{states_fit}
use Rattle.fm_law_relinked.proofs.RowsBlind.{rows_blind}
use Rattle.fm_law_relinked.proofs.laws.law_rows.Goals as goal

pub returns-clause-rows : goal.returns-clause-rows
returns-clause-rows c = rows_blind

pub returns-clause-fits : goal.returns-clause-fits
returns-clause-fits c = states_fit
