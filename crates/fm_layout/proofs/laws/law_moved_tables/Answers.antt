use Rattle.fm_layout.proofs.TablesLemmas.{tables_valid}
use Rattle.fm_layout.proofs.laws.law_moved_tables.Goals as goal

pub returns : goal.returns
returns c = tables_valid
