use Rattle.fm_law_spelled.proofs.ApartLemmas.{names_apart}
use Rattle.fm_law_spelled.proofs.laws.law_names_apart.Goals as goal

pub returns : goal.returns
returns c = names_apart
