use Rattle.fm_law_chained.proofs.Links.{chains_are_linked, chains_stay_linked, links_stay}
use Rattle.fm_law_chained.proofs.laws.law_linked.Goals as goal

pub returns : goal.returns
returns c = record { first = chains_are_linked; others = chains_stay_linked; stay = links_stay }
