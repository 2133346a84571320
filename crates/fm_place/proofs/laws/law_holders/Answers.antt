use Rattle.fm_place.proofs.HolderLemmas.{holders_are, holders_few}
use Rattle.fm_place.proofs.PlanLemmas.{sites_told}
use Rattle.fm_place.proofs.laws.law_holders.Goals as goal

pub returns : goal.returns
returns c = record { told = sites_told; all = holders_are; few = holders_few }
