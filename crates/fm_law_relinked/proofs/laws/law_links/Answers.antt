use Rattle.fm_law_relinked.proofs.Links.{chained_link, refusals_same, safe_link}
use Rattle.fm_law_relinked.proofs.laws.law_links.Goals as goal

pub returns-clause-refusals : goal.returns-clause-refusals
returns-clause-refusals c given main plans spelled = refusals_same plans given spelled main

pub returns-clause-safe : goal.returns-clause-safe
returns-clause-safe c = safe_link

pub returns-clause-chains : goal.returns-clause-chains
returns-clause-chains c = chained_link
