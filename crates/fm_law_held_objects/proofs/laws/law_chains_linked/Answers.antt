use Rattle.fm_law_held_objects.proofs.Keeping.{keeping_links_chains}
use Rattle.fm_law_held_objects.proofs.laws.law_chains_linked.Goals as goal

pub returns : goal.returns
returns c = keeping_links_chains c.law_new_results.ensures.unheld
