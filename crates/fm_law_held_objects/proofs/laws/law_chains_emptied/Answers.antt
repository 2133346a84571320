use Rattle.fm_law_held_objects.proofs.AllFrees.{frees_empty_chains}
use Rattle.fm_law_held_objects.proofs.laws.law_chains_emptied.Goals as goal

pub returns : goal.returns
returns c = frees_empty_chains
