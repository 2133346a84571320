use Rattle.fm_law_unwoven.proofs.WovenPrograms.{chains_woven}
use Rattle.fm_law_unwoven.proofs.laws.law_chained_woven.Goals as goal

pub returns : goal.returns
returns c = chains_woven c.law_class_types.ensures c.law_resolved.ensures
