use Rattle.fm_law_unwoven.proofs.WovenPrograms.{programs_woven}
use Rattle.fm_law_unwoven.proofs.laws.law_woven.Goals as goal

pub returns : goal.returns
returns c = programs_woven c.law_class_types.ensures c.law_resolved.ensures
