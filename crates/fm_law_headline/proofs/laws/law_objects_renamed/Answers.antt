use Rattle.fm_law_headline.proofs.Renamed.{objects_renamed}
use Rattle.fm_law_headline.proofs.laws.law_objects_renamed.Goals as goal

pub returns : goal.returns
returns c = objects_renamed c.law_resolved.ensures c.law_cells.ensures c.law_without_frees.ensures c.law_woven.ensures c.law_retired.ensures
