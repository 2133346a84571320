use Rattle.fm_law_no_fault.proofs.ActsKeep.{acts_keep}
use Rattle.fm_law_no_fault.proofs.laws.law_whole_areas.Goals as goal

pub returns : goal.returns
returns c = acts_keep
