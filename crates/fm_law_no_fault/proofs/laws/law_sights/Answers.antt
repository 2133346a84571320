use Rattle.fm_law_no_fault.proofs.StoresKeep.{sees}
use Rattle.fm_law_no_fault.proofs.laws.law_sights.Goals as goal

pub returns : goal.returns
returns c = sees
