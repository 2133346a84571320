use Rattle.fm_law_no_fault.proofs.SlotsFit.{frame_along}
use Rattle.fm_law_no_fault.proofs.laws.law_cells_fit.Goals as goal

pub returns : goal.returns
returns c = frame_along
