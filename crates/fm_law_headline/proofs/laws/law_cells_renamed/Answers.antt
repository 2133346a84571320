use Rattle.fm_law_headline.proofs.Renamed.{classes_renamed, woven_renamed}
use Rattle.fm_law_headline.proofs.laws.law_cells_renamed.Goals as goal

pub returns : goal.returns
returns c =
    classes_renamed c.law_resolved.ensures c.law_cells.ensures c.law_without_frees.ensures c.law_woven.ensures c.law_cleared.ensures.few
    (woven_renamed c.law_lockstep.ensures c.law_opens.ensures c.law_costs.ensures c.law_renamed.ensures)
