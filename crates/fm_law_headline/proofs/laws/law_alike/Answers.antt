use Rattle.fm_law_headline.proofs.Alike.{classes_alike, woven_alike}
use Rattle.fm_law_headline.proofs.laws.law_alike.Goals as goal

pub returns : goal.returns
returns c =
    classes_alike c.law_resolved.ensures c.law_cells.ensures c.law_without_frees.ensures c.law_woven.ensures c.law_cleared.ensures.few
    (woven_alike c.law_lockstep.ensures c.law_opens.ensures c.law_costs.ensures)
