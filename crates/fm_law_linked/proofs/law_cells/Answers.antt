use Rattle.fm_law_linked.proofs.CellCalls.{calls_fit}
use Rattle.fm_law_linked.proofs.law_cells.Goals as goal

pub returns : goal.returns
returns c given main spelled supported none few =
    let fit = c.law_cell_places.ensures given main spelled none few in
    record { built_in = fit.0; places = fit.1; calls = calls_fit given main spelled supported none }
