use Rattle.fm_law_linked.proofs.CellTypes.{places_fit}
use Rattle.fm_law_linked.proofs.law_cell_places.Goals as goal
use Rattle.fm_world.specs.Programs.{program_of}

pub returns : goal.returns
returns c given main spelled none few =
    let resolved = c.law_resolved.ensures given main spelled none few in
    (c.law_built_ins.ensures (program_of given main) resolved, places_fit given main spelled none resolved.runnable)
