use Rattle.fm_law_two_memories.proofs.Twins.{cells_apart}
use Rattle.fm_law_two_memories.proofs.laws.law_cells.Goals as goal

pub returns : goal.returns
returns c = cells_apart
