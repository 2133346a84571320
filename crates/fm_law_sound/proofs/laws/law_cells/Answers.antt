use Rattle.fm_law_sound.proofs.OpeningCells.{opening_holds}
use Rattle.fm_law_sound.proofs.StepCells.{step_holds}
use Rattle.fm_law_sound.proofs.laws.law_cells.Goals as goal

pub returns : goal.returns
returns c = record { steps = step_holds; opening = opening_holds }
