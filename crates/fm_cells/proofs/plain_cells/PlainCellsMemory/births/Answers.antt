use Rattle.fm_cells.specs.Choices.{never_choice}
use Rattle.fm_cells.proofs.Choices.{lawful_choice-may}
use Rattle.fm_cells.proofs.plain_cells.PlainCellsMemory.births.Goals as goal

pub returns-clause-lawful : goal.returns-clause-lawful
returns-clause-lawful c = λ store request. lawful_choice-may store request (never_choice store request)
