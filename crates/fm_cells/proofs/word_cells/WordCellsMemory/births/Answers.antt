use Rattle.fm_cells.specs.Choices.{last_choice}
use Rattle.fm_cells.proofs.Choices.{lawful_choice-may}
use Rattle.fm_cells.proofs.word_cells.WordCellsMemory.births.Goals as goal

pub returns-clause-lawful : goal.returns-clause-lawful
returns-clause-lawful c = λ store request. lawful_choice-may store request (last_choice store request)
