use Rattle.fm_cells.proofs.SizeLaws.{words-le-cell_words, cell_words-lt-double}
use Rattle.fm_cells.proofs.laws.law_cell_words.Goals as goal

pub returns-clause-room : goal.returns-clause-room
returns-clause-room c = words-le-cell_words

pub returns-clause-below_double : goal.returns-clause-below_double
returns-clause-below_double c = cell_words-lt-double
