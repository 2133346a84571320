-- The cells of a chain, as the code finds them.
use Rattle.std.specs.Prelude.{ℕ, List, map}
use Rattle.std.specs.Global.{Vec}
use Rattle.fm_cells.specs.declared.answers.Cell.{Cell}

-- their numbers
abbrev pub cells_in : Vec Cell → List ℕ
cells_in cells = map (λ (cell : Cell). cell.0) cells.items
