-- What the code sees of an operand that is to be a reference.
use Rattle.std.specs.Prelude.{◌==◌, if◌then◌else◌, Option, Some, None}
use Rattle.fm_cells.specs.Answers.{head_at}
use Rattle.fm_cells.specs.Stores.{Store}
use Rattle.fm_cells.specs.declared.answers.Cell.{Cell}
use Rattle.fm_cells.specs.declared.answers.Head.{Head}
use Rattle.fm_frames.specs.declared.looks.Look.{Look}
use Rattle.fm_frames.specs.declared.looks.Look.TheVariants as look
use Rattle.fm_frames.specs.declared.values.Value.{Value}
use Rattle.fm_frames.specs.declared.values.Value.TheVariants as value

-- a cell that a reference leads to: an object by its head, or gone
abbrev pub look_head : Cell → Option Head → Look
look_head cell None = look.Gone cell
look_head cell (Some head) = look.Object cell head

-- what the code sees of an operand: null, an object, a cell whose object is gone, or no reference
abbrev pub look_at : Store → Option Value → Look
look_at store None = look.Other
look_at store (Some value.Top) = look.Other
look_at store (Some (value.Int n)) = look.Other
look_at store (Some (value.Long n)) = look.Other
look_at store (Some (value.Ref cell)) = if cell.0 == 0 then look.Null else look_head cell (head_at store cell.0)

-- the cell and the head of an object that is seen
abbrev pub object_in : Look → Option (Cell × Head)
object_in look.Other = None
object_in look.Null = None
object_in (look.Gone cell) = None
object_in (look.Object cell head) = Some (cell, head)
