-- What the calls return, as functions of the store.
use Rattle.std.specs.Prelude.{ℕ, nat_eq, length, if◌then◌else◌}
use Rattle.std.specs.Option.{option_map}
use Rattle.std.specs.Prelude.{Option, Some, None, Result, Ok, Err}
use Rattle.fm_cells.specs.declared.answers.Head.{Head}
use Rattle.fm_cells.specs.declared.answers.Freed.{Freed}
use Rattle.fm_cells.specs.declared.answers.Freed.TheVariants.{Done, Skipped}
use Rattle.fm_cells.specs.declared.answers.NotHeld.{NotHeld}
use Rattle.fm_cells.specs.Objects.{Object}
use Rattle.fm_cells.specs.Stores.{Store, object_at}

-- the head of an object
abbrev pub head_of : Object → Head
head_of object =
    record { class = object.class; birth = object.birth; len = length object.elements; pack = object.pack; fixed = object.fixed }

-- what `head` returns: the head of the object in the cell, if the cell is held
abbrev pub head_at : Store → ℕ → Option Head
head_at store cell = option_map head_of (object_at store cell)

-- what `free` returns at a cell that isn't null: skipped where its object is fixed
abbrev pub freed_answer : Option Object → Result Freed NotHeld
freed_answer None = Err (record {})
freed_answer (Some object) = (if object.fixed then Ok Skipped else Ok Done)

-- what `free` returns: null is skipped
abbrev pub free_answer : Store → ℕ → Result Freed NotHeld
free_answer store cell = (if nat_eq cell 0 then Ok Skipped else freed_answer (object_at store cell))
