-- The objects in a list of residents: cell 1 is the first of them.
use Rattle.std.specs.Prelude.{ℕ, zero, suc, ◌+◌, List, length, slice_index_or}
use Rattle.std.specs.Prelude.{Option, Some, None}
use Rattle.std.specs.Option.{option_map}
use Rattle.fm_cells.specs.Objects.{Object}
use Rattle.fm_cells.specs.Stores.{Store, no_lists}
use Rattle.fm_cells.specs.inner.Tables.{map_of}
use Rattle.fm_cells.specs.declared.plain_cells.Resident.{Resident}

-- the object in a resident
abbrev pub resident_object : Resident → Object
resident_object resident =
    record { class = resident.class; birth = resident.birth; pack = resident.pack; fixed = resident.fixed; chain = resident.chain; elements = resident.elements.items }

-- the object in a cell
abbrev pub object_in : List (Option Resident) → ℕ → Option Object
object_in residents zero = None
object_in residents (suc place) = option_map resident_object (slice_index_or residents place None)

-- the store that a list of residents and the numbers beside it are
abbrev pub plain_of : List (Option Resident) → ℕ → ℕ → ℕ → ℕ → List ℕ → Store
plain_of residents budget limit made_words peak made =
    record {
      held = map_of (object_in residents) (length residents + 1);
      budget = budget;
      limit = Some limit;
      births = length residents;
      made_words = made_words;
      peak = peak;
      made = made;
      free = no_lists;
    }
