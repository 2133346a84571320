-- Finite maps that are given by their values at the first numbers.
use Rattle.std.specs.Prelude.{ℕ, zero, suc}
use Rattle.std.specs.Prelude.{Option, Some, None}
use Rattle.std.specs.Ordering.{nat_cmp}
use Rattle.std.specs.FinMap as map
use Rattle.fm_cells.specs.Objects.{Object}

-- the map with one more entry, if there is an object
abbrev pub with_entry : Option Object → ℕ → map.FinMap nat_cmp Object → map.FinMap nat_cmp Object
with_entry None cell held = held
with_entry (Some object) cell held = map.insert held cell object

-- the map of the cells below n to the objects in them
unfoldable pub map_of : (ℕ → Option Object) → ℕ → map.FinMap nat_cmp Object
map_of object_in zero = map.empty
map_of object_in (suc n) = with_entry (object_in n) n (map_of object_in n)
