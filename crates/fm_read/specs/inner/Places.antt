-- The places in a code array that tables name by offsets: the items, and after them the code's end.
use Rattle.std.specs.Prelude.{ℕ, suc, ◌+◌, ◌==◌, nat_lt, List, [], ◌∷◌, ◌++◌, length, map, Option, Some, None, if◌then◌else◌}
use Rattle.std.specs.Option.{option_map}
use Rattle.fm_code.specs.inner.Reading.{◌>>=◌}
use Rattle.fm_code.specs.declared.code_array.Item.{Item}
use Rattle.fm_decode.specs.inner.Targets.{item_offset}

-- the offset of each item, and of the end
abbrev pub offsets_of : List Item → ℕ → List ℕ
offsets_of items end = map item_offset items ++ end ∷ []

-- the number of the place at an offset
unfoldable pub find_place : List ℕ → ℕ → Option ℕ
find_place [] target = None
find_place (offset ∷ offsets) target = if offset == target then Some 0 else option_map suc (find_place offsets target)

-- the number of the item at an offset
unfoldable pub find_item : List ℕ → ℕ → Option ℕ
find_item offsets target = do
  place ← find_place offsets target
  if nat_lt (place + 1) (length offsets) then Some place else None
