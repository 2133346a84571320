-- Types that get their numbers one after the other.
use Rattle.std.specs.Prelude.{ℕ, List, ◌++◌, map}
use Rattle.std.specs.List.{flat_map, range_with_len}
use Rattle.fm_base.specs.declared.kinds.TypeRef.{TypeRef}
use Rattle.fm_world.specs.Chains.{distinct, same_type}
use Rattle.fm_world.specs.Numbers.{arrays_in, type_of_class}
use Rattle.fm_link_records.specs.inner.InTurn.{with_one, with_all}

-- one type more, unless it is there
abbrev pub with_type : List TypeRef → TypeRef → List TypeRef
with_type types t = with_one same_type types t

-- the same for several types one after the other
abbrev pub with_types : List TypeRef → List TypeRef → List TypeRef
with_types types more = with_all same_type types more

-- the types of a given number of classes, the types that are named, and the arrays that are made with the element types of all of them
unfoldable pub types_by : ℕ → List TypeRef → List TypeRef → List TypeRef
types_by count named made = distinct same_type (map type_of_class (range_with_len 0 count) ++ named ++ flat_map arrays_in (named ++ made))
