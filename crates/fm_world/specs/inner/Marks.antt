-- How the targets of a call are found: each method has a mark.
use Rattle.std.specs.Prelude.{◌≡◌, ℕ, ◌<◌, Bool, true, false, List, [], length, Option, Some, None, option_to_list, slice_set, if◌then◌else◌}
use Rattle.std.specs.List.{filter_map, slice_index_or}
use Rattle.fm_base.specs.declared.kinds.TypeRef.{TypeRef}
use Rattle.fm_world.specs.Lookups.{object_number, select}
use Rattle.fm_world.specs.Programs.{Program, takes_arrays, takes_class}
use Rattle.fm_world.specs.Chains.{is_among}

-- the marks with one more, where there is a number and it is that of a mark
abbrev pub marked : List Bool → Option ℕ → List Bool
marked marks None = marks
marked marks (Some number) = slice_set marks number true

-- the numbers that are marked are those found
abbrev pub AreMarked : List Bool → List ℕ → Type 0
AreMarked marks found = (number : ℕ) → number < length marks → slice_index_or marks number false ≡ is_among number found

-- the method that is selected for a class, where an object of it can be the receiver
abbrev pub selected_of : Program → TypeRef → ℕ → ℕ → Option ℕ
selected_of p named method class = if takes_class p named class then select p.outline.classes class method else None

-- those that are selected for arrays, where one can be the receiver: one at most
abbrev pub selected_of_arrays : Program → TypeRef → ℕ → List ℕ
selected_of_arrays p named method =
    filter_map (λ class. select p.outline.classes class method)
    (if takes_arrays p.outline.classes named then option_to_list (object_number p.outline.classes) else [])
