-- Tables that have a list of numbers for each class.
use Rattle.std.specs.Prelude.{ℕ, List, [], map}
use Rattle.std.specs.Global.{Vec}
use Rattle.std.specs.List.{slice_index_or}

-- the lists of a table
abbrev pub lists : List (Vec ℕ) → List (List ℕ)
lists table = map (λ (list : Vec ℕ). list.items) table

-- the list at a place, or the empty one past the end
abbrev pub list_in : List (Vec ℕ) → ℕ → List ℕ
list_in table place = slice_index_or (lists table) place []
