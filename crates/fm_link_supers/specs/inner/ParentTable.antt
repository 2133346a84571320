-- Superclass chains by a table that has the superclass of each class.
use Rattle.std.specs.Prelude.{ℕ, zero, suc, Bool, true, false, List, [], ◌∷◌, length, Option, Some, None}
use Rattle.std.specs.List.{slice_index_or}

-- the superclass of a class, where it has one
abbrev pub parent_at : List (Option ℕ) → ℕ → Option ℕ
parent_at parents class = slice_index_or parents class None

-- whether a given number of superclasses follow
abbrev pub climbs : ℕ → List (Option ℕ) → Option ℕ → Bool
climbs bound parents None = false
climbs zero parents (Some class) = true
climbs (suc bound) parents (Some class) = climbs bound parents (parent_at parents class)

-- a class and its superclasses upwards, of at most a given number of classes
abbrev pub upwards_by : ℕ → List (Option ℕ) → Option ℕ → List ℕ
upwards_by zero parents class = []
upwards_by (suc bound) parents None = []
upwards_by (suc bound) parents (Some class) = class ∷ upwards_by bound parents (parent_at parents class)

-- a class and all its superclasses upwards
abbrev pub chain_by : List (Option ℕ) → ℕ → List ℕ
chain_by parents class = upwards_by (suc (length parents)) parents (Some class)
