-- The entries of a map by name, from which its finite map is made.
use Rattle.std.specs.Prelude.{ℕ, List, [], ◌∷◌, String, string_bytes}

-- the entries of a map, with each key as its bytes
abbrev pub by_bytes : {Y V : Type 0} → List (String Y × V) → List (List ℕ × V)
by_bytes [] = []
by_bytes (e ∷ es) = (string_bytes e.0, e.1) ∷ by_bytes es
