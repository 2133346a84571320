-- The nodes at a call of the ends that a method lists, by their numbers there.
use Rattle.std.specs.Prelude.{ℕ, ◌==◌, List, [], ◌∷◌, Option, Some, None, if◌then◌else◌}
use Rattle.std.specs.List.{flat_map}
use Rattle.fm_conn.specs.Summaries.{end_number}
use Rattle.fm_conn.specs.declared.ends.End2.{End2}

-- an end's number with its class
abbrev pub with_number : Option ℕ → ℕ → List (ℕ × ℕ)
with_number None x = []
with_number (Some n) x = (n, x) ∷ []

-- for each end of the call that the method lists, its number there, and the number of its node
abbrev pub numbered : List (End2 × ℕ) → List (End2 × ℕ) → List (ℕ × ℕ)
numbered entries ends = flat_map (λ e. with_number (end_number entries e.0) e.1) ends

-- the node of the first end of this number
abbrev pub first_with : List (ℕ × ℕ) → ℕ → ℕ → ℕ
first_with [] n otherwise = otherwise
first_with (x ∷ xs) n otherwise = if x.0 == n then x.1 else first_with xs n otherwise

-- a node with another one, unless that is itself
abbrev pub pair_unless_same : ℕ → ℕ → List (ℕ × ℕ)
pair_unless_same x first = if x == first then [] else (x, first) ∷ []

-- each with the first one that has its number, and so is linked with it
abbrev pub first_pairs : List (ℕ × ℕ) → List (ℕ × ℕ) → List (ℕ × ℕ)
first_pairs all found = flat_map (λ x. pair_unless_same x.1 (first_with all x.0 x.1)) found

-- the nodes of ends that are linked are paired
abbrev pub link_pairs : List (End2 × ℕ) → List (End2 × ℕ) → List (ℕ × ℕ)
link_pairs ends entries = let found = numbered entries ends in first_pairs found found
