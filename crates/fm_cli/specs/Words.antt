-- The words of the command line.
use Rattle.std.specs.Prelude.{ℕ, List, String, string_bytes, map}

-- the words by their bytes
abbrev pub texts : {Y : Type 0} → List (String Y) → List (List ℕ)
texts words = map string_bytes words
