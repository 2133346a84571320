-- Records by number; and what descriptors declare, and codes, behind references.
use Rattle.std.specs.Prelude.{ℕ, ◌+◌, List, [], ◌∷◌, map, Option, option_copied}
use Rattle.std.specs.Borrow.{Bor}
use Rattle.fm_code.specs.Members.{code_of}
use Rattle.fm_code.specs.declared.code_array.Code.{Code}
use Rattle.fm_link_names.specs.declared.given.GivenFile.{GivenFile}
use Rattle.fm_link_names.specs.declared.descriptors.Kinds.{Kinds}

-- what is made of each element with its number, where the first one has this number
abbrev pub map_from : {A B : Type 0} → (ℕ → A → B) → ℕ → List A → List B
map_from f n [] = []
map_from f n (x ∷ xs) = f n x ∷ map_from f (n + 1) xs

-- what lent descriptors declare
abbrev pub lent_kinds : List (Option (Bor Kinds)) → List (Option Kinds)
lent_kinds kinds = map (λ (o : Option (Bor Kinds)). option_copied o) kinds

-- the codes that are lent
abbrev pub lent_codes : List (Option (Bor Code)) → List (Option Code)
lent_codes codes = map (λ (o : Option (Bor Code)). option_copied o) codes

-- the codes of a file's methods
abbrev pub codes_in : GivenFile → List (Option Code)
codes_in file = map code_of file.class.now.methods
