-- What the words say where they name no class files.
use Rattle.std.specs.Prelude.{ℕ, List, Option}
use Rattle.clap.specs.Words.{Row}
use Rattle.fm_cli_requests.specs.ClassFiles.{NameClasses}

-- they are named in neither way
abbrev pub NameNoClasses : List ℕ → List Row → Type 0
NameNoClasses id matches = (main : List ℕ) (files : List (List ℕ)) (made : Option ℕ) → ¬ NameClasses id matches main files made
