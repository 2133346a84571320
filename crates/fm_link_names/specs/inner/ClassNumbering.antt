-- The numbers of classes by name, as a map has them.
use Rattle.std.specs.Prelude.{◌≡◌, ℕ, List, Option}
use Rattle.std.specs.Borrow.{Bor}
use Rattle.std.specs.Str.{bytes_eq}
use Rattle.indexmap.specs.IndexMap.{IndexMap, get_by}
use Rattle.fm_world.specs.declared.name_key.NameKey.{NameKey}
use Rattle.fm_world.specs.Descriptors.{class_number}
use Rattle.fm_world.specs.declared.declarations.DeclaredClass.{DeclaredClass}

-- what the map has at a name
abbrev pub number_in : IndexMap (Bor (List ℕ)) ℕ NameKey → List ℕ → Option ℕ
number_in numbers name = get_by (λ (k : Bor (List ℕ)). bytes_eq name k.now) numbers

-- the map has for each name the number of the first class of that name
abbrev pub NumbersClasses : List DeclaredClass → IndexMap (Bor (List ℕ)) ℕ NameKey → Type 0
NumbersClasses classes numbers = (name : List ℕ) → number_in numbers name ≡ class_number classes name
