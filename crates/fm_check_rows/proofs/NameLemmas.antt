-- The first class of a name, looked for from the first class on.
use Rattle.std.proofs.Common.{◌≡◌, ◌∙◌, ap, ℕ, ◌+◌, ◌<◌, ◌≤◌, cond, true, false, List, ◌∷◌, length, drop, drop-cons, add-one, Some, None}
use Rattle.std.specs.List.{position_from}
use Rattle.std.specs.Str.{bytes_eq}
use Rattle.std.proofs.lemmas.Iterator.Adapters.{position_from-zero}
use Rattle.std.proofs.lemmas.List.{drop_all}
use Rattle.fm_world.specs.Chains.{class_at}
use Rattle.fm_world.specs.Declarations.{no_class}
use Rattle.fm_world.specs.Descriptors.{class_number}
use Rattle.fm_world.specs.declared.declarations.DeclaredClass.{DeclaredClass}

-- the class of the name is one of those from this number on, or none is
abbrev pub IsFrom : List DeclaredClass → List ℕ → ℕ → Type 0
IsFrom classes name k = class_number classes name ≡ position_from (λ c. bytes_eq c.name name) k (drop k classes)

pub from_first : (classes : List DeclaredClass) (name : List ℕ) → IsFrom classes name 0
from_first classes name = position_from-zero (λ (c : DeclaredClass). bytes_eq c.name name) classes

-- one class is tried
from_here : (classes : List DeclaredClass) (name : List ℕ) (k : ℕ) → k < length classes → IsFrom classes name k
    → class_number classes name
    ≡ cond (bytes_eq (class_at classes k).name name) (Some k) (position_from (λ c. bytes_eq c.name name) (k + 1) (drop (k + 1) classes))
from_here classes name k inside from =
    let here : drop k classes ≡ class_at classes k ∷ drop (k + 1) classes = rw add-one (drop-cons classes k no_class inside) in
    from ∙ ap (position_from (λ (c : DeclaredClass). bytes_eq c.name name) k) here

pub from_found : (classes : List DeclaredClass) (name : List ℕ) (k : ℕ) → k < length classes → IsFrom classes name k
    → bytes_eq (class_at classes k).name name ≡ true → class_number classes name ≡ Some k
from_found classes name k inside from same =
    from_here classes name k inside from
    ∙ ap (λ b. cond b (Some k) (position_from (λ (c : DeclaredClass). bytes_eq c.name name) (k + 1) (drop (k + 1) classes))) same

pub from_next : (classes : List DeclaredClass) (name : List ℕ) (k : ℕ) → k < length classes → IsFrom classes name k
    → bytes_eq (class_at classes k).name name ≡ false → IsFrom classes name (k + 1)
from_next classes name k inside from other =
    from_here classes name k inside from
    ∙ ap (λ b. cond b (Some k) (position_from (λ (c : DeclaredClass). bytes_eq c.name name) (k + 1) (drop (k + 1) classes))) other

pub from_past : (classes : List DeclaredClass) (name : List ℕ) (k : ℕ) → length classes ≤ k → IsFrom classes name k
    → class_number classes name ≡ None
from_past classes name k past from =
    from ∙ ap (position_from (λ (c : DeclaredClass). bytes_eq c.name name) k) (drop_all k classes past)
