-- Types as descriptors name them, lent from their bytes (JVMS 4.3).
use Rattle.std.specs.Prelude.{◌≡◌, ℕ, ◌+◌, ◌==◌, List, [], ◌∷◌, ◌++◌, Option, Some, None, if◌then◌else◌}
use Rattle.std.specs.Borrow.{Bor}
use Rattle.fm_base.specs.declared.characters.TheConstants.{LEFT_BRACKET, LEFT_PARENTHESIS, RIGHT_PARENTHESIS}
use Rattle.fm_code.specs.Names.{BaseType, primitive, object, FieldType}
use Rattle.fm_link_names.specs.declared.first_types.NamedBase.{NamedBase}
use Rattle.fm_link_names.specs.declared.first_types.NamedBase.TheVariants as named
use Rattle.fm_link_names.specs.declared.first_types.NamedType.{NamedType}
use Rattle.fm_world.specs.Descriptors.{typed, types_from, types_in}

-- the base of a type that is read: a letter, or the name of a class
abbrev pub base_named : NamedBase → BaseType
base_named (named.Letter letter) = primitive letter
base_named (named.Class name) = object name.now

-- the type that is read
abbrev pub type_named : NamedType → FieldType
type_named t = typed t.dimensions (base_named t.base)

-- the dimensions after a bracket or a parenthesis; none where a type begins
abbrev pub skipped : ℕ → ℕ → Option ℕ
skipped c dimensions =
    if c == LEFT_BRACKET then Some (dimensions + 1) else
    if c == LEFT_PARENTHESIS then Some 0 else
    if c == RIGHT_PARENTHESIS then Some 0 else
    None

-- the rest of a class's name and the bytes after its semicolon, whatever comes before
abbrev pub SplitsClass : List ℕ → Option (Bor (List ℕ) × Bor (List ℕ)) → Type 0
SplitsClass bytes None = (dimensions : ℕ) (name : List ℕ) → types_from dimensions (Some name) bytes ≡ []
SplitsClass bytes (Some p) =
    (dimensions : ℕ) (name : List ℕ) → types_from dimensions (Some name) bytes ≡ typed dimensions (object (name ++ p.0.now)) ∷ types_in p.1.now

-- the first of the types with the bytes of the others, or none
abbrev pub IsFirstType : List FieldType → Option (NamedType × Bor (List ℕ)) → Type 0
IsFirstType types None = types ≡ []
IsFirstType types (Some p) = types ≡ type_named p.0 ∷ types_in p.1.now
