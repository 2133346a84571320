-- Descriptors read from their bytes: the types that they name, and what these are in a list of classes (JVMS 4.3).
use Rattle.std.specs.Prelude.{ℕ, ◌+◌, ◌-◌, ◌==◌, ◌||◌, List, [], ◌∷◌, ◌++◌, length, take, drop, map, position, Option, Some, None, unwrap_or, option_map, option_and_then, if◌then◌else◌, sum_by}
use Rattle.std.specs.Str.{bytes_eq}
use Rattle.fm_base.specs.Kinds.{kind_words}
use Rattle.fm_base.specs.declared.characters.TheConstants.{BOOLEAN_LETTER, BYTE_LETTER, CHAR_LETTER, CLASS_LETTER, INT_LETTER, LEFT_BRACKET, LEFT_PARENTHESIS, LONG_LETTER, RIGHT_PARENTHESIS, SEMICOLON, SHORT_LETTER}
use Rattle.fm_base.specs.declared.kinds.Base.{Base}
use Rattle.fm_base.specs.declared.kinds.Base.TheVariants as base
use Rattle.fm_base.specs.declared.kinds.Kind.{Kind}
use Rattle.fm_base.specs.declared.kinds.Kind.TheVariants as kind
use Rattle.fm_base.specs.declared.kinds.TypeRef.{TypeRef}
use Rattle.fm_code.specs.Names.{BaseType, primitive, object, FieldType}
use Rattle.fm_world.specs.declared.declarations.DeclaredClass.{DeclaredClass}

-- ---- types by their names

-- a type of a given number of dimensions
abbrev pub typed : ℕ → BaseType → FieldType
typed dimensions base = record { dimensions = dimensions; base = base }

-- The types in a descriptor from left to right, V among them. At a type the dimensions so far are counted; in a class's name, its characters so
-- far are kept. Parentheses occur only between types.
abbrev pub types_from : ℕ → Option (List ℕ) → List ℕ → List FieldType
types_from dimensions name [] = []
types_from dimensions None (c ∷ rest) =
    if c == LEFT_BRACKET then types_from (dimensions + 1) None rest else
    if c == CLASS_LETTER then types_from dimensions (Some []) rest else
    if (c == LEFT_PARENTHESIS) || (c == RIGHT_PARENTHESIS) then types_from 0 None rest else
    typed dimensions (primitive c) ∷ types_from 0 None rest
types_from dimensions (Some name) (c ∷ rest) =
    if c == SEMICOLON then typed dimensions (object name) ∷ types_from 0 None rest else types_from dimensions (Some (name ++ c ∷ [])) rest

-- all types of a descriptor, its result last (JVMS 4.3.3)
abbrev pub types_in : List ℕ → List FieldType
types_in descriptor = types_from 0 None descriptor

-- the type of a field, and where there is none that of V
abbrev pub first_type : List FieldType → FieldType
first_type [] = typed 0 (primitive 0)
first_type (t ∷ types) = t

-- the type of a field's descriptor (JVMS 4.3.2)
abbrev pub field_type : List ℕ → FieldType
field_type descriptor = first_type (types_in descriptor)

-- the last type of a method's descriptor is its result, and the others are its parameters
abbrev pub parameter_types : List ℕ → List FieldType
parameter_types descriptor = let types = types_in descriptor in take (length types - 1) types

-- the type that a method returns
abbrev pub result_type : List ℕ → FieldType
result_type descriptor = let types = types_in descriptor in first_type (drop (length types - 1) types)

-- the type that a Class entry names: an array by its descriptor, and else a class by its name (JVMS 4.4.1)
abbrev pub class_type : List ℕ → FieldType
class_type [] = typed 0 (object [])
class_type (c ∷ rest) = if c == LEFT_BRACKET then field_type (c ∷ rest) else typed 0 (object (c ∷ rest))

-- the class of a type, or of what its elements are at the innermost dimension
abbrev pub class_in : FieldType → Option (List ℕ)
class_in t = name_of t.base where
  name_of : BaseType → Option (List ℕ)
  name_of (object name) = Some name
  name_of (primitive letter) = None

-- ---- types in a list of classes

-- the number of the first class of that name
abbrev pub class_number : List DeclaredClass → List ℕ → Option ℕ
class_number classes name = position (λ c. bytes_eq c.name name) classes

-- the base of a class's number
abbrev pub of_class : ℕ → Base
of_class class = base.OfClass (record { 0 = class })

-- what a letter stands for; F, D and V stand for nothing that a program has
abbrev pub primitive_base : ℕ → Option Base
primitive_base letter =
    if letter == BOOLEAN_LETTER then Some base.Boolean else
    if letter == BYTE_LETTER then Some base.Byte else
    if letter == CHAR_LETTER then Some base.Char else
    if letter == SHORT_LETTER then Some base.Short else
    if letter == INT_LETTER then Some base.Int else
    if letter == LONG_LETTER then Some base.Long else
    None

-- the base that a name stands for, none where there is no such class
abbrev pub base_in : List DeclaredClass → BaseType → Option Base
base_in classes (primitive letter) = primitive_base letter
base_in classes (object name) = option_map of_class (class_number classes name)

-- a base with dimensions: a letter without any is no type of objects
abbrev pub type_with : ℕ → Base → Option TypeRef
type_with dimensions (base.OfClass class) = Some (record { dims = dimensions; base = base.OfClass class })
type_with dimensions b = if dimensions == 0 then None else Some (record { dims = dimensions; base = b })

-- the type of objects, where it is one and its class is there
abbrev pub type_in : List DeclaredClass → FieldType → Option TypeRef
type_in classes t = option_and_then (type_with t.dimensions) (base_in classes t.base)

-- what values of the base with these dimensions are
abbrev pub kind_with : ℕ → Base → Kind
kind_with dimensions b = if dimensions == 0 then of_base b else kind.Ref (record { dims = dimensions; base = b }) where
  of_base : Base → Kind
  of_base base.Boolean = kind.Boolean
  of_base base.Byte = kind.Byte
  of_base base.Char = kind.Char
  of_base base.Short = kind.Short
  of_base base.Int = kind.Int
  of_base base.Long = kind.Long
  of_base (base.OfClass class) = kind.Ref (record { dims = 0; base = base.OfClass class })

-- the kind of a type; none for V, and for floats and doubles, which no program declares
abbrev pub kind_in : List DeclaredClass → FieldType → Option Kind
kind_in classes t = option_map (kind_with t.dimensions) (base_in classes t.base)

-- the kind of a declared type, which a linked program has
abbrev pub declared_kind : List DeclaredClass → FieldType → Kind
declared_kind classes t = unwrap_or (kind_in classes t) kind.Int

-- the kinds of a method's parameters
abbrev pub parameter_kinds : List DeclaredClass → List ℕ → List Kind
parameter_kinds classes descriptor = map (declared_kind classes) (parameter_types descriptor)

-- the kind that a method returns, none where it returns nothing
abbrev pub result_kind : List DeclaredClass → List ℕ → Option Kind
result_kind classes descriptor = kind_in classes (result_type descriptor)

-- the words of a method's arguments, without the receiver
abbrev pub argument_word_count : List DeclaredClass → List ℕ → ℕ
argument_word_count classes descriptor = sum_by kind_words (parameter_kinds classes descriptor)
