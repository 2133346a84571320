-- Names and descriptors as bytes (JVMS 4.2, 4.3).
use Rattle.std.specs.Prelude.{◌≡◌, ℕ, zero, ◌+◌, ◌<◌, ◌≤◌, ◌==◌, ◌||◌, ◌&&◌, ◌⊎◌, not, Bool, true, false, List, [], ◌∷◌, ◌++◌, replicate, codes, Option, Some, None, IfSome, if◌then◌else◌, sum_by}
use Rattle.std.specs.List.{flat_map, list_all, AllByRecursion}
use Rattle.fm_base.specs.declared.characters.TheConstants.{BOOLEAN_LETTER, BYTE_LETTER, CHAR_LETTER, CLASS_LETTER, DOT, DOUBLE_LETTER, FLOAT_LETTER, GREATER_THAN, INT_LETTER, LEFT_BRACKET, LEFT_PARENTHESIS, LESS_THAN, LONG_LETTER, RIGHT_PARENTHESIS, SEMICOLON, SHORT_LETTER, SLASH, VOID_LETTER}

-- ---- names (JVMS 4.2)

-- a character that may be in a field's or a method's name, or in a part of a class's name: none of . ; [ /
abbrev pub is_name_character : ℕ → Bool
is_name_character c = not ((c == DOT) || (c == SEMICOLON) || (c == LEFT_BRACKET) || (c == SLASH))

-- a name without parts: at least one character, and only such
abbrev pub is_unqualified : List ℕ → Bool
is_unqualified [] = false
is_unqualified (c ∷ rest) = list_all is_name_character (c ∷ rest)

-- a method's name has no < or >, unless it is that of a constructor or of a class's start
abbrev pub is_method_name : List ℕ → Bool
is_method_name name =
    is_unqualified name && (list_all (λ c. not ((c == LESS_THAN) || (c == GREATER_THAN))) name || is_text name (codes "<init>") || is_text name (codes "<clinit>")) where
      is_text : List ℕ → List ℕ → Bool
      is_text [] [] = true
      is_text [] (d ∷ ds) = false
      is_text (c ∷ cs) [] = false
      is_text (c ∷ cs) (d ∷ ds) = (c == d) && is_text cs ds

-- parts with / between them, each with at least one character; the flag: whether the part at hand has begun
abbrev pub are_parts : Bool → List ℕ → Bool
are_parts begun [] = begun
are_parts begun (c ∷ rest) = if c == SLASH then begun && are_parts false rest else is_name_character c && are_parts true rest

-- the name of a class that isn't an array
abbrev pub is_binary_name : List ℕ → Bool
is_binary_name name = are_parts false name

-- ---- types (JVMS 4.3.2)

-- what an array's elements are at the innermost dimension, or what isn't an array: a letter, or a class
pub data BaseType : Type 0 where
  primitive : ℕ → BaseType
  object : List ℕ → BaseType

-- a type of values with its dimensions
pub record FieldType : Type 0 where
  pub dimensions : ℕ
  pub base : BaseType

-- B C D F I J S Z
abbrev pub is_primitive_letter : ℕ → Bool
is_primitive_letter c =
    (c == BYTE_LETTER) || (c == CHAR_LETTER) || (c == DOUBLE_LETTER) || (c == FLOAT_LETTER) || (c == INT_LETTER) || (c == LONG_LETTER) || (c == SHORT_LETTER) || (c == BOOLEAN_LETTER)

-- the letter of a primitive type, or the name of a class
abbrev pub IsBaseType : BaseType → Type 0
IsBaseType (primitive letter) = is_primitive_letter letter ≡ true
IsBaseType (object name) = is_binary_name name ≡ true

-- an array has at most 255 dimensions
pub record IsFieldType (t : FieldType) : Type 0 where
  pub dimensions : t.dimensions ≤ 255
  pub base : IsBaseType t.base

-- the letter, or the class between L and ;
abbrev pub base_descriptor : BaseType → List ℕ
base_descriptor (primitive letter) = letter ∷ []
base_descriptor (object name) = CLASS_LETTER ∷ (name ++ SEMICOLON ∷ [])

-- one [ for each dimension, and then the letter, or the class between L and ;
abbrev pub field_descriptor : FieldType → List ℕ
field_descriptor t = replicate t.dimensions LEFT_BRACKET ++ base_descriptor t.base

-- the descriptor of a field (JVMS 4.3.2)
abbrev pub IsFieldDescriptor : List ℕ → Type 0
IsFieldDescriptor descriptor = (t : FieldType) × (IsFieldType t × (descriptor ≡ field_descriptor t))

-- a long or a double takes two words, all else one
abbrev pub words_of : FieldType → ℕ
words_of t = words_at t.dimensions t.base where
  words_at : ℕ → BaseType → ℕ
  words_at zero (primitive letter) = if (letter == LONG_LETTER) || (letter == DOUBLE_LETTER) then 2 else 1
  words_at dimensions base = 1

-- a class entry names a class, or an array by its descriptor (JVMS 4.4.1)
abbrev pub IsArrayName : List ℕ → Type 0
IsArrayName name = (t : FieldType) × (IsFieldType t × ((0 < t.dimensions) × (name ≡ field_descriptor t)))

-- what a class entry names (JVMS 4.4.1)
abbrev pub IsClassName : List ℕ → Type 0
IsClassName name = (is_binary_name name ≡ true) ⊎ IsArrayName name

-- ---- methods' types (JVMS 4.3.3)

-- the types of parameters and result
pub record MethodType : Type 0 where
  pub parameters : List FieldType
  pub result : Option FieldType

-- each of them is a type
pub record IsMethodType (m : MethodType) : Type 0 where
  pub parameters : AllByRecursion IsFieldType m.parameters
  pub result : IfSome m.result IsFieldType

-- V where nothing is returned
abbrev pub result_descriptor : Option FieldType → List ℕ
result_descriptor None = VOID_LETTER ∷ []
result_descriptor (Some t) = field_descriptor t

-- the parameters between parentheses, and then the result (JVMS 4.3.3)
abbrev pub method_descriptor : MethodType → List ℕ
method_descriptor m = LEFT_PARENTHESIS ∷ (flat_map field_descriptor m.parameters ++ RIGHT_PARENTHESIS ∷ result_descriptor m.result)

-- the arguments, with the receiver's word if there is one, take at most 255 words
abbrev pub IsMethodDescriptor : ℕ → List ℕ → Type 0
IsMethodDescriptor receiver descriptor =
    (m : MethodType) × (IsMethodType m × ((descriptor ≡ method_descriptor m) × (sum_by words_of m.parameters + receiver ≤ 255)))
