-- The parts of names and of descriptors.
use Rattle.std.specs.Prelude.{◌≡◌, ℕ, ◌==◌, ◌||◌, not, Bool, true, List, [], ◌∷◌, ◌++◌, Option, IfSome, if◌then◌else◌}
use Rattle.std.specs.Option.{is_none}
use Rattle.fm_code.specs.Names.{is_binary_name, BaseType, IsBaseType, base_descriptor, FieldType, IsFieldType, field_descriptor, result_descriptor}
use Rattle.fm_pool_texts.specs.declared.descriptors.MethodFacts.{MethodFacts}

-- neither < nor >
abbrev pub is_plain : ℕ → Bool
is_plain c = not ((c == 60) || (c == 62))

-- a class's name and the ; after it, at the front of the bytes
pub record StartsWithClass (bytes rest : List ℕ) : Type 0 where
  pub name : List ℕ
  pub is_name : is_binary_name name ≡ true
  pub bytes_are : bytes ≡ name ++ 59 ∷ rest

-- the descriptor of a type that isn't an array, at the front of the bytes
pub record StartsWithBase (bytes rest : List ℕ) : Type 0 where
  pub base : BaseType
  pub is_base : IsBaseType base
  pub bytes_are : bytes ≡ base_descriptor base ++ rest

-- the descriptor of a field, at the front of the bytes
pub record StartsWithField (bytes rest : List ℕ) : Type 0 where
  pub type : FieldType
  pub is_type : IsFieldType type
  pub bytes_are : bytes ≡ field_descriptor type ++ rest

-- the words of the field whose descriptor begins with these bytes: two for J and D, and one for all else
abbrev pub first_words : List ℕ → ℕ
first_words [] = 1
first_words (c ∷ rest) = if (c == 74) || (c == 68) then 2 else 1

-- what is known where arguments of a given number of words come before the ), and the text after it
pub record AreResultFacts (words : ℕ) (text : List ℕ) (facts : MethodFacts) : Type 0 where
  pub result : Option FieldType
  pub is_type : IfSome result IsFieldType
  pub spelled : text ≡ result_descriptor result
  pub argument_words : facts.argument_words ≡ words
  pub returns_nothing : facts.returns_nothing ≡ is_none result
