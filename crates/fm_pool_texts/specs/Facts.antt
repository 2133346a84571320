-- What is known of the texts of a pool: as names and as descriptors (JVMS 4.2, 4.3).
use Rattle.std.specs.Prelude.{◌≡◌, ◌↔◌, ℕ, ◌-◌, ◌^◌, min, IsTrue, List, Option, Some, None, sum_by}
use Rattle.std.specs.List.{slice_index_or}
use Rattle.std.specs.Option.{is_none}
use Rattle.fm_code.specs.ConstantPool.{utf8_at}
use Rattle.fm_code.specs.Names.{is_binary_name, IsArrayName, is_unqualified, is_method_name, IsFieldDescriptor, MethodType, IsMethodType, method_descriptor, words_of}
use Rattle.fm_code.specs.declared.constant_pool.Entry.{Entry}
use Rattle.fm_pool_texts.specs.declared.descriptors.MethodFacts.{MethodFacts}
use Rattle.fm_pool_texts.specs.declared.facts.TextFacts.{TextFacts}

-- a given number of words, as far as 32 bits count them
abbrev pub counted_words : ℕ → ℕ
counted_words words = min words (2 ^ 32 - 1)

-- what is known of a text that is the descriptor of a method
pub record AreMethodFacts (text : List ℕ) (facts : MethodFacts) : Type 0 where
  pub type : MethodType
  pub is_type : IsMethodType type
  pub spelled : text ≡ method_descriptor type
  pub argument_words : facts.argument_words ≡ counted_words (sum_by words_of type.parameters)
  pub returns_nothing : facts.returns_nothing ≡ is_none type.result

-- the facts of a text
pub record AreFactsOf (text : List ℕ) (facts : TextFacts) : Type 0 where
  pub binary_name : facts.is_binary_name ≡ is_binary_name text
  pub array_name : IsTrue facts.is_array_name ↔ IsArrayName text
  pub unqualified : facts.is_unqualified ≡ is_unqualified text
  pub method_name : facts.is_method_name ≡ is_method_name text
  pub field_descriptor : IsTrue facts.is_field_descriptor ↔ IsFieldDescriptor text
  pub method : (m : MethodFacts) → (facts.method ≡ Some m) ↔ AreMethodFacts text m

-- the facts of the text that may be there
abbrev pub AreFactsAt : Option (List ℕ) → Option TextFacts → Type 0
AreFactsAt None None = Unit {0}
AreFactsAt (Some text) (Some facts) = AreFactsOf text facts
AreFactsAt text facts = ⊥

-- for each index the facts of the text there
abbrev pub AreFacts : List Entry → List (Option TextFacts) → Type 0
AreFacts entries facts = (index : ℕ) → AreFactsAt (utf8_at entries index) (slice_index_or facts index None)
