-- FreeMe's methods in the classes of a program: each has a number, and is static.
use Rattle.std.proofs.Common.{◌≡◌, refl, ◌∙◌, ap, ℕ, zero, suc, ◌+◌, ◌<◌, ◌≤◌, ◌⊎◌, inl, inr, Bool, true, false, cond, ◌||◌, List, [], ◌∷◌, ◌++◌, length, length-append, map, Option, Some, option_and_then, option_map, arith}
use Rattle.std.specs.List.{list_any, range_with_len}
use Rattle.std.proofs.lemmas.Bool.{cases_lt, false≢true}
use Rattle.std.proofs.lemmas.Iterator.Adapters.{position_from-zero}
use Rattle.std.specs.Str.{bytes_eq}
use Rattle.fm_world.proofs.Completions.{count_is}
use Rattle.fm_base.specs.declared.kinds.TypeRef.{TypeRef}
use Rattle.fm_chain.specs.ChainEntries.{chain_name, link_descriptor, link_name}
use Rattle.fm_code.specs.AccessFlags.{is_static}
use Rattle.fm_code.specs.FreeEntries.{free_class, free_descriptor, free_name}
use Rattle.fm_code.specs.declared.class_file.ClassDef.{ClassDef}
use Rattle.fm_law_spelled.specs.Calling.{FreeMeMethod, CallsChain, CallsFree, CallsLink, member_name_of}
use Rattle.fm_types.proofs.LeastJoins.{same_type-refl}
use Rattle.fm_world.specs.BuiltIns.{buffer_methods, builder_methods, built_in, input_stream_methods, object_methods, print_stream_methods, string_methods, system_methods, throwable_methods}
use Rattle.fm_world.specs.Causes.{method_flags}
use Rattle.fm_world.specs.Chains.{chain_of, first_found, interfaces_of, parent_of, same_type, upwards}
use Rattle.fm_world.specs.Declarations.{declared_from}
use Rattle.fm_world.specs.Descriptors.{class_number, class_type, of_class, type_in, type_with}
use Rattle.fm_world.specs.Lookups.{any_flags, class_searched, constructor_name, constructor_path, is_interface_at, method_path, resolved_method}
use Rattle.fm_world.specs.Members.{method_among, methods_of, own_method}
use Rattle.fm_world.specs.Numbers.{class_types, type_of_class}
use Rattle.fm_world.specs.Programs.{classes_of}
use Rattle.fm_world.specs.declared.declarations.DeclaredClass.{DeclaredClass}

-- the number of the class FreeMe
abbrev pub free_class_number : ℕ
free_class_number = 8

-- that of its method free, which comes after the methods of the classes before it
abbrev pub free_method_number : ℕ
free_method_number =
    length object_methods + length string_methods + length (builder_methods []) + length buffer_methods + length system_methods
    + length print_stream_methods + length input_stream_methods + length throwable_methods

-- those of its methods link and freeChain, which follow it
abbrev pub link_method_number : ℕ
link_method_number = free_method_number + 1

abbrev pub chain_method_number : ℕ
chain_method_number = free_method_number + 2

pub class_number_is : (given : List ClassDef) → class_number (classes_of given) free_class ≡ Some free_class_number
unfolding classes_of built_in
class_number_is given = position_from-zero (λ (c : DeclaredClass). bytes_eq c.name free_class) (built_in ++ declared_from 0 given)

pub class_is_no_interface : (given : List ClassDef) → is_interface_at (classes_of given) free_class_number ≡ false
unfolding classes_of built_in
class_is_no_interface given = refl

-- the number of a method
abbrev pub number_of : FreeMeMethod → ℕ
number_of CallsFree = free_method_number
number_of CallsLink = link_method_number
number_of CallsChain = chain_method_number

free_is_static : (given : List ClassDef) → is_static (method_flags (classes_of given) free_method_number) ≡ true
unfolding classes_of built_in methods_of
free_is_static given = refl

link_is_static : (given : List ClassDef) → is_static (method_flags (classes_of given) link_method_number) ≡ true
unfolding classes_of built_in methods_of
link_is_static given = refl

chain_is_static : (given : List ClassDef) → is_static (method_flags (classes_of given) chain_method_number) ≡ true
unfolding classes_of built_in methods_of
chain_is_static given = refl

pub called_is_static : (given : List ClassDef) (m : FreeMeMethod) → is_static (method_flags (classes_of given) (number_of m)) ≡ true
called_is_static given CallsFree = free_is_static given
called_is_static given CallsLink = link_is_static given
called_is_static given CallsChain = chain_is_static given

free_is : (given : List ClassDef) → own_method (classes_of given) any_flags free_name free_descriptor free_class_number ≡ Some free_method_number
unfolding classes_of built_in
free_is given = refl

link_is : (given : List ClassDef) → own_method (classes_of given) any_flags link_name link_descriptor free_class_number ≡ Some link_method_number
unfolding classes_of built_in
link_is given = refl

chain_is : (given : List ClassDef) → own_method (classes_of given) any_flags chain_name free_descriptor free_class_number ≡ Some chain_method_number
unfolding classes_of built_in
chain_is given = refl

path_is : (classes : List DeclaredClass) → is_interface_at classes free_class_number ≡ false
    → method_path classes free_class_number
    ≡ free_class_number ∷ (upwards (length classes) classes (parent_of classes free_class_number) ++ interfaces_of classes free_class_number)
unfolding chain_of
path_is classes none = rw none refl

first_here : (find : ℕ → Option ℕ) (x k : ℕ) (xs : List ℕ) → find x ≡ Some k → first_found find (x ∷ xs) ≡ Some k
first_here find x k xs found = rw found refl

-- a method that is no constructor is looked for along the method path of its class
searched_is : (classes : List DeclaredClass) (name descriptor : List ℕ) → bytes_eq name constructor_name ≡ false
    → resolved_method classes (record { class = free_class; name = name; descriptor = descriptor })
    ≡ option_and_then (λ (class : ℕ). method_among classes any_flags name descriptor (method_path classes class)) (class_number classes free_class)
unfolding resolved_method
searched_is classes name descriptor ordinary =
    ap (λ (b : Bool).
    cond b (option_and_then (λ (class : ℕ). method_among classes any_flags name descriptor (constructor_path classes class)) (class_number classes free_class))
    (option_and_then (λ (class : ℕ). method_among classes any_flags name descriptor (method_path classes class)) (class_searched classes free_class))) ordinary

-- by its name and descriptor
found_by : (given : List ClassDef) (name descriptor : List ℕ) (number : ℕ) → bytes_eq name constructor_name ≡ false
    → own_method (classes_of given) any_flags name descriptor free_class_number ≡ Some number
    → resolved_method (classes_of given) (record { class = free_class; name = name; descriptor = descriptor }) ≡ Some number
found_by given name descriptor number ordinary own =
    let classes = classes_of given in
    let find = own_method classes any_flags name descriptor in
    let rest = upwards (length classes) classes (parent_of classes free_class_number) ++ interfaces_of classes free_class_number in
    searched_is classes name descriptor ordinary
    ∙ ap (option_and_then (λ (class : ℕ). method_among classes any_flags name descriptor (method_path classes class))) (class_number_is given)
    ∙ ap (first_found find) (path_is classes (class_is_no_interface given)) ∙ first_here find free_class_number number rest own

pub method_found : (given : List ClassDef) (m : FreeMeMethod) → resolved_method (classes_of given) (member_name_of m) ≡ Some (number_of m)
method_found given CallsFree = found_by given free_name free_descriptor free_method_number refl (free_is given)
method_found given CallsLink = found_by given link_name link_descriptor link_method_number refl (link_is given)
method_found given CallsChain = found_by given chain_name free_descriptor chain_method_number refl (chain_is given)

-- what is known of FreeMe's methods
pub record KnowsFree (classes : List DeclaredClass) : Type 0 where
  pub class : class_number classes free_class ≡ Some free_class_number
  pub method : (m : FreeMeMethod) → resolved_method classes (member_name_of m) ≡ Some (number_of m)
  pub static : (m : FreeMeMethod) → is_static (method_flags classes (number_of m)) ≡ true
  pub no_interface : is_interface_at classes free_class_number ≡ false

pub knows_free : (given : List ClassDef) → KnowsFree (classes_of given)
knows_free given = record {
  class = class_number_is given;
  method = method_found given;
  static = called_is_static given;
  no_interface = class_is_no_interface given;
}

-- ---- its type

abbrev pub free_type : TypeRef
free_type = type_of_class free_class_number

pub type_is : (given : List ClassDef) → type_in (classes_of given) (class_type free_class) ≡ Some free_type
type_is given = ap (λ o. option_and_then (type_with 0) (option_map of_class o)) (class_number_is given)

pub type_known : (a n k : ℕ) → a ≤ k → k < a + n → list_any (same_type (type_of_class k)) (map type_of_class (range_with_len a n)) ≡ true
type_known a zero k from within = absurd (omega (arith, from, within))
type_known a (suc n) k from within = by_place (cases_lt a k) (type_known (a + 1) n k) where
  rest : List TypeRef
  rest = map type_of_class (range_with_len (a + 1) n)

  first_true : (b c : Bool) → b ≡ true → (b || c) ≡ true
  first_true true c is = refl
  first_true false c is = absurd (false≢true is)

  later_true : (b c : Bool) → c ≡ true → (b || c) ≡ true
  later_true true c is = refl
  later_true false c is = is

  by_place : (a < k) ⊎ (k ≤ a) → (a + 1 ≤ k → k < a + 1 + n → list_any (same_type (type_of_class k)) rest ≡ true)
      → (same_type (type_of_class k) (type_of_class a) || list_any (same_type (type_of_class k)) rest) ≡ true
  by_place (inl less) later =
      later_true (same_type (type_of_class k) (type_of_class a)) (list_any (same_type (type_of_class k)) rest)
      (later (omega (arith, less)) (omega (arith, within)))
  by_place (inr more) later =
      let same : a ≡ k = omega (arith, from, more) in
      first_true (same_type (type_of_class k) (type_of_class a)) (list_any (same_type (type_of_class k)) rest)
      (ap (λ j. same_type (type_of_class k) (type_of_class j)) same ∙ same_type-refl (type_of_class k))

pub free_type_known : (given : List ClassDef) → list_any (same_type free_type) (class_types (classes_of given)) ≡ true
unfolding classes_of
free_type_known given =
    let both = length-append built_in (declared_from 0 given) in
    let count = count_is in
    type_known 0 (length (built_in ++ declared_from 0 given)) free_class_number (omega arith) (omega (arith, both, count))
