-- What is spelled of a class file's names: the classes that its pool names, and what its members declare.
use Rattle.std.proofs.Common.{◌≡◌, refl, ◌∙◌, ap, ℕ, ◌+◌, ◌≤◌, Bool, true, List, [], ◌∷◌, map, Option, Some, None, IsSomeAnd, arith}
use Rattle.std.specs.Prelude.{unwrap_or, ◌&&◌, nat_lt}
use Rattle.std.specs.List.{list_all, AllByRecursion}
use Rattle.std.specs.Option.{option_and_then, option_map}
use Rattle.std.proofs.lemmas.Bool.{and_parts, ltb-true}
use Rattle.fm_base.proofs.ListFacts.{AllByRecursion-append, AllByRecursion-get_or, AllByRecursion-mapped}
use Rattle.fm_base.proofs.OptionFacts.{IsSomeAnd-at_some}
use Rattle.fm_code.specs.AccessFlags.{is_interface}
use Rattle.fm_code.specs.ConstantPool.{entry_at, utf8_at, class_name_at, named_and_typed_at, member_named, field_ref_at, method_ref_at, interface_method_ref_at, EntryIsValid, MemberName}
use Rattle.fm_code.specs.Members.{receiver_words, FieldIsValid, MethodIsValid}
use Rattle.fm_code.specs.Names.{IsClassName, IsFieldDescriptor, IsMethodDescriptor}
use Rattle.fm_code.specs.Spells.{HasSpelling}
use Rattle.fm_code.specs.declared.class_file.ClassDef.{ClassDef}
use Rattle.fm_code.specs.declared.class_file.Member.{Member}
use Rattle.fm_code.specs.declared.constant_pool.Entry.{Entry}
use Rattle.fm_code.specs.declared.constant_pool.Entry.TheVariants as entry
use Rattle.fm_link_names.proofs.SpelledTypes.{few_field, few_method}
use Rattle.fm_link_names.specs.inner.DescriptorTypes.{DeclaresFewDimensions, HaveFewDimensions}
use Rattle.fm_world.specs.BuiltIns.{built_in}
use Rattle.fm_world.specs.Declarations.{declared_field, declared_from, declared_method, declared_of, text_at}
use Rattle.fm_world.specs.Descriptors.{types_in}
use Rattle.fm_world.specs.Members.{fields_from, fields_of, methods_from, methods_of, OwnedField, OwnedMethod}
use Rattle.fm_world.specs.Programs.{classes_of}
use Rattle.fm_world.specs.Uses.{named_class, named_member}
use Rattle.fm_world.specs.declared.declarations.DeclaredClass.{DeclaredClass}
use Rattle.fm_world.specs.declared.declarations.DeclaredField.{DeclaredField}
use Rattle.fm_world.specs.declared.declarations.DeclaredMethod.{DeclaredMethod}

-- ---- names of classes

abbrev AreEntries : List Entry → Type 0
AreEntries entries = AllByRecursion (EntryIsValid entries) entries

none_there : {A : Type 0} (name : List ℕ) → None ≡ Some name → A
none_there name e = absurd cc

class_at_entry : (entries : List Entry) (index : ℕ) (e : Entry) → entry_at entries index ≡ e → EntryIsValid entries e → (name : List ℕ)
    → class_name_at entries index ≡ Some name → IsClassName name
class_at_entry entries index (entry.Class k) is valid name found =
    let text : utf8_at entries k ≡ Some name = rw is at found in IsSomeAnd-at_some (utf8_at entries k) IsClassName name text valid
class_at_entry entries index e is valid name found = none_there name (rw is at found)

-- the name of a class at an index of a pool
pub class_name-is : (entries : List Entry) → AllByRecursion (EntryIsValid entries) entries → (index : ℕ) (name : List ℕ)
    → class_name_at entries index ≡ Some name → IsClassName name
class_name-is entries valid index name found =
    class_at_entry entries index (entry_at entries index) refl
    (AllByRecursion-get_or (EntryIsValid entries) entries entry.Second valid tt index) name found

class_of_member : (entries : List Entry) → AreEntries entries → (class member : ℕ) (name : List ℕ)
    → option_map (λ (m : MemberName). m.class) (member_named entries class member) ≡ Some name → IsClassName name
class_of_member entries valid class member name found = go (class_name_at entries class) refl (named_and_typed_at entries member) found where
  go : (o : Option (List ℕ)) → class_name_at entries class ≡ o → (p : Option (List ℕ × List ℕ))
      → option_map (λ (m : MemberName). m.class)
      (option_and_then (λ c. option_and_then (λ pair. Some (record { class = c; name = pair.0; descriptor = pair.1 })) p) o) ≡ Some name
      → IsClassName name
  go None is p e = none_there name e
  go (Some text) is None e = none_there name e
  go (Some text) is (Some pair) e = let same : text ≡ name = cc in class_name-is entries valid class name (is ∙ ap Some same)

abbrev class_of : Option MemberName → Option (List ℕ)
class_of o = option_map (λ (m : MemberName). m.class) o

member_at_entry : (entries : List Entry) → AreEntries entries → (index : ℕ) (e : Entry) → entry_at entries index ≡ e → (name : List ℕ)
    → class_of (named_member entries index) ≡ Some name → IsClassName name
member_at_entry entries valid index (entry.Field class member) is name found =
    let field : class_of (field_ref_at entries index) ≡ Some name = rw is at found in
    class_of_member entries valid class member name (rw is at field)
member_at_entry entries valid index (entry.Method class member) is name found =
    let method : class_of (method_ref_at entries index) ≡ Some name = rw is at found in
    class_of_member entries valid class member name (rw is at method)
member_at_entry entries valid index (entry.InterfaceMethod class member) is name found =
    let method : class_of (interface_method_ref_at entries index) ≡ Some name = rw is at found in
    class_of_member entries valid class member name (rw is at method)
member_at_entry entries valid index e is name found = none_there name (rw is at found)

named_at_entry : (entries : List Entry) → AreEntries entries → (index : ℕ) (e : Entry) → entry_at entries index ≡ e → (name : List ℕ)
    → named_class entries index ≡ Some name → IsClassName name
named_at_entry entries valid index (entry.Class k) is name found = class_name-is entries valid index name (rw is at found)
named_at_entry entries valid index e is name found = member_at_entry entries valid index e is name (rw is at found)

-- the class or the array that an index names, by itself or as the class of a member
pub named_class-is : (c : ClassDef) → HasSpelling c → (index : ℕ) (name : List ℕ) → named_class c.pool.entries index ≡ Some name → IsClassName name
named_class-is c (bytes, spells) index name found =
    named_at_entry c.pool.entries spells.pool.entries index (entry_at c.pool.entries index) refl name found

-- ---- what members declare

few_text : (o : Option (List ℕ)) (P : List ℕ → Type 0) → ((d : List ℕ) → P d → HaveFewDimensions (types_in d)) → IsSomeAnd o P
    → HaveFewDimensions (types_in (unwrap_or o []))
few_text None P few is = absurd is
few_text (Some d) P few is = few d is

few_declared_field : (in_interface : Bool) (entries : List Entry) (m : Member) → FieldIsValid in_interface entries m
    → HaveFewDimensions (types_in (text_at entries m.descriptor))
few_declared_field in_interface entries m valid = few_text (utf8_at entries m.descriptor) IsFieldDescriptor few_field valid.descriptor

few_declared_method : (in_interface : Bool) (entries : List Entry) (m : Member) → MethodIsValid in_interface entries m
    → HaveFewDimensions (types_in (text_at entries m.descriptor))
few_declared_method in_interface entries m valid =
    few_text (utf8_at entries m.descriptor) (IsMethodDescriptor (receiver_words m.flags)) (few_method (receiver_words m.flags)) valid.descriptor

few_declared : (number : ℕ) (c : ClassDef) → HasSpelling c → DeclaresFewDimensions (declared_of number c)
few_declared number c (bytes, spells) = record {
  fields = AllByRecursion-mapped (FieldIsValid (is_interface c.flags) c.pool.entries) (λ (f : DeclaredField). HaveFewDimensions (types_in f.descriptor))
      (declared_field c.pool.entries) (few_declared_field (is_interface c.flags) c.pool.entries) c.fields spells.fields;
  methods = AllByRecursion-mapped (MethodIsValid (is_interface c.flags) c.pool.entries) (λ (m : DeclaredMethod). HaveFewDimensions (types_in m.descriptor))
      (declared_method c.pool.entries) (few_declared_method (is_interface c.flags) c.pool.entries) c.methods spells.methods;
}

few_given : (number : ℕ) (given : List ClassDef) → AllByRecursion HasSpelling given
    → AllByRecursion DeclaresFewDimensions (declared_from number given)
few_given number [] spelled = tt
few_given number (c ∷ given) spelled = (few_declared number c spelled.0, few_given (number + 1) given spelled.1)

-- ---- built-in classes

abbrev is_few : List ℕ → Bool
is_few descriptor = list_all (λ t. nat_lt t.dimensions 256) (types_in descriptor)

abbrev declares_few : DeclaredClass → Bool
declares_few c = list_all (λ (f : DeclaredField). is_few f.descriptor) c.fields && list_all (λ (m : DeclaredMethod). is_few m.descriptor) c.methods

all_tested : {X : Type 0} (test : X → Bool) (P : X → Type 0) → ((x : X) → test x ≡ true → P x) → (xs : List X) → list_all test xs ≡ true
    → AllByRecursion P xs
all_tested test P each [] ok = tt
all_tested test P each (x ∷ xs) ok =
    let both = and_parts (test x) (list_all test xs) ok in (each x both.0, all_tested test P each xs both.1)

few_tested : (descriptor : List ℕ) → is_few descriptor ≡ true → HaveFewDimensions (types_in descriptor)
few_tested descriptor ok =
    all_tested (λ t. nat_lt t.dimensions 256) (λ t. t.dimensions ≤ 255)
    (λ t passes. let below = ltb-true t.dimensions 256 passes in omega (arith, below)) (types_in descriptor) ok

few_class_tested : (c : DeclaredClass) → declares_few c ≡ true → DeclaresFewDimensions c
few_class_tested c ok =
    let both = and_parts (list_all (λ (f : DeclaredField). is_few f.descriptor) c.fields)
    (list_all (λ (m : DeclaredMethod). is_few m.descriptor) c.methods) ok in
    record {
      fields = all_tested (λ (f : DeclaredField). is_few f.descriptor) (λ (f : DeclaredField). HaveFewDimensions (types_in f.descriptor))
          (λ f passes. few_tested f.descriptor passes) c.fields both.0;
      methods = all_tested (λ (m : DeclaredMethod). is_few m.descriptor) (λ (m : DeclaredMethod). HaveFewDimensions (types_in m.descriptor))
          (λ m passes. few_tested m.descriptor passes) c.methods both.1;
    }

built_in_tested : list_all declares_few built_in ≡ true
unfolding built_in
built_in_tested = refl

-- ---- all classes

pub few_classes : (given : List ClassDef) → AllByRecursion HasSpelling given → AllByRecursion DeclaresFewDimensions (classes_of given)
unfolding classes_of
few_classes given spelled =
    AllByRecursion-append DeclaresFewDimensions built_in (declared_from 0 given)
    (all_tested declares_few DeclaresFewDimensions few_class_tested built_in built_in_tested) (few_given 0 given spelled)

abbrev pub FewField : OwnedField → Type 0
FewField owned = HaveFewDimensions (types_in owned.field.descriptor)

abbrev pub FewMethod : OwnedMethod → Type 0
FewMethod owned = HaveFewDimensions (types_in owned.method.descriptor)

few_fields_from : (class : ℕ) (classes : List DeclaredClass) → AllByRecursion DeclaresFewDimensions classes
    → AllByRecursion FewField (fields_from class classes)
few_fields_from class [] few = tt
few_fields_from class (c ∷ classes) few =
    AllByRecursion-append FewField (map (λ f. record { class = class; field = f }) c.fields) (fields_from (class + 1) classes)
    (AllByRecursion-mapped (λ (f : DeclaredField). HaveFewDimensions (types_in f.descriptor)) FewField (λ f. record { class = class; field = f })
    (λ f is. is) c.fields few.0.fields)
    (few_fields_from (class + 1) classes few.1)

few_methods_from : (class : ℕ) (classes : List DeclaredClass) → AllByRecursion DeclaresFewDimensions classes
    → AllByRecursion FewMethod (methods_from class classes)
few_methods_from class [] few = tt
few_methods_from class (c ∷ classes) few =
    AllByRecursion-append FewMethod (map (λ m. record { class = class; method = m }) c.methods) (methods_from (class + 1) classes)
    (AllByRecursion-mapped (λ (m : DeclaredMethod). HaveFewDimensions (types_in m.descriptor)) FewMethod (λ m. record { class = class; method = m })
    (λ m is. is) c.methods few.0.methods)
    (few_methods_from (class + 1) classes few.1)

-- the descriptors of all fields, and of all methods
pub few_fields : (given : List ClassDef) → AllByRecursion HasSpelling given → AllByRecursion FewField (fields_of (classes_of given))
unfolding fields_of
few_fields given spelled = few_fields_from 0 (classes_of given) (few_classes given spelled)

pub few_methods : (given : List ClassDef) → AllByRecursion HasSpelling given → AllByRecursion FewMethod (methods_of (classes_of given))
unfolding methods_of
few_methods given spelled = few_methods_from 0 (classes_of given) (few_classes given spelled)
