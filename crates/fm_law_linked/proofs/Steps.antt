-- What linking and the rules of class files make sure of for each step: static and private methods aren't abstract, fields are static as instructions want, targets are items,
-- and constants are those of static fields.
use Rattle.std.proofs.Common.{◌≡◌, refl, sym, ◌∙◌, subst, ℕ, ◌+◌, ◌<◌, ◌≤◌, ◌||◌, ◌&&◌, not, Bool, true, false, cond, List, [], ◌∷◌, length, map, Option, Some, None, slice_get}
use Rattle.std.specs.List.{AllByRecursion, slice_index_or}
use Rattle.std.specs.Option.{option_map}
use Rattle.std.proofs.lemmas.Bool.{and_parts, false≢true, not-true, or_parts}
use Rattle.std.proofs.lemmas.Option.{none-some, same_Some}
use Rattle.fm_base.proofs.ListFacts.{AllByRecursion-append, AllByRecursion-get_or}
use Rattle.fm_base.specs.declared.ids.FieldId.{FieldId}
use Rattle.fm_base.specs.declared.ids.TypeId.{TypeId}
use Rattle.fm_code.specs.AccessFlags.{is_abstract, is_interface, is_native, is_private, is_static}
use Rattle.fm_code.specs.Edges.{insn_of}
use Rattle.fm_code.specs.Members.{MethodIsValid}
use Rattle.fm_code.specs.Spells.{HasSpelling}
use Rattle.fm_code.specs.SpellsCode.{ItemIsSpelled, targets_of}
use Rattle.fm_code.specs.declared.class_file.ClassDef.{ClassDef}
use Rattle.fm_code.specs.declared.class_file.Member.{Member}
use Rattle.fm_code.specs.declared.code_array.Code.{Code}
use Rattle.fm_code.specs.declared.code_array.TheConstants.{MAX_CODE_BYTES}
use Rattle.fm_code.specs.declared.code_array.Item.{Item}
use Rattle.fm_code.specs.declared.constant_pool.Entry.{Entry}
use Rattle.fm_code.specs.declared.instructions.Insn.{Insn}
use Rattle.fm_code.specs.declared.instructions.Insn.TheVariants as insn
use Rattle.fm_flow.proofs.CodeFacts.{items_counted}
use Rattle.fm_law_linked.proofs.CodedMethods.{code_there, contains_at}
use Rattle.fm_law_linked.proofs.Constants.{all_fields}
use Rattle.fm_law_linked.proofs.Fields.{access_there}
use Rattle.fm_law_linked.proofs.GivenFiles.{each_one}
use Rattle.fm_law_linked.proofs.InterfaceCalls.{valid_code}
use Rattle.fm_law_linked.proofs.Rows.{all_methods}
use Rattle.fm_check_rows.proofs.UseLemmas.{uses_name_members}
use Rattle.fm_check_rows.specs.Members.{NamesMember}
use Rattle.fm_law_sound.specs.Leading.{NamesField}
use Rattle.fm_law_sound.specs.Resolved.{IsNamed}
use Rattle.fm_types.specs.Named.{class_of_method}
use Rattle.fm_world.specs.BuiltIns.{built_in}
use Rattle.fm_world.specs.Declarations.{declared_field, declared_from, declared_method, first_constant, no_field, no_method}
use Rattle.fm_world.specs.Linking.{refused_fields}
use Rattle.fm_world.specs.Lookups.{is_abstract_method}
use Rattle.fm_world.specs.Members.{field_at, fields_from, fields_of, method_at, methods_from, methods_of, OwnedField, OwnedMethod}
use Rattle.fm_world.specs.Programs.{classes_of, codes_of, outline_of, program_of}
use Rattle.fm_world.specs.declared.declarations.Constant.{Constant}
use Rattle.fm_world.specs.declared.uses.Use.{Use}
use Rattle.fm_world.specs.declared.uses.Use.TheVariants as resolved
use Rattle.fm_link_supers.proofs.ParentRefusals.{spelled_at}

-- ---- targets

pub targets_there : (given : List ClassDef) → AllByRecursion HasSpelling given → (method : ℕ) (code : Code) (place : ℕ) (i : Insn)
    → slice_index_or (codes_of given) method None ≡ Some code
    → insn_of code place ≡ Some i
    → AllByRecursion (λ target. target < length code.items) (targets_of i)
targets_there given spelled method code place i code_is insn_is = by_item (slice_get code.items place) refl insn_is where
  all : AllByRecursion (ItemIsSpelled code.items) code.items
  all =
      let there = code_there given method code code_is in
      (valid_code there.file (spelled_at given there.place there.file spelled there.file_is) there.member code there.among there.code_is).spelled.spelled

  by_item : (o : Option Item) → slice_get code.items place ≡ o → option_map (λ (item : Item). item.insn) o ≡ Some i
      → AllByRecursion (λ target. target < length code.items) (targets_of i)
  by_item None at e = absurd (none-some i e)
  by_item (Some item) at e =
      let P : Insn → Type 0 = λ j. AllByRecursion (λ target. target < length code.items) (targets_of j) in
      subst P (same_Some item.insn i e) (each_one (ItemIsSpelled code.items) code.items item all (contains_at code.items place item at)).targets

-- ---- items

pub items_few : (given : List ClassDef) → AllByRecursion HasSpelling given → (method : ℕ) (code : Code)
    → slice_index_or (codes_of given) method None ≡ Some code → length code.items ≤ MAX_CODE_BYTES
items_few given spelled method code code_is =
    let there = code_there given method code code_is in
    (items_counted code (
      there.file.pool.entries,
      valid_code there.file (spelled_at given there.place there.file spelled there.file_is) there.member code there.among there.code_is,
    )).1

-- ---- fields

by_insn : (given : List ClassDef) (main : List ℕ) → refused_fields given ≡ [] → (method : ℕ) (i : Insn) (f : FieldId) (t : TypeId)
    → IsNamed (program_of given main) method i (resolved.OfField f t)
    → NamesField (outline_of given main) (resolved.OfField f t) i
unfolding program_of
by_insn given main none method (insn.GetStatic index) f t x = (
  subst (NamesMember (outline_of given main)) x.use_is (uses_name_members given main (class_of_method (outline_of given main) method) index),
  (access_there given main none method x.item x.code (insn.GetStatic index) index f t true x.code_is x.insn_is refl x.use_is refl).static_is,
)
by_insn given main none method (insn.PutStatic index) f t x = (
  subst (NamesMember (outline_of given main)) x.use_is (uses_name_members given main (class_of_method (outline_of given main) method) index),
  (access_there given main none method x.item x.code (insn.PutStatic index) index f t true x.code_is x.insn_is refl x.use_is refl).static_is,
)
by_insn given main none method (insn.GetField index) f t x =
    (access_there given main none method x.item x.code (insn.GetField index) index f t false x.code_is x.insn_is refl x.use_is refl).static_is
by_insn given main none method (insn.PutField index) f t x =
    (access_there given main none method x.item x.code (insn.PutField index) index f t false x.code_is x.insn_is refl x.use_is refl).static_is
by_insn given main none method i f t x = tt

pub fields_named : (given : List ClassDef) (main : List ℕ) → refused_fields given ≡ [] → (method : ℕ) (i : Insn) (u : Use)
    → IsNamed (program_of given main) method i u
    → NamesField (outline_of given main) u i
fields_named given main none method i (resolved.OfField f t) x = by_insn given main none method i f t x
fields_named given main none method i u x = tt

-- ---- static and private methods

-- a method that passes the test isn't abstract
abbrev IsConcrete : (ℕ → Bool) → OwnedMethod → Type 0
IsConcrete test m = test m.method.flags ≡ true → is_abstract m.method.flags ≡ false

-- the flags that no abstract method has
abbrev IsAlone : (ℕ → Bool) → Type 0
IsAlone test = (flags : ℕ) → (is_static flags || is_private flags || is_native flags) ≡ false → test flags ≡ false

concrete_member : (test : ℕ → Bool) → IsAlone test → (in_interface : Bool) (entries : List Entry) (m : Member) → MethodIsValid in_interface entries m
    → test m.flags ≡ true
    → is_abstract m.flags ≡ false
concrete_member test alone in_interface entries m valid passes = by_flag (is_abstract m.flags) refl where
  by_flag : (b : Bool) → is_abstract m.flags ≡ b → b ≡ false
  by_flag false e = refl
  by_flag true e = absurd (false≢true (sym (alone m.flags (valid.abstract_alone e)) ∙ passes))

concrete_members : (test : ℕ → Bool) → IsAlone test → (class : ℕ) (in_interface : Bool) (entries : List Entry) (members : List Member)
    → AllByRecursion (MethodIsValid in_interface entries) members
    → AllByRecursion (IsConcrete test) (map (λ m. record { class = class; method = m }) (map (declared_method entries) members))
concrete_members test alone class in_interface entries [] valid = tt
concrete_members test alone class in_interface entries (m ∷ members) valid =
    (concrete_member test alone in_interface entries m valid.0, concrete_members test alone class in_interface entries members valid.1)

concrete_from : (test : ℕ → Bool) → IsAlone test → (class file : ℕ) (given : List ClassDef) → AllByRecursion HasSpelling given
    → AllByRecursion (IsConcrete test) (methods_from class (declared_from file given))
concrete_from test alone class file [] spelled = tt
concrete_from test alone class file (c ∷ given) spelled =
    AllByRecursion-append (IsConcrete test) (map (λ m. record { class = class; method = m }) (map (declared_method c.pool.entries) c.methods))
    (methods_from (class + 1) (declared_from (file + 1) given))
    (concrete_members test alone class (is_interface c.flags) c.pool.entries c.methods spelled.0.1.methods)
    (concrete_from test alone (class + 1) (file + 1) given spelled.1)

abbrev pub none_abstract : List OwnedMethod → Bool
none_abstract [] = true
none_abstract (m ∷ methods) = not (is_abstract m.method.flags) && none_abstract methods

-- no built-in method is abstract
pub table_concrete : none_abstract (methods_of built_in) ≡ true
unfolding built_in methods_of
table_concrete = refl

each_concrete : (test : ℕ → Bool) (methods : List OwnedMethod) → none_abstract methods ≡ true → AllByRecursion (IsConcrete test) methods
each_concrete test [] all = tt
each_concrete test (m ∷ methods) all =
    let parts = and_parts (not (is_abstract m.method.flags)) (none_abstract methods) all in
    (λ passes. not-true (is_abstract m.method.flags) parts.0, each_concrete test methods parts.1)

tested_there : (test : ℕ → Bool) → IsAlone test → (given : List ClassDef) → AllByRecursion HasSpelling given → (method : ℕ)
    → test (method_at (classes_of given) method).method.flags ≡ true
    → is_abstract_method (classes_of given) method ≡ false
tested_there test alone given spelled method =
    AllByRecursion-get_or (IsConcrete test) (methods_of (classes_of given)) (record { class = 0; method = no_method })
    (subst (AllByRecursion (IsConcrete test)) (sym (all_methods given))
    (AllByRecursion-append (IsConcrete test) (methods_of built_in) (methods_from (length built_in) (declared_from 0 given))
    (each_concrete test (methods_of built_in) table_concrete) (concrete_from test alone (length built_in) 0 given spelled)))
    (λ passes. refl) method

static_alone : IsAlone is_static
static_alone flags none =
    (or_parts (is_static flags) (is_private flags) (or_parts (is_static flags || is_private flags) (is_native flags) none).0).0

private_alone : IsAlone is_private
private_alone flags none =
    (or_parts (is_static flags) (is_private flags) (or_parts (is_static flags || is_private flags) (is_native flags) none).0).1

-- a static method isn't abstract
pub concrete_there : (given : List ClassDef) → AllByRecursion HasSpelling given → (method : ℕ) → is_static (method_at (classes_of given) method).method.flags ≡ true
    → is_abstract_method (classes_of given) method ≡ false
concrete_there = tested_there is_static static_alone

-- and neither is a private one
pub private_there : (given : List ClassDef) → AllByRecursion HasSpelling given → (method : ℕ) → is_private (method_at (classes_of given) method).method.flags ≡ true
    → is_abstract_method (classes_of given) method ≡ false
private_there = tested_there is_private private_alone

-- ---- constants

abbrev IsStaticValue : OwnedField → Type 0
IsStaticValue f = (c : Constant) → f.field.value ≡ Some c → is_static f.field.flags ≡ true

static_value : (entries : List Entry) (m : Member) (c : Constant) → (declared_field entries m).value ≡ Some c → is_static m.flags ≡ true
static_value entries m c is = by_flag (is_static m.flags) is where
  by_flag : (b : Bool) → cond b (first_constant entries m.attributes) None ≡ Some c → b ≡ true
  by_flag true is = refl
  by_flag false is = absurd (none-some c is)

static_members : (class : ℕ) (entries : List Entry) (members : List Member)
    → AllByRecursion IsStaticValue (map (λ f. record { class = class; field = f }) (map (declared_field entries) members))
static_members class entries [] = tt
static_members class entries (m ∷ members) = (static_value entries m, static_members class entries members)

static_from : (class file : ℕ) (given : List ClassDef) → AllByRecursion IsStaticValue (fields_from class (declared_from file given))
static_from class file [] = tt
static_from class file (c ∷ given) =
    AllByRecursion-append IsStaticValue (map (λ f. record { class = class; field = f }) (map (declared_field c.pool.entries) c.fields))
    (fields_from (class + 1) (declared_from (file + 1) given)) (static_members class c.pool.entries c.fields) (static_from (class + 1) (file + 1) given)

static_built_in : AllByRecursion IsStaticValue (fields_of built_in)
unfolding fields_of built_in
static_built_in = (λ c is. absurd (none-some c is), (λ c is. absurd (none-some c is), tt))

pub static_constants : (given : List ClassDef) (field : ℕ) (c : Constant) → (field_at (classes_of given) field).field.value ≡ Some c
    → is_static (field_at (classes_of given) field).field.flags ≡ true
static_constants given field =
    AllByRecursion-get_or IsStaticValue (fields_of (classes_of given)) (record { class = 0; field = no_field })
    (subst (AllByRecursion IsStaticValue) (sym (all_fields given))
    (AllByRecursion-append IsStaticValue (fields_of built_in) (fields_from (0 + length built_in) (declared_from 0 given)) static_built_in
    (static_from (0 + length built_in) 0 given)))
    (λ c is. absurd (none-some c is)) field
