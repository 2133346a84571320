-- Each method that isn't abstract has code, unless it is a built-in one: the files that are accepted have no native methods (JVMS 4.7.3).
use Rattle.std.proofs.Common.{◌≡◌, refl, sym, ◌∙◌, ap, subst, ℕ, zero, suc, ◌+◌, ◌<◌, ◌||◌, ◌&&◌, Bool, true, false, cond, List, [], ◌∷◌, ◌++◌, length, map, replicate, get_or, count_by, is_some, Option, Some, None, option_and_then, arith}
use Rattle.std.specs.List.{AllByRecursion, flat_map}
use Rattle.std.proofs.lemmas.Bool.{and_parts, false≢true}
use Rattle.std.proofs.lemmas.List.Sums.{sum_by-cons}
use Rattle.fm_code.specs.AccessFlags.{is_abstract, is_interface, is_native}
use Rattle.fm_code.specs.Members.{code_of, is_coded, MethodIsValid}
use Rattle.fm_code.specs.Profile.{IsSupported, MethodIsSupported}
use Rattle.fm_code.specs.Spells.{HasSpelling}
use Rattle.fm_code.specs.declared.class_file.ClassDef.{ClassDef}
use Rattle.fm_code.specs.declared.class_file.Member.{Member}
use Rattle.fm_code.specs.declared.class_file.MemberAttr.{MemberAttr}
use Rattle.fm_code.specs.declared.class_file.MemberAttr.TheVariants as attribute
use Rattle.fm_code.specs.declared.code_array.Code.{Code}
use Rattle.fm_code.specs.declared.constant_pool.Entry.{Entry}
use Rattle.fm_frames.specs.CallRows.{native_of}
use Rattle.fm_frames.specs.Natives.{native_of_row}
use Rattle.fm_law_linked.proofs.InterfaceCalls.{first_coded}
use Rattle.fm_law_linked.proofs.Rows.{all_methods}
use Rattle.fm_world.specs.BuiltIns.{built_in}
use Rattle.fm_world.specs.Declarations.{declared_from, declared_method, no_method}
use Rattle.fm_world.specs.Lookups.{is_abstract_method}
use Rattle.fm_world.specs.Members.{methods_from, methods_of, OwnedMethod}
use Rattle.fm_world.specs.Programs.{classes_of, code_at, codes_of, outline_of, Program, program_of}

-- ---- methods beside their codes

abbrev HasCode : OwnedMethod → Option Code → Type 0
HasCode m o = is_abstract m.method.flags ≡ false → option_and_then native_of_row m.method.row ≡ None → (code : Code) × (o ≡ Some code)

AreCoded : List OwnedMethod → List (Option Code) → Type 0
AreCoded [] [] = Unit {0}
AreCoded [] (o ∷ codes) = ⊥
AreCoded (m ∷ methods) [] = ⊥
AreCoded (m ∷ methods) (o ∷ codes) = HasCode m o × AreCoded methods codes

AreCoded-append : (methods more : List OwnedMethod) (codes others : List (Option Code)) → AreCoded methods codes → AreCoded more others
    → AreCoded (methods ++ more) (codes ++ others)
unfolding AreCoded
AreCoded-append [] more [] others first second = second
AreCoded-append [] more (o ∷ codes) others first second = absurd first
AreCoded-append (m ∷ methods) more [] others first second = absurd first
AreCoded-append (m ∷ methods) more (o ∷ codes) others first second = (first.0, AreCoded-append methods more codes others first.1 second)

AreCoded-at : (methods : List OwnedMethod) (codes : List (Option Code)) → AreCoded methods codes → (k : ℕ) → k < length methods
    → HasCode (get_or methods k (record { class = 0; method = no_method })) (get_or codes k None)
unfolding AreCoded
AreCoded-at [] codes coded k within = absurd (omega (arith, within))
AreCoded-at (m ∷ methods) [] coded k within = absurd coded
AreCoded-at (m ∷ methods) (o ∷ codes) coded zero within = coded.0
AreCoded-at (m ∷ methods) (o ∷ codes) coded (suc k) within = AreCoded-at methods codes coded.1 k (omega (arith, within))

-- ---- built-in methods

abbrev all_native : List OwnedMethod → Bool
all_native [] = true
all_native (m ∷ methods) = is_some (option_and_then native_of_row m.method.row) && all_native methods

-- each built-in method is a row of the machine
native_table : all_native (methods_of built_in) ≡ true
unfolding built_in methods_of
native_table = refl

AreCoded-native : (methods : List OwnedMethod) → all_native methods ≡ true → AreCoded methods (replicate (length methods) None)
unfolding AreCoded
AreCoded-native [] all = tt
AreCoded-native (m ∷ methods) all =
    let parts = and_parts (is_some (option_and_then native_of_row m.method.row)) (all_native methods) all in
    (λ concrete none. absurd (false≢true (sym (ap is_some none) ∙ parts.0)), AreCoded-native methods parts.1)

-- ---- methods of files

some_code : (attributes : List MemberAttr) → 0 < count_by is_coded attributes → (code : Code) × (first_coded attributes ≡ Some code)
some_code [] some = absurd (omega (arith, some))
some_code (attribute.Coded name code ∷ attributes) some = (code, refl)
some_code (attribute.Constant name value ∷ attributes) some =
    let step = sum_by-cons (λ a. cond (is_coded a) 1 0) (attribute.Constant name value) attributes in some_code attributes (omega (arith, some, step))
some_code (attribute.Other raw ∷ attributes) some =
    let step = sum_by-cons (λ a. cond (is_coded a) 1 0) (attribute.Other raw) attributes in some_code attributes (omega (arith, some, step))

member_coded : (in_interface : Bool) (entries : List Entry) (class : ℕ) (m : Member) → MethodIsValid in_interface entries m → MethodIsSupported in_interface entries m
    → HasCode (record { class = class; method = declared_method entries m }) (code_of m)
member_coded in_interface entries class m valid supported concrete none =
    let one : count_by is_coded m.attributes ≡ 1 =
    valid.coded ∙ ap (λ b. cond (b || is_native m.flags) 0 1) concrete ∙ ap (λ b. cond b 0 1) supported.head.not_native in
    some_code m.attributes (omega (arith, one))

members_coded : (in_interface : Bool) (entries : List Entry) (class : ℕ) (members : List Member) → AllByRecursion (MethodIsValid in_interface entries) members
    → AllByRecursion (MethodIsSupported in_interface entries) members
    → AreCoded (map (λ m. record { class = class; method = m }) (map (declared_method entries) members)) (map code_of members)
unfolding AreCoded
members_coded in_interface entries class [] valid supported = tt
members_coded in_interface entries class (m ∷ members) valid supported =
    (member_coded in_interface entries class m valid.0 supported.0, members_coded in_interface entries class members valid.1 supported.1)

files_coded : (class file : ℕ) (given : List ClassDef) → AllByRecursion HasSpelling given → AllByRecursion IsSupported given
    → AreCoded (methods_from class (declared_from file given)) (flat_map (λ c. map code_of c.methods) given)
unfolding AreCoded
files_coded class file [] spelled supported = tt
files_coded class file (c ∷ given) spelled supported =
    AreCoded-append (map (λ m. record { class = class; method = m }) (map (declared_method c.pool.entries) c.methods))
    (methods_from (class + 1) (declared_from (file + 1) given)) (map code_of c.methods) (flat_map (λ d. map code_of d.methods) given)
    (members_coded (is_interface c.flags) c.pool.entries class c.methods spelled.0.1.methods supported.0.methods)
    (files_coded (class + 1) (file + 1) given spelled.1 supported.1)

-- ---- all methods

all_coded : (given : List ClassDef) → AllByRecursion HasSpelling given → AllByRecursion IsSupported given → AreCoded (methods_of (classes_of given)) (codes_of given)
unfolding codes_of
all_coded given spelled supported =
    subst (λ ms. AreCoded ms (codes_of given)) (sym (all_methods given))
    (AreCoded-append (methods_of built_in) (methods_from (length built_in) (declared_from 0 given)) (replicate (length (methods_of built_in)) None)
    (flat_map (λ c. map code_of c.methods) given) (AreCoded-native (methods_of built_in) native_table)
    (files_coded (length built_in) 0 given spelled supported))

-- a method that is neither abstract nor a row of the machine has code
abbrev pub ConcreteMethodsHaveCode : Program → Type 0
ConcreteMethodsHaveCode p =
    (method : ℕ) → method < length (methods_of p.outline.classes) → is_abstract_method p.outline.classes method ≡ false → native_of p.outline method ≡ None
    → (code : Code) × (code_at p method ≡ Some code)

pub concrete_coded : (given : List ClassDef) (main : List ℕ) → AllByRecursion HasSpelling given → AllByRecursion IsSupported given
    → ConcreteMethodsHaveCode (program_of given main)
unfolding program_of outline_of
concrete_coded given main spelled supported method within =
    AreCoded-at (methods_of (classes_of given)) (codes_of given) (all_coded given spelled supported) method within
