-- Constructors give nothing: the descriptor of one ends in V (JVMS 2.9, 4.3.3).
use Rattle.std.proofs.Common.{◌≡◌, refl, sym, ◌∙◌, ap, subst, ℕ, ◌+◌, ◌-◌, ◌||◌, ◌&&◌, not, Bool, true, false, List, [], ◌∷◌, ◌++◌, length, map, drop, Option, Some, None, is_none, IsSomeAnd, unwrap_or, length-append, arith}
use Rattle.std.specs.List.{AllByRecursion}
use Rattle.std.specs.Option.{option_map}
use Rattle.std.specs.Str.{bytes_eq}
use Rattle.std.specs.Cmp.Lexicographic.{same_text}
use Rattle.std.proofs.lemmas.Bool.{and_parts, false≢true}
use Rattle.fm_base.proofs.ListFacts.{AllByRecursion-append, AllByRecursion-get_or}
use Rattle.fm_base.specs.declared.kinds.Base.{Base}
use Rattle.fm_code.specs.AccessFlags.{is_interface}
use Rattle.fm_code.specs.ConstantPool.{utf8_at}
use Rattle.fm_code.specs.Members.{MethodIsValid, ReturnsNothing}
use Rattle.fm_code.specs.Names.{BaseType, FieldType, object, primitive, result_descriptor}
use Rattle.fm_code.specs.Spells.{HasSpelling}
use Rattle.fm_code.specs.declared.class_file.ClassDef.{ClassDef}
use Rattle.fm_code.specs.declared.class_file.Member.{Member}
use Rattle.fm_code.specs.declared.constant_pool.Entry.{Entry}
use Rattle.fm_link_names.proofs.SpelledTypes.{types_in-fields}
use Rattle.fm_law_linked.proofs.Rows.{all_methods}
use Rattle.fm_world.specs.BuiltIns.{built_in}
use Rattle.fm_world.specs.Declarations.{declared_from, declared_method, no_method}
use Rattle.fm_world.specs.Descriptors.{first_type, kind_in, kind_with, primitive_base, result_kind, result_type, types_in}
use Rattle.fm_world.specs.Lookups.{constructor_name}
use Rattle.fm_world.specs.Members.{method_at, methods_from, methods_of, OwnedMethod}
use Rattle.fm_world.specs.Programs.{classes_of}
use Rattle.fm_world.specs.declared.declarations.DeclaredClass.{DeclaredClass}

-- ---- V is no kind

abbrev is_void : BaseType → Bool
is_void (primitive letter) = is_none (primitive_base letter)
is_void (object name) = false

no_base : (dims : ℕ) (b : Option Base) → is_none b ≡ true → option_map (kind_with dims) b ≡ None
no_base dims None is = refl
no_base dims (Some b) is = absurd (false≢true is)

no_kind : (classes : List DeclaredClass) (dims : ℕ) (b : BaseType) → is_void b ≡ true → kind_in classes (record { dimensions = dims; base = b }) ≡ None
no_kind classes dims (primitive letter) is = no_base dims (primitive_base letter) is
no_kind classes dims (object name) is = absurd (false≢true is)

-- ---- a descriptor that ends in V

first_after : (types : List FieldType) (t : FieldType) → first_type (drop (length types) (types ++ t ∷ [])) ≡ t
first_after [] t = refl
first_after (u ∷ types) t = first_after types t

last_type : (types : List FieldType) (t : FieldType) → first_type (drop (length (types ++ t ∷ []) - 1) (types ++ t ∷ [])) ≡ t
last_type types t =
    let long = length-append types (t ∷ []) in
    let count : length (types ++ t ∷ []) - 1 ≡ length types = omega (arith, long) in
    ap (λ n. first_type (drop n (types ++ t ∷ []))) count ∙ first_after types t

void_result : (descriptor : List ℕ) → ReturnsNothing descriptor → is_void (result_type descriptor).base ≡ true
void_result descriptor (m, (is, (spelled, none))) =
    let ends : List ℕ = 41 ∷ result_descriptor None in
    let types : types_in descriptor ≡ m.parameters ++ types_in ends =
    ap types_in spelled ∙ types_in-fields m.parameters (41 ∷ result_descriptor m.result) is.parameters
    ∙ ap (λ r. m.parameters ++ types_in (41 ∷ result_descriptor r)) none in
    ap (λ ts. is_void (first_type (drop (length ts - 1) ts)).base) types
    ∙ ap (λ (t : FieldType). is_void t.base) (last_type m.parameters (first_type (types_in ends)))

-- ---- all methods

abbrev GivesNothing : OwnedMethod → Type 0
GivesNothing m = bytes_eq m.method.name constructor_name ≡ true → is_void (result_type m.method.descriptor).base ≡ true

named_so : (o : Option (List ℕ)) → bytes_eq (unwrap_or o []) constructor_name ≡ true → o ≡ Some constructor_name
named_so None is = absurd (false≢true is)
named_so (Some name) is = ap Some (same_text name constructor_name (sym is))

by_descriptor : (o : Option (List ℕ)) → IsSomeAnd o ReturnsNothing → is_void (result_type (unwrap_or o [])).base ≡ true
by_descriptor None is = absurd is
by_descriptor (Some descriptor) is = void_result descriptor is

nothing_members : (class : ℕ) (in_interface : Bool) (entries : List Entry) (members : List Member) → AllByRecursion (MethodIsValid in_interface entries) members
    → AllByRecursion GivesNothing (map (λ m. record { class = class; method = m }) (map (declared_method entries) members))
nothing_members class in_interface entries [] valid = tt
nothing_members class in_interface entries (m ∷ members) valid = (
  λ is. by_descriptor (utf8_at entries m.descriptor) (valid.0.constructor (named_so (utf8_at entries m.name) is)).returns_nothing,
  nothing_members class in_interface entries members valid.1,
)

nothing_from : (class file : ℕ) (given : List ClassDef) → AllByRecursion HasSpelling given → AllByRecursion GivesNothing (methods_from class (declared_from file given))
nothing_from class file [] spelled = tt
nothing_from class file (c ∷ given) spelled =
    AllByRecursion-append GivesNothing (map (λ m. record { class = class; method = m }) (map (declared_method c.pool.entries) c.methods))
    (methods_from (class + 1) (declared_from (file + 1) given))
    (nothing_members class (is_interface c.flags) c.pool.entries c.methods spelled.0.1.methods) (nothing_from (class + 1) (file + 1) given spelled.1)

abbrev all_void : List OwnedMethod → Bool
all_void [] = true
all_void (m ∷ methods) = (not (bytes_eq m.method.name constructor_name) || is_void (result_type m.method.descriptor).base) && all_void methods

table_void : all_void (methods_of built_in) ≡ true
unfolding built_in methods_of
table_void = refl

either_so : (a b : Bool) → (not a || b) ≡ true → a ≡ true → b ≡ true
either_so true b h e = h
either_so false b h e = absurd (false≢true e)

each_void : (methods : List OwnedMethod) → all_void methods ≡ true → AllByRecursion GivesNothing methods
each_void [] all = tt
each_void (m ∷ methods) all =
    let void : Bool = is_void (result_type m.method.descriptor).base in
    let parts = and_parts (not (bytes_eq m.method.name constructor_name) || void) (all_void methods) all in
    (either_so (bytes_eq m.method.name constructor_name) void parts.0, each_void methods parts.1)

pub constructor_gives : (given : List ClassDef) → AllByRecursion HasSpelling given → (method : ℕ)
    → bytes_eq (method_at (classes_of given) method).method.name constructor_name ≡ true
    → result_kind (classes_of given) (method_at (classes_of given) method).method.descriptor ≡ None
constructor_gives given spelled method is =
    let m = (method_at (classes_of given) method).method in
    let t = result_type m.descriptor in
    no_kind (classes_of given) t.dimensions t.base
    (AllByRecursion-get_or GivesNothing (methods_of (classes_of given)) (record { class = 0; method = no_method })
    (subst (AllByRecursion GivesNothing) (sym (all_methods given))
    (AllByRecursion-append GivesNothing (methods_of built_in) (methods_from (length built_in) (declared_from 0 given)) (each_void (methods_of built_in) table_void)
    (nothing_from (length built_in) 0 given spelled)))
    (λ named. absurd (false≢true named)) method is)
