-- The classes of all types of a program are there.
use Rattle.std.proofs.Common.{◌≡◌, ℕ, zero, suc, ◌+◌, ◌-◌, ◌<◌, ◌≤◌, ◌==◌, not, Bool, true, false, cond, List, [], ◌∷◌, ◌++◌, length, map, filter, nat_lt, Option, Some, None, option_and_then, option_map, refl, arith}
use Rattle.std.specs.Str.{bytes_eq}
use Rattle.std.specs.List.{AllByRecursion, cons_option, filter_map, flat_map, range_with_len}
use Rattle.std.proofs.lemmas.List.Quantifiers.{position-Some}
use Rattle.fm_base.proofs.ListFacts.{AllByRecursion-append, AllByRecursion-at, AllByRecursion-from_every}
use Rattle.fm_base.specs.declared.characters.TheConstants.{BOOLEAN_LETTER, BYTE_LETTER, CHAR_LETTER, INT_LETTER, LONG_LETTER, SHORT_LETTER}
use Rattle.fm_base.specs.declared.kinds.Base.{Base}
use Rattle.fm_base.specs.declared.kinds.Base.TheVariants as base
use Rattle.fm_base.specs.declared.kinds.TypeRef.{TypeRef}
use Rattle.fm_code.specs.Names.{BaseType, FieldType, object, primitive}
use Rattle.fm_code.specs.declared.class_file.ClassDef.{ClassDef}
use Rattle.fm_code.specs.declared.code_array.Item.{Item}
use Rattle.fm_code.specs.declared.constant_pool.Entry.{Entry}
use Rattle.fm_code.specs.declared.instructions.Insn.{Insn}
use Rattle.fm_code.specs.declared.instructions.Insn.TheVariants as insn
use Rattle.fm_code.specs.declared.operations.Elem.{Elem}
use Rattle.fm_code.specs.declared.operations.Elem.TheVariants as elem
use Rattle.fm_world.specs.BuiltIns.{string_name}
use Rattle.fm_world.specs.Chains.{distinct, same_type}
use Rattle.fm_world.specs.Declarations.{no_class}
use Rattle.fm_world.specs.Descriptors.{base_in, class_number, class_type, of_class, primitive_base, type_in, type_with}
use Rattle.fm_world.specs.Numbers.{argument_array, arrays_in, class_types, made_arrays, type_of_class, types_of, used_types}
use Rattle.fm_world.specs.Programs.{classes_of, outline_of, program_of, IsBaseIn, IsTypeIn}
use Rattle.fm_world.specs.Uses.{array_of, base_of_elem, class_items, made_array, named_class, named_type, uses_in_order}
use Rattle.fm_world.specs.declared.declarations.DeclaredClass.{DeclaredClass}
use Rattle.fm_conn.specs.Laws.{TypesAreIn}

-- ---- what holds of values that are there

abbrev IfThere : {X : Type 0} → (X → Type 0) → Option X → Type 0
IfThere P None = Unit {0}
IfThere P (Some x) = P x

if_either : {X : Type 0} (P : X → Type 0) (b : Bool) (x y : Option X) → IfThere P x → IfThere P y → IfThere P (cond b x y)
if_either P true x y first second = first
if_either P false x y first second = second

and_then : {X Y : Type 0} (R : X → Type 0) (P : Y → Type 0) (f : X → Option Y) → ((x : X) → R x → IfThere P (f x)) → (o : Option X) → IfThere R o →
    IfThere P (option_and_then f o)
and_then R P f each None there = tt
and_then R P f each (Some x) there = each x there

-- ---- lists

flat_map_all : {X Y : Type 0} (P : Y → Type 0) (f : X → List Y) → ((x : X) → AllByRecursion P (f x)) → (xs : List X) → AllByRecursion P (flat_map f xs)
flat_map_all P f each [] = tt
flat_map_all P f each (x ∷ xs) = AllByRecursion-append P (f x) (flat_map f xs) (each x) (flat_map_all P f each xs)

map_all : {X Y : Type 0} (P : Y → Type 0) (f : X → Y) → ((x : X) → P (f x)) → (xs : List X) → AllByRecursion P (map f xs)
map_all P f each [] = tt
map_all P f each (x ∷ xs) = (each x, map_all P f each xs)

cons_all : {Y : Type 0} (P : Y → Type 0) (o : Option Y) (rest : List Y) → IfThere P o → AllByRecursion P rest → AllByRecursion P (cons_option o rest)
cons_all P None rest there all = all
cons_all P (Some y) rest there all = (there, all)

filter_map_all : {X Y : Type 0} (P : Y → Type 0) (f : X → Option Y) (xs : List X) → AllByRecursion (λ x. IfThere P (f x)) xs → AllByRecursion P (filter_map f xs)
filter_map_all P f [] all = tt
filter_map_all P f (x ∷ xs) (here, all) = cons_all P (f x) (filter_map f xs) here (filter_map_all P f xs all)

pub filter_all : {X : Type 0} (P : X → Type 0) (test : X → Bool) (xs : List X) → AllByRecursion P xs → AllByRecursion P (filter test xs)
filter_all P test [] all = tt
filter_all P test (x ∷ xs) (here, all) =
    elim (test x) as (λ b. AllByRecursion P (cond b (x ∷ filter test xs) (filter test xs))) [
      | true ↦ (here, filter_all P test xs all)
      | false ↦ filter_all P test xs all
    ]

distinct_all : {X : Type 0} (P : X → Type 0) (same : X → X → Bool) (xs : List X) → AllByRecursion P xs → AllByRecursion P (distinct same xs)
distinct_all P same [] all = tt
distinct_all P same (x ∷ xs) (here, all) = (here, filter_all P (λ y. not (same x y)) (distinct same xs) (distinct_all P same xs all))

-- ---- types by name

class_number_in : (classes : List DeclaredClass) (name : List ℕ) → IfThere (λ class. class < length classes) (class_number classes name)
class_number_in classes name = go (class_number classes name) refl where
  go : (o : Option ℕ) → class_number classes name ≡ o → IfThere (λ class. class < length classes) o
  go None is = tt
  go (Some class) is = (position-Some (λ (c : DeclaredClass). bytes_eq c.name name) classes class no_class is).0

primitive_in : (classes : List DeclaredClass) (letter : ℕ) → IfThere (IsBaseIn classes) (primitive_base letter)
primitive_in classes letter =
    let P : Base → Type 0 = IsBaseIn classes in
    let long : Option Base = cond (letter == LONG_LETTER) (Some base.Long) None in
    let int : Option Base = cond (letter == INT_LETTER) (Some base.Int) long in
    let short : Option Base = cond (letter == SHORT_LETTER) (Some base.Short) int in
    let char : Option Base = cond (letter == CHAR_LETTER) (Some base.Char) short in
    let byte : Option Base = cond (letter == BYTE_LETTER) (Some base.Byte) char in
    if_either P (letter == BOOLEAN_LETTER) (Some base.Boolean) byte tt
    (if_either P (letter == BYTE_LETTER) (Some base.Byte) char tt
    (if_either P (letter == CHAR_LETTER) (Some base.Char) short tt
    (if_either P (letter == SHORT_LETTER) (Some base.Short) int tt
    (if_either P (letter == INT_LETTER) (Some base.Int) long tt (if_either P (letter == LONG_LETTER) (Some base.Long) None tt tt)))))

base_there : (classes : List DeclaredClass) (t : BaseType) → IfThere (IsBaseIn classes) (base_in classes t)
base_there classes (primitive letter) = primitive_in classes letter
base_there classes (object name) = go (class_number classes name) (class_number_in classes name) where
  go : (o : Option ℕ) → IfThere (λ class. class < length classes) o → IfThere (IsBaseIn classes) (option_map of_class o)
  go None there = tt
  go (Some class) there = there

with_there : (classes : List DeclaredClass) (dimensions : ℕ) (b : Base) → IsBaseIn classes b → IfThere (IsTypeIn classes) (type_with dimensions b)
with_there classes dimensions (base.OfClass class) there = there
with_there classes dimensions base.Boolean there = if_either (IsTypeIn classes) (dimensions == 0) None (Some (record { dims = dimensions; base = base.Boolean })) tt tt
with_there classes dimensions base.Byte there = if_either (IsTypeIn classes) (dimensions == 0) None (Some (record { dims = dimensions; base = base.Byte })) tt tt
with_there classes dimensions base.Char there = if_either (IsTypeIn classes) (dimensions == 0) None (Some (record { dims = dimensions; base = base.Char })) tt tt
with_there classes dimensions base.Short there = if_either (IsTypeIn classes) (dimensions == 0) None (Some (record { dims = dimensions; base = base.Short })) tt tt
with_there classes dimensions base.Int there = if_either (IsTypeIn classes) (dimensions == 0) None (Some (record { dims = dimensions; base = base.Int })) tt tt
with_there classes dimensions base.Long there = if_either (IsTypeIn classes) (dimensions == 0) None (Some (record { dims = dimensions; base = base.Long })) tt tt

type_there : (classes : List DeclaredClass) (t : FieldType) → IfThere (IsTypeIn classes) (type_in classes t)
type_there classes t =
    and_then (IsBaseIn classes) (IsTypeIn classes) (type_with t.dimensions) (with_there classes t.dimensions) (base_in classes t.base) (base_there classes t.base)

anything : {X : Type 0} (o : Option X) → IfThere (λ _. Unit {0}) o
anything None = tt
anything (Some x) = tt

named_there : (classes : List DeclaredClass) (entries : List Entry) (index : ℕ) → IfThere (IsTypeIn classes) (named_type classes entries index)
named_there classes entries index =
    and_then (λ _. Unit {0}) (IsTypeIn classes) (λ name. type_in classes (class_type name)) (λ name _. type_there classes (class_type name))
    (named_class entries index) (anything (named_class entries index))

-- ---- all types

classes_all : (classes : List DeclaredClass) (from n : ℕ) → from + n ≤ length classes → AllByRecursion (IsTypeIn classes) (map type_of_class (range_with_len from n))
classes_all classes from zero few = tt
classes_all classes from (suc n) few = let here : from < length classes = omega arith in (here, classes_all classes (from + 1) n (omega arith))

used_all : (classes : List DeclaredClass) (given : List ClassDef) → AllByRecursion (IsTypeIn classes) (used_types classes given)
used_all classes given =
    flat_map_all (IsTypeIn classes) (λ (c : ClassDef). filter_map (named_type classes c.pool.entries) (uses_in_order c))
    (λ c. filter_map_all (IsTypeIn classes) (named_type classes c.pool.entries) (uses_in_order c)
    (AllByRecursion-from_every (λ index. IfThere (IsTypeIn classes) (named_type classes c.pool.entries index)) (named_there classes c.pool.entries) (uses_in_order c)))
    given

array_there : (classes : List DeclaredClass) (t : TypeRef) → IsTypeIn classes t → IfThere (IsTypeIn classes) (array_of t)
array_there classes t there = if_either (IsTypeIn classes) (nat_lt t.dims 255) (Some (record { dims = t.dims + 1; base = t.base })) None there tt

elem_there : (classes : List DeclaredClass) (e : Elem) → IfThere (IsTypeIn classes) (option_map (λ b. record { dims = 1; base = b }) (base_of_elem e))
elem_there classes elem.Boolean = tt
elem_there classes elem.Byte = tt
elem_there classes elem.Char = tt
elem_there classes elem.Short = tt
elem_there classes elem.Int = tt
elem_there classes elem.Long = tt
elem_there classes elem.Ref = tt

made_there : (classes : List DeclaredClass) (entries : List Entry) (i : Insn) → IfThere (IsTypeIn classes) (made_array classes entries i)
made_there classes entries (insn.NewArray e) = elem_there classes e
made_there classes entries (insn.NewRefs index) =
    and_then (IsTypeIn classes) (IsTypeIn classes) array_of (array_there classes) (named_type classes entries index) (named_there classes entries index)
made_there classes entries i = tt

argument_there : (classes : List DeclaredClass) → IfThere (IsTypeIn classes) (argument_array classes)
argument_there classes =
    and_then (λ class. class < length classes) (IsTypeIn classes) (λ class. array_of (type_of_class class)) (λ class there. array_there classes (type_of_class class) there)
    (class_number classes string_name) (class_number_in classes string_name)

made_all : (classes : List DeclaredClass) (given : List ClassDef) → AllByRecursion (IsTypeIn classes) (made_arrays classes given)
made_all classes given =
    filter_map_all (IsTypeIn classes) (λ t. t)
    (argument_array classes ∷ flat_map (λ (c : ClassDef). map (λ (item : Item). made_array classes c.pool.entries item.insn) (class_items c)) given) (
      argument_there classes,
      flat_map_all (IfThere (IsTypeIn classes))
          (λ (c : ClassDef). map (λ (item : Item). made_array classes c.pool.entries item.insn) (class_items c))
          (λ c. map_all (IfThere (IsTypeIn classes)) (λ (item : Item). made_array classes c.pool.entries item.insn)
          (λ item. made_there classes c.pool.entries item.insn) (class_items c))
          given,
    )

arrays_all : (classes : List DeclaredClass) (types : List TypeRef) → AllByRecursion (IsTypeIn classes) types → AllByRecursion (IsTypeIn classes) (flat_map arrays_in types)
arrays_all classes [] all = tt
arrays_all classes (t ∷ types) (here, all) =
    AllByRecursion-append (IsTypeIn classes) (arrays_in t) (flat_map arrays_in types)
    (map_all (IsTypeIn classes) (λ fewer. record { dims = t.dims - fewer; base = t.base }) (λ fewer. here) (range_with_len 0 t.dims)) (arrays_all classes types all)

types_all : (classes : List DeclaredClass) (given : List ClassDef) → AllByRecursion (IsTypeIn classes) (types_of classes given)
unfolding types_of
types_all classes given =
    let used = used_types classes given in
    let P : TypeRef → Type 0 = IsTypeIn classes in
    distinct_all P same_type (class_types classes ++ used ++ flat_map arrays_in (used ++ made_arrays classes given))
    (AllByRecursion-append P (class_types classes ++ used) (flat_map arrays_in (used ++ made_arrays classes given))
    (AllByRecursion-append P (class_types classes) used (classes_all classes 0 (length classes) (omega arith)) (used_all classes given))
    (arrays_all classes (used ++ made_arrays classes given)
    (AllByRecursion-append P used (made_arrays classes given) (used_all classes given) (made_all classes given))))

pub types_in : TypesAreIn
unfolding program_of outline_of
types_in given main number t is = AllByRecursion-at (IsTypeIn (classes_of given)) (types_of (classes_of given) given) number t (types_all (classes_of given) given) is
