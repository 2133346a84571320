-- Few types have numbers: they are different, of at most 255 dimensions (JVMS 4.4.1), and of a class that is there or of a letter.
use Rattle.std.proofs.Common.{◌≡◌, refl, sym, ◌∙◌, ap, subst, ℕ, zero, suc, ◌+◌, ◌-◌, ◌*◌, ◌<◌, ◌≤◌, ◌⊎◌, inl, inr, not, Bool, true, false, cond, List, [], ◌∷◌, ◌++◌, length, map, filter, nat_lt, nat_eq, slice_get, Contains, Option, Some, None, option_and_then, option_map, arith}
use Rattle.std.specs.List.{AllByRecursion, filter_map, flat_map, IsDistinct, range_with_len}
use Rattle.std.proofs.lemmas.Bool.{eqb-true, false≢true, ltb-true, or_cases}
use Rattle.std.proofs.lemmas.List.{length-map}
use Rattle.std.proofs.lemmas.List.Elements.{Contains-append_cases}
use Rattle.std.proofs.lemmas.Map.Steps.{length-le_from_distinct_below}
use Rattle.std.proofs.lemmas.Option.{none-some, same_Some}
use Rattle.fm_base.proofs.ContainsFacts.{Contains-cons_cases}
use Rattle.fm_base.specs.declared.kinds.Base.{Base}
use Rattle.fm_base.specs.declared.kinds.Base.TheVariants as base
use Rattle.fm_base.specs.declared.kinds.TypeRef.{TypeRef}
use Rattle.fm_code.proofs.EdgesLemmas.{Contains-first, Contains-from_map, Contains-later}
use Rattle.fm_code.specs.Names.{FieldType}
use Rattle.fm_code.specs.Spells.{HasSpelling}
use Rattle.fm_code.specs.declared.class_file.ClassDef.{ClassDef}
use Rattle.fm_code.specs.declared.code_array.Item.{Item}
use Rattle.fm_code.specs.declared.instructions.Insn.{Insn}
use Rattle.fm_code.specs.declared.instructions.Insn.TheVariants as insn
use Rattle.fm_flow.proofs.SourcesLemmas.{Contains-from_flat_map}
use Rattle.fm_conn.proofs.TypeLemmas.{types_in}
use Rattle.fm_link_names.proofs.SpelledNames.{named_class-is}
use Rattle.fm_link_names.proofs.SpelledTypes.{few_class}
use Rattle.fm_law_linked.proofs.CodedMethods.{contains_at}
use Rattle.fm_law_linked.proofs.GivenFiles.{each_one}
use Rattle.fm_law_linked.proofs.InterfaceCalls.{dims_kept}
use Rattle.fm_law_linked.proofs.MadeTypes.{from_distinct, Listed, made_by, Named, with_fewer}
use Rattle.fm_types.proofs.LeastJoins.{same_type-refl}
use Rattle.fm_world.specs.BuiltIns.{string_name}
use Rattle.fm_world.specs.Chains.{distinct, is_among, same_type}
use Rattle.fm_world.proofs.ElementLemmas.{Contains-from_filter_map}
use Rattle.fm_world.specs.Descriptors.{base_in, class_number, class_type, type_in, type_with}
use Rattle.fm_world.specs.Numbers.{argument_array, arrays_in, class_types, made_arrays, type_of_class, types_of, used_types}
use Rattle.fm_world.specs.Programs.{classes_of, IsTypeIn, outline_of, program_of}
use Rattle.fm_world.specs.Uses.{array_of, base_of_elem, class_items, made_array, named_class, named_type, uses_in_order}
use Rattle.fm_world.specs.declared.declarations.DeclaredClass.{DeclaredClass}

-- ---- a number for each type

abbrev base_number : Base → ℕ
base_number base.Boolean = 0
base_number base.Byte = 1
base_number base.Char = 2
base_number base.Short = 3
base_number base.Int = 4
base_number base.Long = 5
base_number (base.OfClass class) = suc (suc (suc (suc (suc (suc class.0)))))

base_of : ℕ → Base
base_of zero = base.Boolean
base_of (suc zero) = base.Byte
base_of (suc (suc zero)) = base.Char
base_of (suc (suc (suc zero))) = base.Short
base_of (suc (suc (suc (suc zero)))) = base.Int
base_of (suc (suc (suc (suc (suc zero))))) = base.Long
base_of (suc (suc (suc (suc (suc (suc class)))))) = base.OfClass (record { 0 = class })

base_again : (b : Base) → base_of (base_number b) ≡ b
unfolding base_of
base_again base.Boolean = refl
base_again base.Byte = refl
base_again base.Char = refl
base_again base.Short = refl
base_again base.Int = refl
base_again base.Long = refl
base_again (base.OfClass class) = refl

abbrev number_of : TypeRef → ℕ
number_of t = base_number t.base * 256 + t.dims

abbrev IsShallow : TypeRef → Type 0
IsShallow t = t.dims < 256

same_by : (t u : TypeRef) → t.dims ≡ u.dims → t.base ≡ u.base → same_type t u ≡ true
same_by t u dims bases = rw (dims, bases) (same_type-refl u)

-- types with one number are the same
one_number : (t u : TypeRef) → IsShallow t → IsShallow u → number_of t ≡ number_of u → same_type t u ≡ true
one_number t u t_few u_few e =
    let numbers : base_number t.base ≡ base_number u.base = omega (arith, t_few, u_few, e) in
    same_by t u (omega (arith, t_few, u_few, e)) (sym (base_again t.base) ∙ ap base_of numbers ∙ base_again u.base)

-- ---- different types have different numbers

all_kept : (P : ℕ → Type 0) (test : TypeRef → Bool) (types : List TypeRef) → AllByRecursion P (map number_of types)
    → AllByRecursion P (map number_of (filter test types))
all_kept P test [] all = tt
all_kept P test (t ∷ types) all = by_test (all_kept P test types all.1) (test t) where
  by_test : AllByRecursion P (map number_of (filter test types)) → (b : Bool)
      → AllByRecursion P (map number_of (cond b (t ∷ filter test types) (filter test types)))
  by_test later true = (all.0, later)
  by_test later false = later

distinct_kept : (test : TypeRef → Bool) (types : List TypeRef) → IsDistinct nat_eq (map number_of types) → IsDistinct nat_eq (map number_of (filter test types))
unfolding IsDistinct
distinct_kept test [] apart = tt
distinct_kept test (t ∷ types) apart =
    by_test (all_kept (λ n. nat_eq (number_of t) n ≡ false) test types apart.0) (distinct_kept test types apart.1) (test t) where
      by_test : AllByRecursion (λ n. nat_eq (number_of t) n ≡ false) (map number_of (filter test types)) → IsDistinct nat_eq (map number_of (filter test types))
          → (b : Bool) → IsDistinct nat_eq (map number_of (cond b (t ∷ filter test types) (filter test types)))
      by_test first later true = (first, later)
      by_test first later false = later

unlike : (t u : TypeRef) → IsShallow t → IsShallow u → same_type t u ≡ false → nat_eq (number_of t) (number_of u) ≡ false
unlike t u t_few u_few other = by_test (nat_eq (number_of t) (number_of u)) refl where
  by_test : (b : Bool) → nat_eq (number_of t) (number_of u) ≡ b → b ≡ false
  by_test false e = refl
  by_test true e = absurd (false≢true (sym other ∙ one_number t u t_few u_few (eqb-true (number_of t) (number_of u) e)))

others_unlike : (t : TypeRef) (types : List TypeRef) → IsShallow t → ((u : TypeRef) → Contains types u → IsShallow u)
    → AllByRecursion (λ n. nat_eq (number_of t) n ≡ false) (map number_of (filter (λ u. not (same_type t u)) types))
others_unlike t [] t_few each = tt
others_unlike t (u ∷ types) t_few each =
    by_test (others_unlike t types t_few (λ v there. each v (Contains-later u types v there))) (same_type t u) refl where
      P : ℕ → Type 0
      P n = nat_eq (number_of t) n ≡ false

      kept : List TypeRef
      kept = filter (λ v. not (same_type t v)) types

      by_test : AllByRecursion P (map number_of kept) → (b : Bool) → same_type t u ≡ b → AllByRecursion P (map number_of (cond (not b) (u ∷ kept) kept))
      by_test later true e = later
      by_test later false e = (unlike t u t_few (each u (Contains-first u types u refl)) e, later)

numbers_distinct : (types : List TypeRef) → ((t : TypeRef) → Contains types t → IsShallow t) → IsDistinct nat_eq (map number_of (distinct same_type types))
unfolding IsDistinct
numbers_distinct [] each = tt
numbers_distinct (t ∷ types) each =
    let rest = distinct same_type types in (
      others_unlike t rest (each t (Contains-first t types t refl)) (λ u there. each u (Contains-later t types u (from_distinct types u there))),
      distinct_kept (λ u. not (same_type t u)) rest (numbers_distinct types (λ u there. each u (Contains-later t types u there))),
    )

-- ---- numbers below a bound

each_below : (n : ℕ) (types : List TypeRef) → ((k : ℕ) (t : TypeRef) → slice_get types k ≡ Some t → number_of t < n) → (q : ℕ)
    → is_among q (map number_of types) ≡ true → q < n
each_below n [] each q among = absurd (false≢true among)
each_below n (t ∷ types) each q among =
    by_place (each_below n types (λ k u at. each (suc k) u at) q) (or_cases (nat_eq q (number_of t)) (is_among q (map number_of types)) among) where
      by_place : (is_among q (map number_of types) ≡ true → q < n) → (nat_eq q (number_of t) ≡ true) ⊎ (is_among q (map number_of types) ≡ true) → q < n
      by_place later (inl same) = subst (λ m. m < n) (sym (eqb-true q (number_of t) same)) (each 0 t refl)
      by_place later (inr there) = later there

base_below : (classes : List DeclaredClass) (t : TypeRef) → IsTypeIn classes t → base_number t.base < 6 + length classes
base_below classes t there = by_base t.base there where
  by_base : (b : Base) → IsTypeIn classes (record { dims = 0; base = b }) → base_number b < 6 + length classes
  by_base base.Boolean inside = omega arith
  by_base base.Byte inside = omega arith
  by_base base.Char inside = omega arith
  by_base base.Short inside = omega arith
  by_base base.Int inside = omega arith
  by_base base.Long inside = omega arith
  by_base (base.OfClass class) inside = omega (arith, inside)

-- ---- types of class files have few dimensions

array_shallow : (o : Option TypeRef) (t : TypeRef) → option_and_then array_of o ≡ Some t → IsShallow t
array_shallow None t e = absurd (none-some t e)
array_shallow (Some u) t e = by_flag (nat_lt u.dims 255) refl e where
  by_flag : (b : Bool) → nat_lt u.dims 255 ≡ b → cond b (Some (record { dims = u.dims + 1; base = u.base })) None ≡ Some t → IsShallow t
  by_flag false is e = absurd (none-some t e)
  by_flag true is e =
      let dims : u.dims + 1 ≡ t.dims = ap (λ (v : TypeRef). v.dims) (same_Some (record { dims = u.dims + 1; base = u.base }) t e) in
      let few = ltb-true u.dims 255 is in
      omega (arith, dims, few)

named_shallow : (classes : List DeclaredClass) (c : ClassDef) → HasSpelling c → (index : ℕ) (t : TypeRef) → named_type classes c.pool.entries index ≡ Some t
    → IsShallow t
named_shallow classes c spelled index t e = by_name (named_class c.pool.entries index) refl e where
  by_base : (type : FieldType) → type.dimensions ≤ 255 → (o : Option Base) → option_and_then (type_with type.dimensions) o ≡ Some t → IsShallow t
  by_base type few None e = absurd (none-some t e)
  by_base type few (Some b) e = let dims = dims_kept type.dimensions b t e in omega (arith, few, dims)

  by_name : (o : Option (List ℕ)) → named_class c.pool.entries index ≡ o → option_and_then (λ name. type_in classes (class_type name)) o ≡ Some t → IsShallow t
  by_name None is e = absurd (none-some t e)
  by_name (Some name) is e =
      by_base (class_type name) (few_class name (named_class-is c spelled index name is)) (base_in classes (class_type name).base) e

made_shallow : (classes : List DeclaredClass) (c : ClassDef) → HasSpelling c → (i : Insn) (t : TypeRef) → made_array classes c.pool.entries i ≡ Some t
    → IsShallow t
made_shallow classes c spelled (insn.NewArray elem) t e = by_base (base_of_elem elem) e where
  by_base : (o : Option Base) → option_map (λ b. record { dims = 1; base = b }) o ≡ Some t → IsShallow t
  by_base None e = absurd (none-some t e)
  by_base (Some b) e =
      let dims : 1 ≡ t.dims = ap (λ (v : TypeRef). v.dims) (same_Some (record { dims = 1; base = b }) t e) in omega (arith, dims)
made_shallow classes c spelled (insn.NewRefs index) t e = array_shallow (named_type classes c.pool.entries index) t e
made_shallow classes c spelled i t e = absurd (none-some t e)

module _ (classes : List DeclaredClass) (given : List ClassDef) (spelled : AllByRecursion HasSpelling given) where
  used_shallow : (t : TypeRef) → Contains (used_types classes given) t → IsShallow t
  used_shallow t found =
      let from = Contains-from_flat_map (λ (c : ClassDef). filter_map (named_type classes c.pool.entries) (uses_in_order c)) given t found in
      let index = Contains-from_filter_map (named_type classes from.0.pool.entries) (uses_in_order from.0) t from.2 in
      named_shallow classes from.0 (each_one HasSpelling given from.0 spelled from.1) index.0 t index.2

  argument_shallow : (t : TypeRef) → argument_array classes ≡ Some t → IsShallow t
  argument_shallow t e = by_class (class_number classes string_name) e where
    by_class : (o : Option ℕ) → option_and_then (λ class. array_of (type_of_class class)) o ≡ Some t → IsShallow t
    by_class None e = absurd (none-some t e)
    by_class (Some class) e = array_shallow (Some (type_of_class class)) t e

  made_all_shallow : (t : TypeRef) → Contains (made_arrays classes given) t → IsShallow t
  made_all_shallow t found =
      let from = Contains-from_filter_map (λ (o : Option TypeRef). o) (argument_array classes ∷ flat_map (made_by classes) given) t found in
      by_place from.0 from.2 (Contains-cons_cases (argument_array classes) (flat_map (made_by classes) given) from.0 from.1) where
        by_place : (o : Option TypeRef) → o ≡ Some t → (o ≡ argument_array classes) ⊎ Contains (flat_map (made_by classes) given) o → IsShallow t
        by_place o e (inl same) = argument_shallow t (sym same ∙ e)
        by_place o e (inr later) =
            let file = Contains-from_flat_map (made_by classes) given o later in
            let item = Contains-from_map (λ (i : Item). made_array classes file.0.pool.entries i.insn) (class_items file.0) o file.2 in
            made_shallow classes file.0 (each_one HasSpelling given file.0 spelled file.1) item.0.insn t (item.2 ∙ e)

  listed_shallow : (t : TypeRef) → Contains (Listed classes given) t → IsShallow t
  listed_shallow t found =
      by_part (Contains-append_cases (class_types classes ++ used_types classes given) (flat_map arrays_in (Named classes given)) t found) where
        by_first : Contains (class_types classes) t ⊎ Contains (used_types classes given) t → IsShallow t
        by_first (inl class) =
            let was = Contains-from_map type_of_class (range_with_len 0 (length classes)) t class in
            let none : 0 ≡ t.dims = ap (λ (u : TypeRef). u.dims) was.2 in
            omega (arith, none)
        by_first (inr used) = used_shallow t used

        by_named : (u : TypeRef) → Contains (used_types classes given) u ⊎ Contains (made_arrays classes given) u → IsShallow u
        by_named u (inl used) = used_shallow u used
        by_named u (inr made) = made_all_shallow u made

        by_part : Contains (class_types classes ++ used_types classes given) t ⊎ Contains (flat_map arrays_in (Named classes given)) t → IsShallow t
        by_part (inl first) = by_first (Contains-append_cases (class_types classes) (used_types classes given) t first)
        by_part (inr array) =
            let from = Contains-from_flat_map arrays_in (Named classes given) t array in
            let was = Contains-from_map (with_fewer from.0) (range_with_len 0 from.0.dims) t from.2 in
            let few = by_named from.0 (Contains-append_cases (used_types classes given) (made_arrays classes given) from.0 from.1) in
            let dims : from.0.dims - was.0 ≡ t.dims = ap (λ (u : TypeRef). u.dims) was.2 in
            omega (arith, few, dims)

-- ---- so there are few

-- a type that has a number has no more dimensions than an array may
pub numbered_shallow : (given : List ClassDef) (main : List ℕ) → AllByRecursion HasSpelling given → (k : ℕ) (t : TypeRef)
    → slice_get (outline_of given main).types k ≡ Some t → t.dims < 256
unfolding outline_of types_of
numbered_shallow given main spelled k t at =
    let all = Listed (classes_of given) given in
    listed_shallow (classes_of given) given spelled t (from_distinct all t (contains_at (distinct same_type all) k t at))

number_below : (given : List ClassDef) (main : List ℕ) → AllByRecursion HasSpelling given → (k : ℕ) (t : TypeRef)
    → slice_get (distinct same_type (Listed (classes_of given) given)) k ≡ Some t
    → number_of t < (6 + length (classes_of given)) * 256
unfolding outline_of program_of types_of
number_below given main spelled k t at =
    let all = Listed (classes_of given) given in
    let shallow = listed_shallow (classes_of given) given spelled t (from_distinct all t (contains_at (distinct same_type all) k t at)) in
    let inside = base_below (classes_of given) t (types_in given main k t at) in
    omega (arith, shallow, inside)

-- no more than letters and classes, each with 0 to 255 dimensions
pub types_few : (given : List ClassDef) (main : List ℕ) → AllByRecursion HasSpelling given
    → length (outline_of given main).types ≤ (6 + length (classes_of given)) * 256
unfolding outline_of types_of
types_few given main spelled =
    let bound = (6 + length (classes_of given)) * 256 in
    let all = Listed (classes_of given) given in
    let types = distinct same_type all in
    let within = length-le_from_distinct_below (map number_of types) bound (numbers_distinct all (listed_shallow (classes_of given) given spelled))
    (each_below bound types (number_below given main spelled)) in
    let long = length-map types number_of in
    omega (arith, within, long)
