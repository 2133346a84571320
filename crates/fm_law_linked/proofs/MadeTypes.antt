-- Types that have a number: the arrays that instructions make, and the element types of arrays that have one where these are arrays again
-- (JVMS 6.5.newarray, 6.5.anewarray, 6.5.multianewarray).
use Rattle.std.proofs.Common.{◌≡◌, refl, sym, ◌∙◌, ap, subst, ℕ, suc, ◌+◌, ◌-◌, ◌<◌, ◌⊎◌, inl, inr, not, Bool, true, false, List, [], ◌∷◌, ◌++◌, length, map, filter, get_or, slice_get, Contains, Option, Some, None, option_and_then, option_map, arith}
use Rattle.std.specs.List.{filter_map, flat_map, range_with_len}
use Rattle.std.proofs.lemmas.Bool.{false≢true}
use Rattle.std.proofs.lemmas.List.Elements.{Contains-append_cases, Contains-append_left, Contains-append_right}
use Rattle.std.proofs.lemmas.Option.{none-some, same_Some}
use Rattle.fm_base.proofs.ContainsFacts.{Contains-cons_cases, Contains-flat_map, Contains-none}
use Rattle.fm_base.specs.declared.ids.TypeId.{TypeId}
use Rattle.fm_base.specs.declared.kinds.Base.{Base}
use Rattle.fm_base.specs.declared.kinds.TypeRef.{TypeRef}
use Rattle.fm_code.proofs.EdgesLemmas.{Contains-filter, Contains-first, Contains-from_filter, Contains-from_map, Contains-later, Contains-map}
use Rattle.fm_code.specs.ConstantPool.{entry_at}
use Rattle.fm_code.specs.declared.class_file.ClassDef.{ClassDef}
use Rattle.fm_code.specs.declared.code_array.Item.{Item}
use Rattle.fm_code.specs.declared.constant_pool.Entry.{Entry}
use Rattle.fm_code.specs.declared.constant_pool.Entry.TheVariants as entry
use Rattle.fm_code.specs.declared.instructions.Insn.TheVariants as insn
use Rattle.fm_code.specs.declared.operations.Elem.{Elem}
use Rattle.fm_flow.proofs.SourcesLemmas.{Contains-from_flat_map}
use Rattle.fm_conn.proofs.ListLemmas.{Contains-range}
use Rattle.fm_frames.proofs.Programs.{string-is, string_number}
use Rattle.fm_frames.specs.ArrayRows.{element_type}
use Rattle.fm_frames.specs.Runs.{arguments_type}
use Rattle.fm_link_records.proofs.UseLaws.{resolved_by}
use Rattle.fm_law_linked.proofs.CodedMethods.{code_there, contains_at, item_there, use_at, uses_of_file}
use Rattle.fm_law_linked.proofs.InterfaceCalls.{type_named}
use Rattle.fm_law_sound.proofs.InsnActs.{array_deep}
use Rattle.fm_law_sound.proofs.MadeObjects.{numbered}
use Rattle.fm_law_sound.specs.Making.{IsNumbered}
use Rattle.fm_law_sound.specs.Resolved.{IsNamed}
use Rattle.fm_types.proofs.LeastJoins.{same_type-eq}
use Rattle.fm_world.proofs.ElementLemmas.{place_of}
use Rattle.fm_world.specs.Chains.{distinct, same_type}
use Rattle.fm_world.specs.Declarations.{declared_from}
use Rattle.fm_world.specs.Descriptors.{class_type, of_class, type_in}
use Rattle.fm_world.specs.Lookups.{resolved_field, resolved_method}
use Rattle.fm_world.specs.Numbers.{argument_array, arrays_in, class_types, made_arrays, text_number, text_units, type_of_class, types_of, used_types}
use Rattle.fm_world.specs.Programs.{classes_of, field_use, method_use, Outline, outline_of, program_of, type_number_at, uses_of, with_number}
use Rattle.fm_world.specs.Uses.{array_of, base_of_elem, class_items, made_array, named_member}
use Rattle.fm_world.specs.declared.declarations.DeclaredClass.{DeclaredClass}
use Rattle.fm_world.specs.declared.uses.Use.{Use}
use Rattle.fm_world.specs.declared.uses.Use.TheVariants as resolved

-- ---- lists

distinct_there : (types : List TypeRef) (t : TypeRef) → Contains types t → Contains (distinct same_type types) t
distinct_there [] t found = absurd (Contains-none t found)
distinct_there (u ∷ types) t found = by_place (distinct_there types t) (Contains-cons_cases u types t found) (same_type u t) refl where
  kept : List TypeRef
  kept = filter (λ y. not (same_type u y)) (distinct same_type types)

  by_place : (Contains types t → Contains (distinct same_type types) t) → (t ≡ u) ⊎ Contains types t → (b : Bool) → same_type u t ≡ b
      → Contains (u ∷ kept) t
  by_place each (inl same) b e = Contains-first u kept t same
  by_place each (inr later) true e = Contains-first u kept t (sym (same_type-eq u t e))
  by_place each (inr later) false e =
      Contains-later u kept t (Contains-filter (λ y. not (same_type u y)) (distinct same_type types) t (each later) (ap not e))

pub from_distinct : (types : List TypeRef) (t : TypeRef) → Contains (distinct same_type types) t → Contains types t
from_distinct [] t found = found
from_distinct (u ∷ types) t found =
    let kept = filter (λ y. not (same_type u y)) (distinct same_type types) in
    by_place (from_distinct types t) (Contains-cons_cases u kept t found) where
      by_place : (Contains (distinct same_type types) t → Contains types t) → (t ≡ u) ⊎ Contains (filter (λ y. not (same_type u y)) (distinct same_type types)) t
          → Contains (u ∷ types) t
      by_place each (inl same) = Contains-first u types t same
      by_place each (inr later) =
          Contains-later u types t (each (Contains-from_filter (λ y. not (same_type u y)) (distinct same_type types) t later).0)

some_there : {X : Type 0} (os : List (Option X)) (x : X) → Contains os (Some x) → Contains (filter_map (λ o. o) os) x
some_there [] x found = absurd (Contains-none (Some x) found)
some_there {X} (None ∷ os) x found = by_place (some_there os x) (Contains-cons_cases None os (Some x) found) where
  by_place : (Contains os (Some x) → Contains (filter_map (λ o. o) os) x) → (Some x ≡ None) ⊎ Contains os (Some x) → Contains (filter_map (λ o. o) os) x
  by_place each (inl same) = absurd (none-some x (sym same))
  by_place each (inr later) = each later
some_there {X} (Some y ∷ os) x found = by_place (some_there os x) (Contains-cons_cases (Some y) os (Some x) found) where
  rest : List X
  rest = filter_map (λ o. o) os

  by_place : (Contains os (Some x) → Contains rest x) → (Some x ≡ Some y) ⊎ Contains os (Some x) → Contains (y ∷ rest) x
  by_place each (inl same) = Contains-first y rest x (same_Some x y same)
  by_place each (inr later) = Contains-later y rest x (each later)

-- ---- the types that are numbered

-- those that uses name and the arrays that are made
abbrev pub Named : List DeclaredClass → List ClassDef → List TypeRef
Named classes given = used_types classes given ++ made_arrays classes given

-- the arrays that the instructions of a file make
abbrev pub made_by : List DeclaredClass → ClassDef → List (Option TypeRef)
made_by classes c = map (λ (item : Item). made_array classes c.pool.entries item.insn) (class_items c)

-- all of them, some more than once
abbrev pub Listed : List DeclaredClass → List ClassDef → List TypeRef
Listed classes given = class_types classes ++ used_types classes given ++ flat_map arrays_in (Named classes given)

listed_numbered : (given : List ClassDef) (main : List ℕ) (t : TypeRef) → Contains (Listed (classes_of given) given) t → IsNumbered (outline_of given main) t
unfolding outline_of types_of
listed_numbered given main t found =
    let types = Listed (classes_of given) given in
    let place = place_of (distinct same_type types) t (distinct_there types t found) in
    numbered (outline_of given main) place.0 t place.1

-- a type with fewer dimensions
abbrev pub with_fewer : TypeRef → ℕ → TypeRef
with_fewer t fewer = record { dims = t.dims - fewer; base = t.base }

fewer_listed : (classes : List DeclaredClass) (given : List ClassDef) (t : TypeRef) (fewer : ℕ) → Contains (Named classes given) t → fewer < t.dims
    → Contains (Listed classes given) (with_fewer t fewer)
fewer_listed classes given t fewer found less =
    Contains-append_right (class_types classes ++ used_types classes given) (flat_map arrays_in (Named classes given)) (with_fewer t fewer)
    (Contains-flat_map arrays_in (Named classes given) t (with_fewer t fewer) found
    (Contains-map (with_fewer t) (range_with_len 0 t.dims) fewer (Contains-range 0 t.dims fewer (omega arith) (omega (arith, less)))))

array_listed : (classes : List DeclaredClass) (given : List ClassDef) (t : TypeRef) → Contains (Named classes given) t → 0 < t.dims
    → Contains (Listed classes given) t
array_listed classes given t found some =
    let same : t.dims - 0 ≡ t.dims = omega arith in
    subst (λ n. Contains (Listed classes given) (record { dims = n; base = t.base })) same (fewer_listed classes given t 0 found some)

-- ---- element types

one_fewer : (P : TypeRef → Type 0) (u t : TypeRef) (fewer : ℕ) → with_fewer u fewer ≡ t → P (with_fewer u (suc fewer)) → P (element_type t)
one_fewer P u t fewer same holds =
    let next : u.dims - suc fewer ≡ u.dims - fewer - 1 = omega arith in
    subst P (ap element_type same) (subst (λ n. P (record { dims = n; base = u.base })) next holds)

element_listed : (classes : List DeclaredClass) (given : List ClassDef) (t : TypeRef) → Contains (Listed classes given) t → 1 < t.dims
    → Contains (Listed classes given) (element_type t)
element_listed classes given t found many =
    by_part (Contains-append_cases (class_types classes ++ used) arrays t found) where
      used : List TypeRef
      used = used_types classes given

      arrays : List TypeRef
      arrays = flat_map arrays_in (Named classes given)

      of_used : Contains used t → Contains (Listed classes given) (element_type t)
      of_used there = fewer_listed classes given t 1 (Contains-append_left used (made_arrays classes given) t there) many

      of_class : (k : ℕ) → type_of_class k ≡ t → Contains (Listed classes given) (element_type t)
      of_class k same = let none : 0 ≡ t.dims = ap (λ (u : TypeRef). u.dims) same in absurd (omega (arith, none, many))

      of_array : (u : TypeRef) (fewer : ℕ) → Contains (Named classes given) u → with_fewer u fewer ≡ t → Contains (Listed classes given) (element_type t)
      of_array u fewer there same =
          let dims : u.dims - fewer ≡ t.dims = ap (λ (v : TypeRef). v.dims) same in
          one_fewer (Contains (Listed classes given)) u t fewer same (fewer_listed classes given u (suc fewer) there (omega (arith, dims, many)))

      by_first : Contains (class_types classes) t ⊎ Contains used t → Contains (Listed classes given) (element_type t)
      by_first (inl class) = let was = Contains-from_map type_of_class (range_with_len 0 (length classes)) t class in of_class was.0 was.2
      by_first (inr there) = of_used there

      by_part : Contains (class_types classes ++ used) t ⊎ Contains arrays t → Contains (Listed classes given) (element_type t)
      by_part (inl first) = by_first (Contains-append_cases (class_types classes) used t first)
      by_part (inr array) =
          let from = Contains-from_flat_map arrays_in (Named classes given) t array in
          let was = Contains-from_map (with_fewer from.0) (range_with_len 0 from.0.dims) t from.2 in
          of_array from.0 was.0 from.1 was.2

-- the element type of a numbered array is numbered, where it is an array again
pub elements_numbered : (given : List ClassDef) (main : List ℕ) (n : ℕ) (t : TypeRef) → slice_get (outline_of given main).types n ≡ Some t → 1 < t.dims
    → IsNumbered (outline_of given main) (element_type t)
unfolding outline_of types_of
elements_numbered given main n t at many =
    let types = Listed (classes_of given) given in
    listed_numbered given main (element_type t)
    (element_listed (classes_of given) given t (from_distinct types t (contains_at (distinct same_type types) n t at)) many)

-- ---- the array of main's arguments

pub arguments_numbered : (given : List ClassDef) (main : List ℕ) → IsNumbered (outline_of given main) (arguments_type (outline_of given main))
unfolding outline_of classes_of
arguments_numbered given main =
    let classes = classes_of given in
    let array : TypeRef = record { dims = 1; base = of_class 1 } in
    let made : argument_array classes ≡ Some array =
    ap (option_and_then (λ class. array_of (type_of_class class))) (string_number (declared_from 0 given)) in
    let type : arguments_type (outline_of given main) ≡ array =
    ap (λ (t : TypeRef). record { dims = 1; base = t.base }) (string-is (outline_of given main) (declared_from 0 given) refl) in
    subst (IsNumbered (outline_of given main)) (sym type)
    (listed_numbered given main array
    (array_listed classes given array
    (Contains-append_right (used_types classes given) (made_arrays classes given) array
    (some_there (argument_array classes ∷ flat_map (made_by classes) given) array
    (Contains-first (argument_array classes) (flat_map (made_by classes) given) (Some array) (sym made))))
    (omega arith)))

-- ---- the arrays that instructions make

-- what an instruction of a file makes
made_numbered : (given : List ClassDef) (main : List ℕ) (place : ℕ) (c : ClassDef) (item : Item) (array : TypeRef)
    → slice_get given place ≡ Some c
    → Contains (class_items c) item
    → made_array (classes_of given) c.pool.entries item.insn ≡ Some array
    → 0 < array.dims
    → IsNumbered (outline_of given main) array
made_numbered given main place c item array at among made some =
    listed_numbered given main array (array_listed classes given array (Contains-append_right (used_types classes given) (made_arrays classes given) array there) some) where
      classes : List DeclaredClass
      classes = classes_of given

      all : List (Option TypeRef)
      all = flat_map (made_by classes) given

      inside : Contains all (Some array)
      inside =
          Contains-flat_map (made_by classes) given c (Some array) (contains_at given place c at)
          (subst (Contains (made_by classes c)) made (Contains-map (λ (i : Item). made_array classes c.pool.entries i.insn) (class_items c) item among))

      there : Contains (made_arrays classes given) array
      there = some_there (argument_array classes ∷ all) array (Contains-later (argument_array classes) all (Some array) inside)

-- an array of numbers
pub numbers_made : (given : List ClassDef) (main : List ℕ) (method : ℕ) (e : Elem) (u : Use) → IsNamed (program_of given main) method (insn.NewArray e) u
    → (b : Base) → base_of_elem e ≡ Some b
    → IsNumbered (outline_of given main) (record { dims = 1; base = b })
unfolding program_of
numbers_made given main method e u x b base_is =
    let there = code_there given method x.code x.code_is in
    let found = item_there there.file there.member x.code x.item (insn.NewArray e) there.among there.code_is x.insn_is in
    made_numbered given main there.place there.file found.item (record { dims = 1; base = b }) there.file_is found.among
    (ap (made_array (classes_of given) there.file.pool.entries) found.insn_is ∙ ap (option_map (λ (one : Base). record { dims = 1; base = one })) base_is)
    (omega arith)

-- ---- an array of references

abbrev type_in_use : Use → ℕ
type_in_use (resolved.OfType t) = t.0
type_in_use u = 0

abbrev names_type : Use → Bool
names_type (resolved.OfType t) = true
names_type u = false

no_type_used : {A : Type 0} (t : TypeId) (u : Use) → names_type u ≡ false → u ≡ resolved.OfType t → A
no_type_used t u none is = absurd (false≢true (sym none ∙ ap names_type is))

no_text : (text : Option ℕ) → names_type (with_number resolved.OfText text) ≡ false
no_text None = refl
no_text (Some n) = refl

no_field : (type field : Option ℕ) → names_type (with_number (λ n. with_number (field_use n) field) type) ≡ false
no_field None field = refl
no_field (Some n) None = refl
no_field (Some n) (Some f) = refl

no_method : (type method : Option ℕ) → names_type (with_number (λ n. with_number (method_use n) method) type) ≡ false
no_method None method = refl
no_method (Some n) None = refl
no_method (Some n) (Some m) = refl

some_type : (type : Option ℕ) (t : TypeId) → with_number (λ n. resolved.OfType (record { 0 = n })) type ≡ resolved.OfType t → type ≡ Some t.0
some_type None t is = no_type_used t resolved.Unused refl is
some_type (Some n) t is = ap Some (ap type_in_use is)

type_by : (o : Outline) (entries : List Entry) (index : ℕ) (t : TypeId) (e : Entry) → resolved_by o entries index e ≡ resolved.OfType t
    → type_number_at o entries index ≡ Some t.0
type_by o entries index t (entry.Integer value) is = no_type_used t (resolved.OfInt value) refl is
type_by o entries index t (entry.Long value) is = no_type_used t (resolved.OfLong value) refl is
type_by o entries index t (entry.Text text) is =
    let number = option_and_then (text_number o.texts) (text_units entries index) in
    no_type_used t (with_number resolved.OfText number) (no_text number) is
type_by o entries index t (entry.Class name) is = some_type (type_number_at o entries index) t is
type_by o entries index t (entry.Field class member) is =
    let type = type_number_at o entries index in
    let field = option_and_then (resolved_field o.classes) (named_member entries index) in
    no_type_used t (with_number (λ n. with_number (field_use n) field) type) (no_field type field) is
type_by o entries index t (entry.Method class member) is =
    let type = type_number_at o entries index in
    let method = option_and_then (resolved_method o.classes) (named_member entries index) in
    no_type_used t (with_number (λ n. with_number (method_use n) method) type) (no_method type method) is
type_by o entries index t (entry.InterfaceMethod class member) is =
    let type = type_number_at o entries index in
    let method = option_and_then (resolved_method o.classes) (named_member entries index) in
    no_type_used t (with_number (λ n. with_number (method_use n) method) type) (no_method type method) is
type_by o entries index t e is = no_type_used t resolved.Unused refl is

-- an array of references
pub references_made : (given : List ClassDef) (main : List ℕ) (method index : ℕ) (t : TypeId)
    → IsNamed (program_of given main) method (insn.NewRefs index) (resolved.OfType t)
    → (named array : TypeRef) → slice_get (outline_of given main).types t.0 ≡ Some named → array_of named ≡ Some array
    → IsNumbered (outline_of given main) array
unfolding program_of outline_of
references_made given main method index t x named array at array_is =
    let o = outline_of given main in
    let there = code_there given method x.code x.code_is in
    let c = there.file in
    let uses = ap (λ k. get_or (uses_of o given) k []) there.class_is ∙ uses_of_file o given there.place c there.file_is in
    let used = use_at o c index (resolved.OfType t) (no_type_used t resolved.Unused refl)
    (sym (ap (λ us. get_or us index resolved.Unused) uses) ∙ x.use_is) in
    let of_type = type_named o c.pool.entries index t.0 named (type_by o c.pool.entries index t (entry_at c.pool.entries index) used.resolved_is) at in
    let found = item_there c there.member x.code x.item (insn.NewRefs index) there.among there.code_is x.insn_is in
    made_numbered given main there.place c found.item array there.file_is found.among
    (ap (made_array (classes_of given) c.pool.entries) found.insn_is
    ∙ ap (λ name. option_and_then array_of (option_and_then (λ n. type_in (classes_of given) (class_type n)) name)) of_type.named
    ∙ ap (option_and_then array_of) of_type.type_is ∙ array_is)
    (array_deep named array array_is)
