-- The types that descriptors name which are spelled: as many dimensions as an array may have (JVMS 4.3).
use Rattle.std.proofs.Common.{◌≡◌, refl, sym, ◌∙◌, ap, subst, ℕ, zero, suc, ◌+◌, Bool, true, false, cond, eqb, replicate, List, [], ◌∷◌, ◌++◌, append_assoc, Option, Some, None, IfSome, arith, inl, inr}
use Rattle.std.specs.List.{flat_map, AllByRecursion}
use Rattle.std.proofs.lemmas.Bool.{and_parts, both_ways, cases_Bool, eqb-true, lt-ltb}
use Rattle.std.proofs.lemmas.List.{append-nil}
use Rattle.fm_base.proofs.ListFacts.{AllByRecursion-append, AllByRecursion-weaker}
use Rattle.fm_code.specs.Names.{are_parts, is_binary_name, is_primitive_letter, BaseType, primitive, object, IsBaseType, base_descriptor, FieldType, IsFieldType, field_descriptor, IsFieldDescriptor, IsClassName, result_descriptor, IsMethodDescriptor}
use Rattle.fm_link_names.specs.inner.DescriptorTypes.{type_of_name, HasFewDimensions, HaveFewDimensions}
use Rattle.fm_world.specs.Descriptors.{class_type, first_type, type_in, typed, types_from, types_in}
use Rattle.fm_world.specs.declared.declarations.DeclaredClass.{DeclaredClass}

-- ---- types

brackets : (n dimensions : ℕ) (rest : List ℕ) → types_from dimensions None (replicate n 91 ++ rest) ≡ types_from (dimensions + n) None rest
brackets zero dimensions rest = let same : dimensions ≡ dimensions + 0 = omega arith in ap (λ k. types_from k None rest) same
brackets (suc n) dimensions rest =
    let same : dimensions + 1 + n ≡ dimensions + suc n = omega arith in
    brackets n (dimensions + 1) rest ∙ ap (λ k. types_from k None rest) same

-- no ; is in a class's name
class_name : (begun : Bool) (name rest front : List ℕ) (dimensions : ℕ) → are_parts begun name ≡ true
    → types_from dimensions (Some front) (name ++ 59 ∷ rest) ≡ typed dimensions (object (front ++ name)) ∷ types_in rest
class_name begun [] rest front dimensions ok = ap (λ n. typed dimensions (object n) ∷ types_in rest) (sym (append-nil front))
class_name begun (c ∷ cs) rest front dimensions ok =
    let whole = ap (λ n. typed dimensions (object n) ∷ types_in rest) (append_assoc front (c ∷ []) cs) in
    elim (cases_Bool (eqb c 59)) [
      | inl semicolon ↦ absurd (both_ways (are_parts begun (c ∷ cs)) (ap (λ (b : ℕ). are_parts begun (b ∷ cs)) (eqb-true c 59 semicolon)) ok)
      | inr other ↦ rw other (elim (cases_Bool (eqb c 47)) [
        | inl slash ↦ class_name false cs rest (front ++ c ∷ []) dimensions (and_parts begun (are_parts false cs) (rw slash at ok)).1 ∙ whole
        | inr character ↦ class_name true cs rest (front ++ c ∷ []) dimensions (and_parts _ (are_parts true cs) (rw character at ok)).1 ∙ whole
      ])
    ]

other_letter : (c x : ℕ) → is_primitive_letter x ≡ false → is_primitive_letter c ≡ true → eqb c x ≡ false
other_letter c x none letter = elim (cases_Bool (eqb c x)) [
  | inl same ↦ absurd (both_ways (is_primitive_letter c) (ap is_primitive_letter (eqb-true c x same) ∙ none) letter)
  | inr other ↦ other
]

base_type : (b : BaseType) → IsBaseType b → (dimensions : ℕ) (rest : List ℕ)
    → types_from dimensions None (base_descriptor b ++ rest) ≡ typed dimensions b ∷ types_in rest
base_type (primitive letter) ok dimensions rest =
    rw (other_letter letter 91 refl ok, other_letter letter 76 refl ok, other_letter letter 40 refl ok, other_letter letter 41 refl ok)
base_type (object name) ok dimensions rest =
    ap (types_from dimensions (Some [])) (append_assoc name (59 ∷ []) rest) ∙ class_name false name rest [] dimensions ok

-- a type that is spelled is the first one
pub types_in-field : (t : FieldType) (rest : List ℕ) → IsFieldType t → types_in (field_descriptor t ++ rest) ≡ t ∷ types_in rest
types_in-field t rest is =
    let same : 0 + t.dimensions ≡ t.dimensions = omega arith in
    ap types_in (append_assoc (replicate t.dimensions 91) (base_descriptor t.base) rest)
    ∙ brackets t.dimensions 0 (base_descriptor t.base ++ rest)
    ∙ ap (λ k. types_from k None (base_descriptor t.base ++ rest)) same
    ∙ base_type t.base is.base t.dimensions rest

types_in-alone : (t : FieldType) → IsFieldType t → types_in (field_descriptor t) ≡ t ∷ []
types_in-alone t is = ap types_in (sym (append-nil (field_descriptor t))) ∙ types_in-field t [] is

pub types_in-fields : (types : List FieldType) (rest : List ℕ) → AllByRecursion IsFieldType types
    → types_in (flat_map field_descriptor types ++ rest) ≡ types ++ types_in rest
types_in-fields [] rest are = refl
types_in-fields (t ∷ types) rest are =
    ap types_in (append_assoc (field_descriptor t) (flat_map field_descriptor types) rest)
    ∙ types_in-field t (flat_map field_descriptor types ++ rest) are.0
    ∙ ap (λ ts. t ∷ ts) (types_in-fields types rest are.1)

-- ---- dimensions

few_types : (types : List FieldType) → AllByRecursion IsFieldType types → HaveFewDimensions types
few_types types are = AllByRecursion-weaker IsFieldType HasFewDimensions (λ t is. is.dimensions) types are

pub few_field : (descriptor : List ℕ) → IsFieldDescriptor descriptor → HaveFewDimensions (types_in descriptor)
few_field descriptor (t, (is, spelled)) =
    subst HaveFewDimensions (sym (ap types_in spelled ∙ types_in-alone t is)) (is.dimensions, tt)

few_result : (o : Option FieldType) → IfSome o IsFieldType → HaveFewDimensions (types_in (result_descriptor o))
few_result None is = (omega arith, tt)
few_result (Some t) is = subst HaveFewDimensions (sym (types_in-alone t is)) (is.dimensions, tt)

pub few_method : (receiver : ℕ) (descriptor : List ℕ) → IsMethodDescriptor receiver descriptor → HaveFewDimensions (types_in descriptor)
few_method receiver descriptor (m, (is, (spelled, words))) =
    subst HaveFewDimensions (sym (ap types_in spelled ∙ types_in-fields m.parameters (41 ∷ result_descriptor m.result) is.parameters))
    (AllByRecursion-append HasFewDimensions m.parameters (types_in (result_descriptor m.result)) (few_types m.parameters is.parameters)
    (few_result m.result is.result))

few_binary : (name : List ℕ) → is_binary_name name ≡ true → HasFewDimensions (class_type name)
few_binary [] ok = omega arith
few_binary (c ∷ cs) ok = elim (cases_Bool (eqb c 91)) [
  | inl bracket ↦ absurd (both_ways (is_binary_name (c ∷ cs)) (ap (λ (b : ℕ). is_binary_name (b ∷ cs)) (eqb-true c 91 bracket)) ok)
  | inr other ↦ rw other (omega arith)
]

first_of : (types : List FieldType) → HaveFewDimensions types → HasFewDimensions (first_type types)
first_of [] few = omega arith
first_of (t ∷ types) few = few.0

few_either : (b : Bool) (t u : FieldType) → HasFewDimensions t → HasFewDimensions u → HasFewDimensions (cond b t u)
few_either true t u t_few u_few = t_few
few_either false t u t_few u_few = u_few

few_array : (name : List ℕ) → HaveFewDimensions (types_in name) → HasFewDimensions (class_type name)
few_array [] few = omega arith
few_array (c ∷ cs) few =
    few_either (eqb c 91) (first_type (types_in (c ∷ cs))) (typed 0 (object (c ∷ cs))) (first_of (types_in (c ∷ cs)) few) (omega arith)

pub few_class : (name : List ℕ) → IsClassName name → HasFewDimensions (class_type name)
few_class name (inl binary) = few_binary name binary
few_class name (inr (t, (is, (some, spelled)))) = few_array name (few_field name (t, (is, spelled)))

pub type_of_name-is : (classes : List DeclaredClass) (name : List ℕ) → IsClassName name
    → type_of_name classes name ≡ type_in classes (class_type name)
type_of_name-is classes name is =
    ap (λ b. cond b (type_in classes (class_type name)) None) (lt-ltb (class_type name).dimensions 256 (omega (arith, few_class name is)))
