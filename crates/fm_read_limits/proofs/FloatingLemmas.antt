-- Where descriptors have floats and doubles: by their last character, and by the letters outside of names.
use Rattle.std.proofs.Common.{◌≡◌, ◌↔◌, ℕ, zero, suc, ◌-◌, ◌<◌, Bool, true, false, ◌||◌, eqb, IsTrue, replicate, List, [], ◌∷◌, ◌++◌, length, length-append, get_or, append_assoc, inl, inr, Option, Some, None, IfSome, refl, sym, ap, ◌∙◌, arith}
use Rattle.std.proofs.Math.Bool.{or-false}
use Rattle.std.specs.List.{flat_map, list_any, AllByRecursion}
use Rattle.std.proofs.Math.Seq.{get_or-append_seam}
use Rattle.std.proofs.lemmas.Bool.{and_parts, cases_Bool, both_ways, eqb-true, false≢true}
use Rattle.std.proofs.lemmas.List.{append-nil}
use Rattle.fm_code.specs.Names.{is_binary_name, are_parts, is_primitive_letter, BaseType, primitive, object, IsBaseType, base_descriptor, FieldType, IsFieldType, field_descriptor, MethodType, IsMethodType, result_descriptor, method_descriptor, IsFieldDescriptor, IsArrayName, IsClassName}
use Rattle.fm_code.specs.Profile.{is_floating, is_floating_result, IsFloatingField, IsFloatingMethod, IsFloatingArray}
use Rattle.fm_read_limits.specs.inner.Declared.{IsMethodText}
use Rattle.fm_read_limits.specs.inner.FloatingTypes.{is_floating_letter, last_character, has_floating}

-- ---- the last character

last_of : (xs : List ℕ) (y : ℕ) → last_character (xs ++ y ∷ []) ≡ y
last_of xs y =
    let place : length (xs ++ y ∷ []) - 1 ≡ length xs = omega (arith, length-append xs (y ∷ [])) in
    ap (λ (k : ℕ). get_or (xs ++ y ∷ []) k 0) place ∙ get_or-append_seam xs y [] 0

-- a type by its parts
abbrev made : ℕ → BaseType → FieldType
made n base = record { dimensions = n; base = base }

last_tells : (n : ℕ) (base : BaseType) → is_floating_letter (last_character (field_descriptor (made n base))) ≡ is_floating (made n base)
last_tells n (primitive letter) = ap is_floating_letter (last_of (replicate n 91) letter)
last_tells n (object name) =
    let apart : replicate n 91 ++ (76 ∷ (name ++ 59 ∷ [])) ≡ (replicate n 91 ++ (76 ∷ name)) ++ 59 ∷ [] = sym (append_assoc (replicate n 91) (76 ∷ name) (59 ∷ [])) in
    ap (λ (bytes : List ℕ). is_floating_letter (last_character bytes)) apart ∙ ap is_floating_letter (last_of (replicate n 91 ++ (76 ∷ name)) 59)

last_of_field : (d : List ℕ) (t : FieldType) → d ≡ field_descriptor t → is_floating_letter (last_character d) ≡ is_floating t
last_of_field d t e = ap (λ (bytes : List ℕ). is_floating_letter (last_character bytes)) e ∙ last_tells t.dimensions t.base

pub floating_field : (d : List ℕ) → IsFieldDescriptor d → IsTrue (is_floating_letter (last_character d)) ↔ IsFloatingField d
floating_field d (t, (is, e)) = (
  λ last. (t, (is, (e, sym (last_of_field d t e) ∙ last))),
  λ floats. last_of_field d floats.0 floats.1.1.0 ∙ floats.1.1.1,
)

-- the name of an array begins with [, and that of a class doesn't
begins : (n : ℕ) (rest : List ℕ) → 0 < n → eqb (get_or (replicate n 91 ++ rest) 0 0) 91 ≡ true
begins (suc n) rest some = refl
begins zero rest some = absurd (omega arith)

pub array_begins : (name : List ℕ) → IsFloatingArray name → eqb (get_or name 0 0) 91 ≡ true
array_begins name ((t, (is, (some, e))), floats) = ap (λ (bytes : List ℕ). eqb (get_or bytes 0 0) 91) e ∙ begins t.dimensions (base_descriptor t.base) some

no_binary_name : (name : List ℕ) → eqb (get_or name 0 0) 91 ≡ true → is_binary_name name ≡ true → ⊥
no_binary_name [] begun ok = false≢true begun
no_binary_name (c ∷ rest) begun ok = false≢true (ap (λ (b : ℕ). are_parts false (b ∷ rest)) (sym (eqb-true c 91 begun)) ∙ ok)

array_of : (name : List ℕ) → eqb (get_or name 0 0) 91 ≡ true → IsClassName name → IsArrayName name
array_of name begun (inl binary) = absurd (no_binary_name name begun binary)
array_of name begun (inr array) = array

pub floating_array : (name : List ℕ) → IsClassName name → eqb (get_or name 0 0) 91 ≡ true → IsTrue (is_floating_letter (last_character name)) ↔ IsFloatingArray name
floating_array name is begun =
    let array = array_of name begun is in
    let field = floating_field name (array.0, (array.1.0, array.1.1.1)) in
    (λ last. (array, field.0 last), λ floats. field.1 floats.1)

-- ---- the letters outside of the names of classes

-- no ; is in a class's name
skip_name : (begun : Bool) (name rest : List ℕ) → are_parts begun name ≡ true → has_floating true (name ++ 59 ∷ rest) ≡ has_floating false rest
skip_name begun [] rest ok = refl
skip_name begun (c ∷ cs) rest ok =
    elim (cases_Bool (eqb c 59)) [
      | inl semicolon ↦ absurd (both_ways (are_parts begun (c ∷ cs)) (ap (λ (b : ℕ). are_parts begun (b ∷ cs)) (eqb-true c 59 semicolon)) ok)
      | inr other ↦ rw other (elim (cases_Bool (eqb c 47)) [
        | inl slash ↦ skip_name false cs rest (and_parts begun (are_parts false cs) (rw slash at ok)).1
        | inr character ↦ skip_name true cs rest (and_parts _ (are_parts true cs) (rw character at ok)).1
      ])
    ]

letter_counts : (c : ℕ) (rest : List ℕ) → is_primitive_letter c ≡ true → has_floating false (c ∷ rest) ≡ (is_floating_letter c || has_floating false rest)
letter_counts c rest ok =
    elim (cases_Bool (eqb c 76)) [
      | inl class ↦ absurd (both_ways (is_primitive_letter c) (ap is_primitive_letter (eqb-true c 76 class)) ok)
      | inr other ↦ rw other refl
    ]

skip_brackets : (n : ℕ) (rest : List ℕ) → has_floating false (replicate n 91 ++ rest) ≡ has_floating false rest
skip_brackets zero rest = refl
skip_brackets (suc n) rest = skip_brackets n rest

base_counts : (n : ℕ) (base : BaseType) (rest : List ℕ) → IsBaseType base → has_floating false (base_descriptor base ++ rest) ≡ (is_floating (made n base) || has_floating false rest)
base_counts n (primitive letter) rest ok = letter_counts letter rest ok
base_counts n (object name) rest ok = ap (has_floating true) (append_assoc name (59 ∷ []) rest) ∙ skip_name false name rest ok

field_counts : (t : FieldType) (rest : List ℕ) → IsBaseType t.base → has_floating false (field_descriptor t ++ rest) ≡ (is_floating t || has_floating false rest)
field_counts t rest ok =
    ap (has_floating false) (append_assoc (replicate t.dimensions 91) (base_descriptor t.base) rest)
    ∙ (skip_brackets t.dimensions (base_descriptor t.base ++ rest) ∙ base_counts t.dimensions t.base rest ok)

or_apart : (a b c : Bool) → (a || (b || c)) ≡ ((a || b) || c)
or_apart true b c = refl
or_apart false b c = refl

parameters_count : (ts : List FieldType) (rest : List ℕ) → AllByRecursion IsFieldType ts → has_floating false (flat_map field_descriptor ts ++ rest) ≡ (list_any is_floating ts || has_floating false rest)
parameters_count [] rest ok = refl
parameters_count (t ∷ ts) rest ok =
    ap (has_floating false) (append_assoc (field_descriptor t) (flat_map field_descriptor ts) rest)
    ∙ (field_counts t (flat_map field_descriptor ts ++ rest) ok.0.base
    ∙ (ap (λ (b : Bool). is_floating t || b) (parameters_count ts rest ok.1)
    ∙ or_apart (is_floating t) (list_any is_floating ts) (has_floating false rest)))

result_counts : (result : Option FieldType) → IfSome result IsFieldType → has_floating false (result_descriptor result) ≡ is_floating_result result
result_counts None ok = refl
result_counts (Some t) ok = ap (has_floating false) (sym (append-nil (field_descriptor t))) ∙ (field_counts t [] ok.base ∙ or-false (is_floating t))

method_counts : (m : MethodType) → IsMethodType m → has_floating false (method_descriptor m) ≡ (list_any is_floating m.parameters || is_floating_result m.result)
method_counts m ok =
    parameters_count m.parameters (41 ∷ result_descriptor m.result) ok.parameters ∙ ap (λ (b : Bool). list_any is_floating m.parameters || b) (result_counts m.result ok.result)

pub floating_method : (d : List ℕ) → IsMethodText d → IsTrue (has_floating false d) ↔ IsFloatingMethod d
floating_method d (m, (ok, e)) = (
  λ has. (m, (ok, (e, sym (ap (has_floating false) e ∙ method_counts m ok) ∙ has))),
  λ floats. ap (has_floating false) floats.1.1.0 ∙ (method_counts floats.0 floats.1.0 ∙ floats.1.1.1),
)
