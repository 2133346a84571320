-- What has no F and no D names neither floats nor doubles.
use Rattle.std.proofs.Common.{◌≡◌, ℕ, inl, inr, Bool, true, List, [], ◌∷◌, ◌++◌, replicate, Option, Some, None, refl, sym, ap, ◌∙◌}
use Rattle.std.specs.Prelude.{◌==◌, ◌||◌, not}
use Rattle.std.specs.List.{flat_map, list_all, list_any}
use Rattle.std.proofs.lemmas.Bool.{and_parts, or_cases, false≢true}
use Rattle.fm_base.specs.declared.characters.TheConstants.{FLOAT_LETTER, DOUBLE_LETTER}
use Rattle.fm_code.specs.Names.{BaseType, primitive, object, FieldType, base_descriptor, field_descriptor, result_descriptor, method_descriptor}
use Rattle.fm_code.specs.Profile.{is_floating, is_floating_result, IsFloatingField, IsFloatingMethod, IsFloatingArray}

abbrev pub is_plain : ℕ → Bool
is_plain c = not ((c == FLOAT_LETTER) || (c == DOUBLE_LETTER))

-- all of a list, and all of what is behind a part of it
behind : (xs ys : List ℕ) → list_all is_plain (xs ++ ys) ≡ true → list_all is_plain ys ≡ true
behind [] ys e = e
behind (x ∷ xs) ys e = behind xs ys (and_parts (is_plain x) (list_all is_plain (xs ++ ys)) e).1

in_front : (xs ys : List ℕ) → list_all is_plain (xs ++ ys) ≡ true → list_all is_plain xs ≡ true
in_front [] ys e = refl
in_front (x ∷ xs) ys e =
    let parts = and_parts (is_plain x) (list_all is_plain (xs ++ ys)) e in
    let rest = in_front xs ys parts.1 in
    rw (parts.0, rest) refl

plain_base : (dimensions : ℕ) (base : BaseType) → list_all is_plain (base_descriptor base) ≡ true → is_floating (record { dimensions = dimensions; base = base }) ≡ true → ⊥
plain_base dimensions (primitive letter) e floats =
    let plain = (and_parts (is_plain letter) true e).0 in
    false≢true (sym (ap not floats) ∙ plain)
plain_base dimensions (object name) e floats = false≢true floats

plain_field : (t : FieldType) → list_all is_plain (field_descriptor t) ≡ true → is_floating t ≡ true → ⊥
plain_field t e floats = plain_base t.dimensions t.base (behind (replicate t.dimensions 91) (base_descriptor t.base) e) floats

plain_parameters : (ts : List FieldType) → list_all is_plain (flat_map field_descriptor ts) ≡ true → list_any is_floating ts ≡ true → ⊥
plain_parameters [] e floats = false≢true floats
plain_parameters (t ∷ ts) e floats =
    elim (or_cases (is_floating t) (list_any is_floating ts) floats) [
      | inl here ↦ plain_field t (in_front (field_descriptor t) (flat_map field_descriptor ts) e) here
      | inr there ↦ plain_parameters ts (behind (field_descriptor t) (flat_map field_descriptor ts) e) there
    ]

plain_result : (result : Option FieldType) → list_all is_plain (result_descriptor result) ≡ true → is_floating_result result ≡ true → ⊥
plain_result None e floats = false≢true floats
plain_result (Some t) e floats = plain_field t e floats

pub no_floating_field : (descriptor : List ℕ) → list_all is_plain descriptor ≡ true → ¬ IsFloatingField descriptor
no_floating_field descriptor e (t, (is, (same, floats))) = plain_field t (ap (list_all is_plain) (sym same) ∙ e) floats

pub no_floating_method : (descriptor : List ℕ) → list_all is_plain descriptor ≡ true → ¬ IsFloatingMethod descriptor
no_floating_method descriptor e (m, (is, (same, floats))) =
    let whole : list_all is_plain (method_descriptor m) ≡ true = ap (list_all is_plain) (sym same) ∙ e in
    let inside = (and_parts (is_plain 40) (list_all is_plain (flat_map field_descriptor m.parameters ++ 41 ∷ result_descriptor m.result)) whole).1 in
    let result = (and_parts (is_plain 41) (list_all is_plain (result_descriptor m.result)) (behind (flat_map field_descriptor m.parameters) (41 ∷ result_descriptor m.result) inside)).1 in
    elim (or_cases (list_any is_floating m.parameters) (is_floating_result m.result) floats) [
      | inl parameters ↦ plain_parameters m.parameters (in_front (flat_map field_descriptor m.parameters) (41 ∷ result_descriptor m.result) inside) parameters
      | inr returned ↦ plain_result m.result result returned
    ]

pub no_floating_array : (name : List ℕ) → list_all is_plain name ≡ true → ¬ IsFloatingArray name
no_floating_array name e (array, floats) = no_floating_field name e floats
