-- What a descriptor declares, from the kinds of its types.
use Rattle.std.proofs.Common.{◌≡◌, refl, sym, ◌∙◌, ap, ℕ, zero, suc, ◌-◌, List, [], ◌∷◌, length, map, take, drop, cond, None, arith, subst}
use Rattle.std.specs.Prelude.{option_and_then, slice_get, unwrap_or}
use Rattle.std.specs.List.{take-map}
use Rattle.std.proofs.lemmas.Bool.{lt-ltb}
use Rattle.std.proofs.lemmas.List.{length-map}
use Rattle.fm_base.specs.declared.kinds.Kind.{Kind}
use Rattle.fm_base.specs.declared.kinds.Kind.TheVariants as kind
use Rattle.fm_code.specs.Names.{FieldType}
use Rattle.fm_link_names.specs.declared.descriptors.Kinds.{Kinds}
use Rattle.fm_link_names.specs.declared.first_types.NamedType.{NamedType}
use Rattle.fm_link_names.specs.inner.DescriptorTypes.{DeclaresKinds, few_kind, few_kind_in, HasFewDimensions, HaveFewDimensions, last_of}
use Rattle.fm_link_names.specs.inner.NamedTypes.{type_named}
use Rattle.fm_world.specs.Descriptors.{declared_kind, first_type, kind_in, types_in}
use Rattle.fm_world.specs.declared.declarations.DeclaredClass.{DeclaredClass}

few_is : (classes : List DeclaredClass) (t : FieldType) → HasFewDimensions t → few_kind_in classes t ≡ kind_in classes t
few_is classes t few = ap (λ b. cond b (kind_in classes t) None) (lt-ltb t.dimensions 256 (omega (arith, few)))

-- of types with few dimensions the kinds are the declared ones
kinds_are : (classes : List DeclaredClass) (types : List NamedType) → HaveFewDimensions (map type_named types)
    → map (λ t. few_kind classes (type_named t)) types ≡ map (declared_kind classes) (map type_named types)
kinds_are classes [] few = refl
kinds_are classes (t ∷ types) few =
    ap (λ o. unwrap_or o kind.Int ∷ map (λ (n : NamedType). few_kind classes (type_named n)) types) (few_is classes (type_named t) few.0)
    ∙ ap (λ kinds. declared_kind classes (type_named t) ∷ kinds) (kinds_are classes types few.1)

first_is : (classes : List DeclaredClass) (types : List FieldType)
    → unwrap_or (slice_get (map (declared_kind classes) types) 0) kind.Int ≡ declared_kind classes (first_type types)
first_is classes [] = refl
first_is classes (t ∷ types) = refl

at_is : (classes : List DeclaredClass) (types : List NamedType) (k : ℕ) → HaveFewDimensions (map type_named types)
    → option_and_then (λ t. few_kind_in classes (type_named t)) (slice_get types k) ≡ kind_in classes (first_type (drop k (map type_named types)))
at_is classes [] zero few = refl
at_is classes [] (suc k) few = refl
at_is classes (t ∷ types) zero few = few_is classes (type_named t) few.0
at_is classes (t ∷ types) (suc k) few = at_is classes types k few.1

-- what is made of the types of a descriptor and of their kinds
pub record MadeKinds (classes : List DeclaredClass) (descriptor : List ℕ) (types : List NamedType) (kinds : List Kind) (made : Kinds) : Type 0 where
  pub types_are : map type_named types ≡ types_in descriptor
  pub few : HaveFewDimensions (types_in descriptor)
  pub kinds_are : kinds ≡ map (λ t. few_kind classes (type_named t)) types
  pub count : ℕ
  pub count_is : count ≡ length kinds
  pub params_are : made.params ≡ take (count - 1) kinds
  pub result_is : made.result ≡ option_and_then (λ t. few_kind_in classes (type_named t)) (last_of types)
  pub field_is : made.field ≡ unwrap_or (slice_get kinds 0) kind.Int

pub declares : (classes : List DeclaredClass) (descriptor : List ℕ) (types : List NamedType) (kinds : List Kind) (made : Kinds)
    → MadeKinds classes descriptor types kinds made → DeclaresKinds classes descriptor made
declares classes descriptor types kinds made is =
    let few = subst HaveFewDimensions (sym is.types_are) is.few in
    let all : kinds ≡ map (declared_kind classes) (types_in descriptor) =
    is.kinds_are ∙ kinds_are classes types few ∙ ap (map (declared_kind classes)) is.types_are in
    let count : length kinds ≡ length (types_in descriptor) = ap length all ∙ length-map (types_in descriptor) (declared_kind classes) in
    let same : length types ≡ length (types_in descriptor) = sym (length-map types type_named) ∙ ap length is.types_are in
    record {
      params = is.params_are ∙ ap (λ ks. take (is.count - 1) ks) all
          ∙ ap (λ n. take (n - 1) (map (declared_kind classes) (types_in descriptor))) (is.count_is ∙ count)
          ∙ take-map (declared_kind classes) (length (types_in descriptor) - 1) (types_in descriptor);
      result = is.result_is ∙ at_is classes types (length types - 1) few
          ∙ ap (λ ts. kind_in classes (first_type (drop (length types - 1) ts))) is.types_are
          ∙ ap (λ n. kind_in classes (first_type (drop (n - 1) (types_in descriptor)))) same;
      field = is.field_is ∙ ap (λ ks. unwrap_or (slice_get ks 0) kind.Int) all ∙ first_is classes (types_in descriptor);
    }
