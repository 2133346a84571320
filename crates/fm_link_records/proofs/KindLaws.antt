-- What is kept of the descriptors of members is what these declare.
use Rattle.std.proofs.Common.{◌≡◌, sym, ◌∙◌, ap, subst, ℕ, ◌<◌, Bool, true, false, List, [], length, map, get_or, Option, Some, None}
use Rattle.std.proofs.lemmas.List.{get_or-map}
use Rattle.fm_link_names.specs.declared.descriptors.Kinds.{Kinds}
use Rattle.fm_link_names.specs.inner.DescriptorTypes.{HaveFewDimensions}
use Rattle.fm_world.specs.Descriptors.{declared_kind, field_type, parameter_kinds, result_kind, types_in}
use Rattle.fm_world.specs.Members.{field_at, fields_of, method_at, methods_of}
use Rattle.fm_world.specs.declared.declarations.DeclaredClass.{DeclaredClass}
use Rattle.fm_link_records.specs.inner.Assembled.{AreFieldKinds, AreMethodKinds}
use Rattle.fm_link_records.specs.inner.DeclaredKinds.{AreKinds, IsKinds}
use Rattle.fm_link_records.specs.inner.Fields.{kind_field}
use Rattle.fm_link_records.specs.inner.Methods.{kind_params, kind_result}

-- a member's descriptor by the number of its text, which has a mark, and no type of which has too many dimensions
pub record IsDescribed (texts : List (List ℕ)) (marks : List Bool) (number : ℕ) (descriptor : List ℕ) : Type 0 where
  pub within : number < length texts
  pub text : get_or texts number [] ≡ descriptor
  pub marked : get_or marks number false ≡ true
  pub few : HaveFewDimensions (types_in descriptor)

kept_params : (classes : List DeclaredClass) (descriptor : List ℕ) (o : Option Kinds) → IsKinds classes descriptor true o
    → HaveFewDimensions (types_in descriptor) → kind_params o ≡ parameter_kinds classes descriptor
kept_params classes descriptor None is few = absurd is
kept_params classes descriptor (Some kinds) is few = (is few).params

kept_result : (classes : List DeclaredClass) (descriptor : List ℕ) (o : Option Kinds) → IsKinds classes descriptor true o
    → HaveFewDimensions (types_in descriptor) → kind_result o ≡ result_kind classes descriptor
kept_result classes descriptor None is few = absurd is
kept_result classes descriptor (Some kinds) is few = (is few).result

kept_field : (classes : List DeclaredClass) (descriptor : List ℕ) (o : Option Kinds) → IsKinds classes descriptor true o
    → HaveFewDimensions (types_in descriptor) → kind_field o ≡ declared_kind classes (field_type descriptor)
kept_field classes descriptor None is few = absurd is
kept_field classes descriptor (Some kinds) is few = (is few).field

-- what is kept for a member
kept : (classes : List DeclaredClass) (texts : List (List ℕ)) (marks : List Bool) (kinds : List (Option Kinds)) (number : ℕ) (descriptor : List ℕ)
    → AreKinds classes texts marks kinds → length kinds ≡ length texts → IsDescribed texts marks number descriptor
    → IsKinds classes descriptor true (get_or kinds number None)
kept classes texts marks kinds number descriptor are long is =
    let P : ℕ → Type 0 = λ n. number < n in
    let Q : List ℕ → Type 0 = λ text. IsKinds classes text (get_or marks number false) (get_or kinds number None) in
    let R : Bool → Type 0 = λ mark. IsKinds classes descriptor mark (get_or kinds number None) in
    subst R is.marked (subst Q is.text (are number (subst P (sym long) is.within)))

-- the value for the k-th member
by_descriptor : (kinds : List (Option Kinds)) (descriptors : List ℕ) (k : ℕ) → k < length descriptors
    → get_or (map (λ d. get_or kinds d None) descriptors) k None ≡ get_or kinds (get_or descriptors k 0) None
by_descriptor kinds descriptors k within = get_or-map (λ d. get_or kinds d None) descriptors k 0 None within

pub method_kinds : (classes : List DeclaredClass) (texts : List (List ℕ)) (marks : List Bool) (kinds : List (Option Kinds)) (descriptors : List ℕ)
    → AreKinds classes texts marks kinds → length kinds ≡ length texts → length descriptors ≡ length (methods_of classes)
    → ((k : ℕ) → k < length (methods_of classes) → IsDescribed texts marks (get_or descriptors k 0) (method_at classes k).method.descriptor)
    → AreMethodKinds classes (map (λ d. get_or kinds d None) descriptors)
method_kinds classes texts marks kinds descriptors are long count each =
    let P : ℕ → ℕ → Type 0 = λ k n. k < n in
    record {
      params = λ k h. ap kind_params (by_descriptor kinds descriptors k (subst (P k) (sym count) h))
          ∙ kept_params classes (method_at classes k).method.descriptor (get_or kinds (get_or descriptors k 0) None)
          (kept classes texts marks kinds (get_or descriptors k 0) (method_at classes k).method.descriptor are long (each k h)) (each k h).few;
      results = λ k h. ap kind_result (by_descriptor kinds descriptors k (subst (P k) (sym count) h))
          ∙ kept_result classes (method_at classes k).method.descriptor (get_or kinds (get_or descriptors k 0) None)
          (kept classes texts marks kinds (get_or descriptors k 0) (method_at classes k).method.descriptor are long (each k h)) (each k h).few;
    }

pub field_kinds : (classes : List DeclaredClass) (texts : List (List ℕ)) (marks : List Bool) (kinds : List (Option Kinds)) (descriptors : List ℕ)
    → AreKinds classes texts marks kinds → length kinds ≡ length texts → length descriptors ≡ length (fields_of classes)
    → ((k : ℕ) → k < length (fields_of classes) → IsDescribed texts marks (get_or descriptors k 0) (field_at classes k).field.descriptor)
    → AreFieldKinds classes (map (λ d. get_or kinds d None) descriptors)
field_kinds classes texts marks kinds descriptors are long count each k h =
    let P : ℕ → Type 0 = λ n. k < n in
    ap kind_field (by_descriptor kinds descriptors k (subst P (sym count) h))
    ∙ kept_field classes (field_at classes k).field.descriptor (get_or kinds (get_or descriptors k 0) None)
    (kept classes texts marks kinds (get_or descriptors k 0) (field_at classes k).field.descriptor are long (each k h)) (each k h).few
