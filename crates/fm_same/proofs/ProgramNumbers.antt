-- Texts and streams have no place for references, in each program: they have no fields.
use Rattle.std.proofs.Common.{◌≡◌, ℕ, ◌+◌, ◌<◌, List, [], ◌++◌, length, Some, codes, sym, ◌∙◌, ap, slice_get, slice_index_or, arith}
use Rattle.std.specs.Prelude.{unwrap_or}
use Rattle.std.specs.Str.{bytes_eq}
use Rattle.std.proofs.lemmas.Iterator.Adapters.{position_from-zero}
use Rattle.std.proofs.lemmas.List.Quantifiers.{position-Some}
use Rattle.std.proofs.lemmas.Option.{get_or_from_slice_get, none-some}
use Rattle.fm_base.specs.declared.kinds.Kind.TheVariants as kind
use Rattle.fm_base.specs.declared.kinds.TypeRef.{TypeRef}
use Rattle.fm_types.specs.Named.{built_in_type}
use Rattle.fm_types.proofs.LeastJoins.{same_type-eq}
use Rattle.fm_world.specs.BuiltIns.{built_in, class_literal_class, class_literal_name, string_name}
use Rattle.fm_world.specs.Chains.{same_type}
use Rattle.fm_world.specs.Descriptors.{class_number}
use Rattle.fm_world.specs.Members.{kinds_of}
use Rattle.fm_world.specs.Numbers.{type_number, type_of_class}
use Rattle.fm_world.specs.Programs.{kind_at, Program}
use Rattle.fm_world.specs.declared.declarations.DeclaredClass.{DeclaredClass}
use Rattle.fm_world.specs.inner.Completions.{AreCompleted}
use Rattle.fm_frames.proofs.BuiltInTypes.{named_class}
use Rattle.fm_frames.proofs.Programs.{class_literal-is, completed-are, built_in-inside, string-is}
use Rattle.fm_same.specs.Evenness.{HasNoEdge, HoldsNumbers}
use Rattle.fm_same.specs.Resolved.{IsResolved}
use Rattle.fm_law_sound.proofs.MadeObjects.{class_literal_kinds, input_kinds, number_there, output_kinds, string_kinds}

-- ---- objects of a class without fields

no_edge : (p : Program) → IsResolved p → (t : TypeRef) (class : ℕ) → t ≡ type_of_class class → class < length p.outline.classes
    → kinds_of p.outline.classes class ≡ [] → HasNoEdge p.outline t
no_edge p ready t class is inside none object len fixed same place u found =
    let number : type_number p.outline.types (type_of_class class) ≡ Some class = ready.class_types class inside in
    let there = position-Some (same_type (type_of_class class)) p.outline.types class (type_of_class 0) number in
    let typed : type_of_class class ≡ slice_index_or p.outline.types class (type_of_class 0) =
    same_type-eq (type_of_class class) (slice_index_or p.outline.types class (type_of_class 0)) there.1 in
    let at : object.class ≡ class = same ∙ ap (λ n. unwrap_or n 0) (ap (type_number p.outline.types) is ∙ number) in
    none-some (kind.Ref u)
    (sym (ap (λ n. kind_at p.outline.classes (slice_index_or p.outline.types n (type_of_class 0)) place) at
    ∙ ap (λ s. kind_at p.outline.classes s place) (sym typed) ∙ ap (λ kinds. slice_get kinds place) none) ∙ found)

output_there : (given : List DeclaredClass) → class_number (built_in ++ given) (codes "java/io/PrintStream") ≡ Some 5
unfolding built_in
output_there given = position_from-zero (λ (c : DeclaredClass). bytes_eq c.name (codes "java/io/PrintStream")) (built_in ++ given)

input_there : (given : List DeclaredClass) → class_number (built_in ++ given) (codes "java/io/InputStream") ≡ Some 6
unfolding built_in
input_there given = position_from-zero (λ (c : DeclaredClass). bytes_eq c.name (codes "java/io/InputStream")) (built_in ++ given)

-- what a linked program makes sure of
pub holds_numbers : (p : Program) → IsResolved p → HoldsNumbers p.outline
holds_numbers p ready = record {
  texts = no_edge p ready (built_in_type p.outline string_name) 1 (string-is p.outline ready.runnable.given ready.runnable.classes)
      (built_in-inside p 1 ready.runnable (omega arith)) (kinds 1 string_kinds);
  output = no_edge p ready (built_in_type p.outline (codes "java/io/PrintStream")) 5 (named_class p (codes "java/io/PrintStream") 5 ready.runnable output_there)
      (built_in-inside p 5 ready.runnable (omega arith)) (kinds 5 output_kinds);
  class_literals = no_edge p ready (built_in_type p.outline class_literal_name) class_literal_class
      (class_literal-is p.outline ready.runnable.given ready.runnable.classes)
      (built_in-inside p class_literal_class ready.runnable (omega arith)) (kinds class_literal_class class_literal_kinds);
  input = no_edge p ready (built_in_type p.outline (codes "java/io/InputStream")) 6 (named_class p (codes "java/io/InputStream") 6 ready.runnable input_there)
      (built_in-inside p 6 ready.runnable (omega arith)) (kinds 6 input_kinds);
  constants = ready.constants;
  first = get_or_from_slice_get p.outline.types 0 (type_of_class 0) (type_of_class 0)
      (number_there p.outline (type_of_class 0) 0 (ready.class_types 0 (built_in-inside p 0 ready.runnable (omega arith))));
} where
  kinds : (class : ℕ) → ((given : List DeclaredClass) → AreCompleted (built_in ++ given) → kinds_of (built_in ++ given) class ≡ []) → kinds_of p.outline.classes class ≡ []
  kinds class each = ap (λ cs. kinds_of cs class) ready.runnable.classes ∙ each ready.runnable.given (completed-are ready.runnable.given ready.runnable.completed)
