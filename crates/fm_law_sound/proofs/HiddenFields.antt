-- Objects that build texts, and throwables, have the text that they lead to at their first place: it is the first field of the class that brings it.
use Rattle.std.proofs.Common.{◌≡◌, ℕ, ◌<◌, ◌≤◌, ◌==◌, ◌⊎◌, inl, inr, true, false, List, [], ◌∷◌, ◌++◌, length, codes, unwrap_or, Some, refl, sym, ◌∙◌, ap, slice_get, arith}
use Rattle.std.specs.Option.{option_map}
use Rattle.std.proofs.lemmas.Bool.{cases_lt, or_cases}
use Rattle.fm_base.specs.declared.kinds.Kind.{Kind}
use Rattle.fm_base.specs.declared.kinds.Kind.TheVariants as kind
use Rattle.fm_base.specs.declared.kinds.TypeRef.{TypeRef}
use Rattle.fm_code.specs.Names.{object}
use Rattle.fm_types.proofs.ClassTree.{among_one, chain_past_end}
use Rattle.fm_types.specs.Fits.{AreTree, fits_type}
use Rattle.fm_types.specs.Named.{built_in_type}
use Rattle.fm_world.proofs.Completions.{count_is, kinds_completed}
use Rattle.fm_world.specs.BuiltIns.{built_in, built_in_classes, string_name}
use Rattle.fm_world.specs.Chains.{chain_of, is_among}
use Rattle.fm_world.specs.Descriptors.{class_number, declared_kind, kind_with, of_class, typed}
use Rattle.fm_world.specs.Lookups.{is_interface_at}
use Rattle.fm_world.specs.Members.{kinds_of, slot_of}
use Rattle.fm_world.specs.Numbers.{type_of_class}
use Rattle.fm_world.specs.Programs.{kind_at, Outline, Program}
use Rattle.fm_world.specs.declared.declarations.DeclaredClass.{DeclaredClass}
use Rattle.fm_world.specs.inner.Completions.{AreCompleted}
use Rattle.fm_frames.proofs.BuiltInTypes.{below_named, buffer_there, builder_there, no_interfaces, throwable_there}
use Rattle.fm_frames.proofs.Programs.{completed-are, built_in-inside, string-is, string_number}
use Rattle.fm_frames.specs.NativeRows.{text_kind}
use Rattle.fm_frames.specs.ObjectRows.{kind_of_field}
use Rattle.fm_frames.specs.Runnable.{IsRunnable}
use Rattle.fm_law_sound.specs.Making.{HaveTextFirst, IsFieldOf}
use Rattle.fm_law_sound.proofs.FieldPlaces.{field_place, kinds_grow}

-- ---- what fits a class

-- what has a class among its superclasses is a class
among_inside : (classes : List DeclaredClass) (class above : ℕ) → above < length classes → is_among above (chain_of classes class) ≡ true
    → class < length classes
among_inside classes class above there among = by_place (cases_lt class (length classes)) where
  by_place : (class < length classes) ⊎ (length classes ≤ class) → class < length classes
  by_place (inl inside) = inside
  by_place (inr past) =
      let same : above ≡ class = among_one above class (sym (ap (is_among above) (chain_past_end classes class past)) ∙ among) in
      absurd (omega (arith, same, there, past))

-- the first place of a class is that of all below it
first_kept : (classes : List DeclaredClass) → AreTree classes → (above class : ℕ) (k : Kind) → above < length classes
    → is_among above (chain_of classes class) ≡ true → kinds_of classes above ≡ k ∷ [] → kind_at classes (type_of_class class) 0 ≡ Some k
first_kept classes tree above class k there among kinds =
    let grows = kinds_grow classes tree class above (among_inside classes class above there among) among in
    ap (λ ks. slice_get ks 0) grows.1 ∙ ap (λ ks. slice_get (ks ++ grows.0) 0) kinds

-- ---- the place of a field

-- an object of a type that has the field has it at its place
pub field_seen : (o : Outline) → AreTree o.classes → (field : ℕ) (of : TypeRef) → IsFieldOf o field of
    → kind_at o.classes of (slot_of o.classes field) ≡ Some (kind_of_field o field)
field_seen o tree field of h =
    ap (λ t. kind_at o.classes t (slot_of o.classes field)) h.type_is
    ∙ field_place o.classes tree h.class field h.inside h.there h.instance h.above

-- ---- the classes that bring the field

pub hidden_kind : (given : List DeclaredClass) → declared_kind (built_in ++ given) (typed 0 (object string_name)) ≡ kind.Ref (type_of_class 1)
hidden_kind given = ap (λ n. unwrap_or (option_map (kind_with 0) (option_map of_class n)) kind.Int) (string_number given)

abbrev pub hidden_kinds : List DeclaredClass → List Kind
hidden_kinds given = declared_kind (built_in ++ given) (typed 0 (object string_name)) ∷ []

builder_kinds : (given : List DeclaredClass) → AreCompleted (built_in ++ given) → kinds_of (built_in ++ given) 2 ≡ hidden_kinds given
unfolding built_in chain_of
builder_kinds given completed = kinds_completed given completed 2 (omega (arith, count_is)) refl

buffer_kinds : (given : List DeclaredClass) → AreCompleted (built_in ++ given) → kinds_of (built_in ++ given) 3 ≡ hidden_kinds given
unfolding built_in chain_of
buffer_kinds given completed = kinds_completed given completed 3 (omega (arith, count_is)) refl

pub throwable_kinds : (given : List DeclaredClass) → AreCompleted (built_in ++ given) → kinds_of (built_in ++ given) 7 ≡ hidden_kinds given
unfolding built_in chain_of
throwable_kinds given completed = kinds_completed given completed 7 (omega (arith, count_is)) refl

module _ (p : Program) (runnable : IsRunnable p) (tree : AreTree p.outline.classes) where
  abbrev o : Outline
  o = p.outline

  text_is : kind.Ref (type_of_class 1) ≡ text_kind o
  text_is = ap (λ t. kind.Ref t) (sym (string-is o runnable.given runnable.classes))

  first_is : (name : List ℕ) (above : ℕ) → above < built_in_classes → (above == 0) ≡ false
      → ((given : List DeclaredClass) → class_number (built_in ++ given) name ≡ Some above)
      → ((given : List DeclaredClass) → is_interface_at (built_in ++ given) above ≡ false)
      → ((given : List DeclaredClass) → AreCompleted (built_in ++ given) → kinds_of (built_in ++ given) above ≡ hidden_kinds given) → (t : TypeRef)
      → fits_type o.classes t (built_in_type o name) ≡ true → kind_at o.classes t 0 ≡ Some (text_kind o)
  first_is name above early other found no_interface kinds t fits =
      let below = below_named p name above runnable other found no_interface t fits in
      let one : kinds_of o.classes above ≡ kind.Ref (type_of_class 1) ∷ [] =
      ap (λ all. kinds_of all above) runnable.classes ∙ kinds runnable.given (completed-are runnable.given runnable.completed) ∙ ap (λ k. k ∷ []) (hidden_kind runnable.given) in
      ap (λ u. kind_at o.classes u 0) below.1
      ∙ first_kept o.classes tree above below.0 (kind.Ref (type_of_class 1)) (built_in-inside p above runnable early) below.2 one
      ∙ ap Some text_is

  -- in each program the text is at the first place
  pub text_first : HaveTextFirst o
  text_first = record {
    builders = λ t built. by_name t (or_cases (fits_type o.classes t (built_in_type o (codes "java/lang/StringBuilder"))) (fits_type o.classes t (built_in_type o (codes "java/lang/StringBuffer"))) built);
    throwables = λ t fits. first_is (codes "java/lang/Throwable") 7 (omega arith) refl throwable_there (λ given. (no_interfaces given).2) throwable_kinds t fits;
  } where
    by_name : (t : TypeRef)
        → (fits_type o.classes t (built_in_type o (codes "java/lang/StringBuilder")) ≡ true)
        ⊎ (fits_type o.classes t (built_in_type o (codes "java/lang/StringBuffer")) ≡ true)
        → kind_at o.classes t 0 ≡ Some (text_kind o)
    by_name t (inl fits) =
        first_is (codes "java/lang/StringBuilder") 2 (omega arith) refl builder_there (λ given. (no_interfaces given).0) builder_kinds t fits
    by_name t (inr fits) =
        first_is (codes "java/lang/StringBuffer") 3 (omega arith) refl buffer_there (λ given. (no_interfaces given).1) buffer_kinds t fits
