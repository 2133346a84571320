-- Classes that are named are there.
use Rattle.std.proofs.Common.{◌≡◌, ℕ, ◌+◌, ◌<◌, ◌≤◌, List, [], ◌∷◌, length, map, Option, Some, None, IfSome, sym, ◌∙◌, ap, arith}
use Rattle.std.specs.Option.{option_map}
use Rattle.std.specs.List.{AllByRecursion}
use Rattle.std.specs.Prelude.{option_and_then}
use Rattle.fm_base.proofs.ListFacts.{AllByRecursion-append, AllByRecursion-get_or}
use Rattle.fm_base.proofs.OptionFacts.{option_and_then-some}
use Rattle.fm_base.specs.declared.ids.ClassId.{ClassId}
use Rattle.fm_base.specs.declared.kinds.Base.TheVariants as base
use Rattle.fm_base.specs.declared.kinds.TypeRef.{TypeRef}
use Rattle.fm_conn.specs.Shapes.{HasUsesIn}
use Rattle.fm_rapid.proofs.Receivers.{named_inside}
use Rattle.fm_world.proofs.TypeTests.{class_type}
use Rattle.fm_types.specs.Typed.{type_of_use}
use Rattle.fm_world.proofs.Told.{is_sub-deeper}
use Rattle.fm_world.specs.Chains.{is_sub}
use Rattle.fm_world.specs.Declarations.{no_field}
use Rattle.fm_world.specs.Members.{field_at, fields_from, fields_of, owned_fields, OwnedField}
use Rattle.fm_world.specs.Numbers.{type_of_class}
use Rattle.fm_world.specs.Programs.{class_of_type, takes_arrays, IsTypeIn, Program}
use Rattle.fm_world.specs.declared.declarations.DeclaredClass.{DeclaredClass}
use Rattle.fm_world.specs.declared.declarations.DeclaredField.{DeclaredField}
use Rattle.fm_world.specs.declared.uses.Use.{Use}
use Rattle.fm_world.specs.declared.uses.Use.TheVariants as resolved

-- ---- the class that declares a field

abbrev IsOf : ℕ → OwnedField → Type 0
IsOf n o = o.class < n

own : (n class : ℕ) → class < n → (fields : List DeclaredField) → AllByRecursion (IsOf n) (map (λ (f : DeclaredField). record { class = class; field = f }) fields)
own n class inside [] = tt
own n class inside (f ∷ fields) = (inside, own n class inside fields)

all_from : (n class : ℕ) (classes : List DeclaredClass) → class + length classes ≤ n → AllByRecursion (IsOf n) (fields_from class classes)
all_from n class [] fit = tt
all_from n class (c ∷ classes) fit =
    AllByRecursion-append (IsOf n) (owned_fields class c) (fields_from (class + 1) classes) (own n class (omega (arith, fit)) c.fields)
    (all_from n (class + 1) classes (omega (arith, fit)))

pub field_owner_within : (classes : List DeclaredClass) (field : ℕ) → field < length (fields_of classes) → (field_at classes field).class < length classes
unfolding fields_of
field_owner_within [] field inside = absurd (omega (arith, inside))
field_owner_within (c ∷ classes) field inside =
    AllByRecursion-get_or (IsOf (length (c ∷ classes))) (fields_from 0 (c ∷ classes)) (record { class = 0; field = no_field })
    (all_from (length (c ∷ classes)) 0 (c ∷ classes) (omega arith)) (omega arith) field

-- ---- a type that is named

-- its class is there
pub class_within : (p : Program) (u : Use) (class : ℕ) → HasUsesIn p → option_and_then class_of_type (type_of_use p.outline u) ≡ Some class
    → class < length p.outline.classes
class_within p u class uses is =
    let found = option_and_then-some class_of_type (type_of_use p.outline u) class is in
    named_inside p found.0 class (type_in u found.0 found.1) found.2 where
      type_in : (u : Use) (t : TypeRef) → type_of_use p.outline u ≡ Some t → IsTypeIn p.outline.classes t
      type_in (resolved.OfType n) t at = uses.types n.0 t at
      type_in u t at = absurd (cc)

pub some_within : (p : Program) (u : Use) (o : Option ClassId) → HasUsesIn p
    → option_map (λ (c : ClassId). c.0) o ≡ option_and_then class_of_type (type_of_use p.outline u) → IfSome o (λ c. c.0 < length p.outline.classes)
some_within p u None uses is = tt
some_within p u (Some class) uses is = class_within p u class.0 uses (sym is)

-- an array of ints is below the class exactly where arrays are
pub arrays_taken : (classes : List DeclaredClass) (named : TypeRef) (class : ℕ) → class_of_type named ≡ Some class
    → is_sub classes (record { dims = 1; base = base.Int }) named ≡ takes_arrays classes named
arrays_taken classes named class is =
    let same = class_type named class is in
    let ints : TypeRef = record { dims = 1; base = base.Int } in
    ap (is_sub classes ints) same ∙ is_sub-deeper classes ints (type_of_class class) (omega arith) ∙ ap (takes_arrays classes) (sym same)
