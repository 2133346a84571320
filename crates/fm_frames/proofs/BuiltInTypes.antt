-- The built-in classes by their numbers, which are the same in each program; and the types that fit one of them.
use Rattle.std.proofs.Common.{◌≡◌, ℕ, ◌==◌, ◌&&◌, ◌⊎◌, inl, inr, true, false, List, ◌++◌, codes, unwrap_or, nat_le, Some, refl, sym, ◌∙◌, ap}
use Rattle.std.specs.Str.{bytes_eq}
use Rattle.std.proofs.lemmas.Bool.{and_parts, eqb-true, false≢true, or_cases, or_from}
use Rattle.std.proofs.lemmas.Iterator.Adapters.{position_from-zero}
use Rattle.fm_base.specs.declared.kinds.Base.{Base}
use Rattle.fm_base.specs.declared.kinds.Base.TheVariants as base
use Rattle.fm_base.specs.declared.kinds.TypeRef.{TypeRef}
use Rattle.fm_types.specs.Fits.{depth_of, fits_base, fits_type, is_object_base, is_objects_within, object_of}
use Rattle.fm_types.specs.Named.{built_in_type}
use Rattle.fm_world.specs.BuiltIns.{built_in, object_name}
use Rattle.fm_world.specs.Chains.{chain_of, is_among}
use Rattle.fm_world.specs.Descriptors.{class_number, of_class}
use Rattle.fm_world.specs.Lookups.{is_interface_at}
use Rattle.fm_world.specs.Numbers.{type_of_class}
use Rattle.fm_world.specs.Programs.{Program}
use Rattle.fm_world.specs.declared.declarations.DeclaredClass.{DeclaredClass}
use Rattle.fm_frames.specs.Runnable.{IsRunnable}

-- ---- types below a class

-- the type is a class that has this one among its superclasses
abbrev pub IsBelow : List DeclaredClass → ℕ → TypeRef → Type 0
IsBelow classes above t = (class : ℕ) × (t ≡ type_of_class class) × (is_among above (chain_of classes class) ≡ true)

base_below : (classes : List DeclaredClass) (above : ℕ) (b : Base) → fits_base classes b (of_class above) ≡ true
    → (class : ℕ) × (b ≡ of_class class) × (is_among above (chain_of classes class) ≡ true)
base_below classes above (base.OfClass class) fits = (class.0, refl, fits)
base_below classes above b fits = absurd (false≢true fits)

pub type_below : (classes : List DeclaredClass) (above : ℕ) (t : TypeRef) → is_interface_at classes above ≡ false → (above == object_of classes) ≡ false
    → fits_type classes t (type_of_class above) ≡ true → IsBelow classes above t
unfolding fits_type
type_below classes above t no_interface no_object fits =
    by_way (or_cases (is_objects_within classes (depth_of t) (type_of_class above)) ((t.dims == 0) && fits_base classes t.base (of_class above)) fits) where
      by_way : (is_objects_within classes (depth_of t) (type_of_class above) ≡ true) ⊎ (((t.dims == 0) && fits_base classes t.base (of_class above)) ≡ true)
          → IsBelow classes above t
      by_way (inl seen) =
          let parts = and_parts (nat_le 0 (depth_of t)) (is_object_base classes (of_class above)) seen in
          absurd (false≢true (sym (or_from (is_interface_at classes above) (above == object_of classes) no_interface no_object) ∙ parts.1))
      by_way (inr level) =
          let parts = and_parts (t.dims == 0) (fits_base classes t.base (of_class above)) level in
          let below = base_below classes above t.base parts.1 in
          let flat : t ≡ record t { dims = 0 } = ap (λ n. record t { dims = n }) (eqb-true t.dims 0 parts.0) in
          let named : record t { dims = 0 } ≡ type_of_class below.0 = ap (λ b. record { dims = 0; base = b }) below.1 in
          (below.0, flat ∙ named, below.2)

-- ---- built-in classes by name

pub object_there : (given : List DeclaredClass) → class_number (built_in ++ given) object_name ≡ Some 0
unfolding built_in
object_there given = position_from-zero (λ (c : DeclaredClass). bytes_eq c.name object_name) (built_in ++ given)

pub builder_there : (given : List DeclaredClass) → class_number (built_in ++ given) (codes "java/lang/StringBuilder") ≡ Some 2
unfolding built_in
builder_there given = position_from-zero (λ (c : DeclaredClass). bytes_eq c.name (codes "java/lang/StringBuilder")) (built_in ++ given)

pub buffer_there : (given : List DeclaredClass) → class_number (built_in ++ given) (codes "java/lang/StringBuffer") ≡ Some 3
unfolding built_in
buffer_there given = position_from-zero (λ (c : DeclaredClass). bytes_eq c.name (codes "java/lang/StringBuffer")) (built_in ++ given)

pub throwable_there : (given : List DeclaredClass) → class_number (built_in ++ given) (codes "java/lang/Throwable") ≡ Some 7
unfolding built_in
throwable_there given = position_from-zero (λ (c : DeclaredClass). bytes_eq c.name (codes "java/lang/Throwable")) (built_in ++ given)

pub no_interfaces : (given : List DeclaredClass)
    → (is_interface_at (built_in ++ given) 2 ≡ false) × (is_interface_at (built_in ++ given) 3 ≡ false) × (is_interface_at (built_in ++ given) 7 ≡ false)
unfolding built_in
no_interfaces given = (refl, refl, refl)

-- ---- in each program

pub named_class : (p : Program) (name : List ℕ) (class : ℕ) → IsRunnable p → ((given : List DeclaredClass) → class_number (built_in ++ given) name ≡ Some class)
    → built_in_type p.outline name ≡ type_of_class class
named_class p name class runnable found =
    ap (λ n. type_of_class (unwrap_or n 0)) (ap (λ all. class_number all name) runnable.classes ∙ found runnable.given)

pub object_first : (p : Program) → IsRunnable p → object_of p.outline.classes ≡ 0
object_first p runnable = ap (λ n. unwrap_or n 0) (ap (λ all. class_number all object_name) runnable.classes ∙ object_there runnable.given)

-- a type that fits a built-in class, which is neither an interface nor Object, is below it
pub below_named : (p : Program) (name : List ℕ) (above : ℕ) → IsRunnable p → (above == 0) ≡ false
    → ((given : List DeclaredClass) → class_number (built_in ++ given) name ≡ Some above)
    → ((given : List DeclaredClass) → is_interface_at (built_in ++ given) above ≡ false) → (t : TypeRef)
    → fits_type p.outline.classes t (built_in_type p.outline name) ≡ true → IsBelow p.outline.classes above t
below_named p name above runnable other found no_interface t fits =
    type_below p.outline.classes above t (ap (λ all. is_interface_at all above) runnable.classes ∙ no_interface runnable.given)
    (ap (λ n. above == n) (object_first p runnable) ∙ other)
    (sym (ap (λ u. fits_type p.outline.classes t u) (named_class p name above runnable found)) ∙ fits)
