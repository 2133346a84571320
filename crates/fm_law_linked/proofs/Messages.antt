-- Throwables have their message at the first place: Throwable gives it, and each class below keeps it there.
use Rattle.std.proofs.Common.{◌≡◌, refl, sym, ◌∙◌, ap, ℕ, ◌+◌, ◌<◌, ◌≤◌, ◌⊎◌, inl, inr, ◌==◌, ◌||◌, ◌&&◌, Bool, true, false, List, [], ◌∷◌, ◌++◌, length, nat_le, Some, unwrap_or, slice_get, arith, length-append}
use Rattle.std.proofs.lemmas.Bool.{and_parts, cases_lt, eqb-true, false≢true}
use Rattle.fm_base.specs.declared.kinds.Base.{Base}
use Rattle.fm_base.specs.declared.kinds.Base.TheVariants as base
use Rattle.fm_base.specs.declared.kinds.Kind.{Kind}
use Rattle.fm_base.specs.declared.kinds.Kind.TheVariants as kind
use Rattle.fm_base.specs.declared.kinds.TypeRef.{TypeRef}
use Rattle.fm_code.specs.Names.{object}
use Rattle.fm_code.specs.declared.class_file.ClassDef.{ClassDef}
use Rattle.fm_frames.proofs.BuiltInTypes.{object_there, throwable_there}
use Rattle.fm_frames.proofs.Programs.{string-is}
use Rattle.fm_frames.specs.NativeRows.{text_kind}
use Rattle.fm_types.proofs.ClassTree.{among_one, chain_past_end}
use Rattle.fm_types.specs.Fits.{AreTree, depth_of, fits_base, fits_type, is_objects_within, object_of}
use Rattle.fm_types.specs.Named.{throwable_type}
use Rattle.fm_link_supers.proofs.BuiltInParents.{are_completed}
use Rattle.fm_world.proofs.Completions.{count_is}
use Rattle.fm_world.specs.BuiltIns.{built_in, string_name}
use Rattle.fm_world.specs.Chains.{chain_of, is_among}
use Rattle.fm_world.specs.Declarations.{declared_from}
use Rattle.fm_world.specs.Descriptors.{declared_kind, typed}
use Rattle.fm_world.specs.Linking.{refused_built_ins}
use Rattle.fm_world.specs.Lookups.{is_interface_at}
use Rattle.fm_world.specs.Members.{kinds_of}
use Rattle.fm_world.specs.Numbers.{type_of_class}
use Rattle.fm_world.specs.Programs.{classes_of, kind_at, outline_of}
use Rattle.fm_world.specs.declared.declarations.DeclaredClass.{DeclaredClass}
use Rattle.fm_world.specs.inner.Completions.{AreCompleted}
use Rattle.fm_law_sound.proofs.FieldPlaces.{kinds_grow}
use Rattle.fm_law_sound.proofs.HiddenFields.{hidden_kind, throwable_kinds}

-- ---- the class of what is thrown, which has the number 7 in each program

not_interface : (given : List DeclaredClass) → is_interface_at (built_in ++ given) 7 ≡ false
unfolding built_in
not_interface given = refl

-- ---- objects of classes below

first_kept : (ks more : List Kind) (k : Kind) → ks ≡ k ∷ [] → slice_get (ks ++ more) 0 ≡ Some k
first_kept ks more k is = ap (λ list. slice_get (list ++ more) 0) is

kinds_below : (classes : List DeclaredClass) → AreTree classes → (class above : ℕ) (k : Kind) → class < length classes
    → is_among above (chain_of classes class) ≡ true
    → kinds_of classes above ≡ k ∷ []
    → slice_get (kinds_of classes class) 0 ≡ Some k
kinds_below classes tree class above k within among is =
    let grows = kinds_grow classes tree class above within among in
    ap (λ ks. slice_get ks 0) grows.1 ∙ first_kept (kinds_of classes above) grows.0 k is

-- a class that is below another one is there, where the other one is
pub below_inside : (classes : List DeclaredClass) (class above : ℕ) → is_among above (chain_of classes class) ≡ true → above < length classes → class < length classes
below_inside classes class above among within = by_place (cases_lt class (length classes)) where
  by_place : (class < length classes) ⊎ (length classes ≤ class) → class < length classes
  by_place (inl inside) = inside
  by_place (inr past) =
      let same : above ≡ class = among_one above class (sym (ap (is_among above) (chain_past_end classes class past)) ∙ among) in
      absurd (omega (arith, same, within, past))

-- a type that fits a class which is neither Object nor an interface is that of a class below
fits_parts : (seen : Bool) (same : Bool) → seen ≡ false → (seen || same) ≡ true → same ≡ true
fits_parts false same none fits = fits
fits_parts true same none fits = absurd (false≢true (sym none))

by_base : (classes : List DeclaredClass) (class : ℕ) (b : Base) → fits_base classes b (type_of_class class).base ≡ true
    → (below : ℕ) × ((b ≡ (type_of_class below).base) × (is_among class (chain_of classes below) ≡ true))
by_base classes class (base.OfClass c) fits = (c.0, (refl, fits))
by_base classes class base.Boolean fits = absurd (false≢true fits)
by_base classes class base.Byte fits = absurd (false≢true fits)
by_base classes class base.Char fits = absurd (false≢true fits)
by_base classes class base.Short fits = absurd (false≢true fits)
by_base classes class base.Int fits = absurd (false≢true fits)
by_base classes class base.Long fits = absurd (false≢true fits)

-- the class of a type that fits this one
pub record IsBelow (classes : List DeclaredClass) (of : TypeRef) (class : ℕ) : Type 0 where
  pub below : ℕ
  pub type_is : of ≡ type_of_class below
  pub among : is_among class (chain_of classes below) ≡ true

joined : (of : TypeRef) (below : ℕ) → of.dims ≡ 0 → of.base ≡ (type_of_class below).base → of ≡ type_of_class below
joined of below dims is =
    ap (λ n. record { dims = n; base = of.base }) dims ∙ ap (λ b. record { dims = 0; base = b }) is

pub below_of : (classes : List DeclaredClass) (of : TypeRef) (class : ℕ) → (is_interface_at classes class || (class == object_of classes)) ≡ false
    → fits_type classes of (type_of_class class) ≡ true
    → IsBelow classes of class
unfolding fits_type
below_of classes of class plain fits =
    let seen : is_objects_within classes (depth_of of) (type_of_class class) ≡ false = and_false (nat_le 0 (depth_of of)) _ plain in
    let same = fits_parts (is_objects_within classes (depth_of of) (type_of_class class)) _ seen fits in
    let parts = and_parts (of.dims == 0) (fits_base classes of.base (type_of_class class).base) same in
    let found = by_base classes class of.base parts.1 in
    record { below = found.0; type_is = joined of found.0 (eqb-true of.dims 0 parts.0) found.1.0; among = found.1.1 } where
      and_false : (a b : Bool) → b ≡ false → (a && b) ≡ false
      and_false true b e = e
      and_false false b e = refl

-- ---- messages

-- what is thrown has its message at the first place
message_first : (given : List DeclaredClass) → AreCompleted (built_in ++ given) → AreTree (built_in ++ given) → (of : TypeRef)
    → fits_type (built_in ++ given) of (type_of_class 7) ≡ true
    → kind_at (built_in ++ given) of 0 ≡ Some (declared_kind (built_in ++ given) (typed 0 (object string_name)))
message_first given completed tree of fits =
    let classes = built_in ++ given in
    let first : object_of classes ≡ 0 = ap (λ n. unwrap_or n 0) (object_there given) in
    let plain : (is_interface_at classes 7 || (7 == object_of classes)) ≡ false =
    ap (λ b. b || (7 == object_of classes)) (not_interface given) ∙ ap (λ n. 7 == n) first in
    let found = below_of classes of 7 plain fits in
    let many = length-append built_in given in
    let inside = below_inside classes found.below 7 found.among (omega (arith, many, count_is)) in
    ap (λ t. kind_at classes t 0) found.type_is
    ∙ kinds_below classes tree found.below 7 (declared_kind classes (typed 0 (object string_name))) inside found.among (throwable_kinds given completed)

pub message_there : (given : List ClassDef) (main : List ℕ) → refused_built_ins given ≡ [] → AreTree (classes_of given) → (of : TypeRef)
    → fits_type (outline_of given main).classes of (throwable_type (outline_of given main)) ≡ true
    → kind_at (outline_of given main).classes of 0 ≡ Some (text_kind (outline_of given main))
unfolding outline_of classes_of
message_there given main apart tree of fits =
    let o = outline_of given main in
    let more = declared_from 0 given in
    let thrown : throwable_type o ≡ type_of_class 7 = ap (λ n. type_of_class (unwrap_or n 0)) (throwable_there more) in
    message_first more (are_completed given apart) tree of (ap (fits_type (built_in ++ more) of) (sym thrown) ∙ fits)
    ∙ ap Some (hidden_kind more ∙ sym (ap kind.Ref (string-is o more refl)))
