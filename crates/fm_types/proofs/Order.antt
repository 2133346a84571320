-- What fits what is an order.
use Rattle.std.proofs.Common.{◌≡◌, ◌⊎◌, inl, inr, refl, sym, ◌∙◌, ap, subst, ℕ, ◌<◌, ◌≤◌, ◌&&◌, true, List, length, nat_eq, nat_le, arith}
use Rattle.std.proofs.lemmas.Bool.{and_from, and_parts, eqb-true, eq-eqb, false≢true, le-leb, leb-true, or_cases, or_left, or_right}
use Rattle.fm_base.specs.declared.kinds.Base.{Base}
use Rattle.fm_base.specs.declared.kinds.Base.TheVariants as base
use Rattle.fm_base.specs.declared.kinds.TypeRef.{TypeRef}
use Rattle.fm_types.proofs.ClassTree.{among_own, among-trans, object-within, seen_above}
use Rattle.fm_types.specs.Fits.{AreTree, depth_of, depth_with, fits, fits_base, fits_type, is_object_base, is_objects_within}
use Rattle.fm_types.specs.declared.slots.Slot.{Slot}
use Rattle.fm_types.specs.declared.slots.Slot.TheVariants as slot
use Rattle.fm_world.specs.Programs.{Outline}
use Rattle.fm_world.specs.declared.declarations.DeclaredClass.{DeclaredClass}

-- ---- bases

pub base-refl : (classes : List DeclaredClass) → 0 < length classes → (b : Base) → fits_base classes b b ≡ true
base-refl classes some base.Boolean = refl
base-refl classes some base.Byte = refl
base-refl classes some base.Char = refl
base-refl classes some base.Short = refl
base-refl classes some base.Int = refl
base-refl classes some base.Long = refl
base-refl classes some (base.OfClass c) = among_own classes c.0 some

base-trans : (classes : List DeclaredClass) → AreTree classes → (a b c : Base) → fits_base classes a b ≡ true → fits_base classes b c ≡ true
    → fits_base classes a c ≡ true
base-trans classes tree (base.OfClass a) (base.OfClass b) (base.OfClass c) f g = among-trans classes tree a.0 b.0 c.0 f g
base-trans classes tree (base.OfClass a) (base.OfClass b) c f g = absurd (false≢true g)
base-trans classes tree base.Boolean base.Boolean c f g = g
base-trans classes tree base.Byte base.Byte c f g = g
base-trans classes tree base.Char base.Char c f g = g
base-trans classes tree base.Short base.Short c f g = g
base-trans classes tree base.Int base.Int c f g = g
base-trans classes tree base.Long base.Long c f g = g
base-trans classes tree a b c f g = absurd (false≢true f)

-- one that fits another one has as deep arrays
pub depth-same : (classes : List DeclaredClass) (dims : ℕ) (a b : Base) → fits_base classes a b ≡ true → depth_with dims a ≡ depth_with dims b
depth-same classes dims (base.OfClass a) (base.OfClass b) f = refl
depth-same classes dims base.Boolean base.Boolean f = refl
depth-same classes dims base.Byte base.Byte f = refl
depth-same classes dims base.Char base.Char f = refl
depth-same classes dims base.Short base.Short f = refl
depth-same classes dims base.Int base.Int f = refl
depth-same classes dims base.Long base.Long f = refl
depth-same classes dims a b f = absurd (false≢true f)

pub object-depth : (classes : List DeclaredClass) (dims : ℕ) (b : Base) → is_object_base classes b ≡ true → depth_with dims b ≡ dims
object-depth classes dims (base.OfClass c) seen = refl
object-depth classes dims b seen = absurd (false≢true seen)

object-above : (classes : List DeclaredClass) → AreTree classes → (a b : Base) → is_object_base classes a ≡ true → fits_base classes a b ≡ true
    → is_object_base classes b ≡ true
object-above classes tree (base.OfClass a) (base.OfClass b) seen f = seen_above classes tree a.0 b.0 seen f
object-above classes tree (base.OfClass a) b seen f = absurd (false≢true f)
object-above classes tree a b seen f = absurd (false≢true seen)

-- ---- types: the two ways in which one fits another one

pub record IsBelowObjects (classes : List DeclaredClass) (a b : TypeRef) : Type 0 where
  pub within : b.dims ≤ depth_of a
  pub objects : is_object_base classes b.base ≡ true

pub record IsLevel (classes : List DeclaredClass) (a b : TypeRef) : Type 0 where
  pub dims : a.dims ≡ b.dims
  pub bases : fits_base classes a.base b.base ≡ true

pub fits_type-cases : (classes : List DeclaredClass) (a b : TypeRef) → fits_type classes a b ≡ true → IsBelowObjects classes a b ⊎ IsLevel classes a b
unfolding fits_type
fits_type-cases classes a b h =
    by_way (or_cases (is_objects_within classes (depth_of a) b) (nat_eq a.dims b.dims && fits_base classes a.base b.base) h) where
      by_way : (is_objects_within classes (depth_of a) b ≡ true) ⊎ ((nat_eq a.dims b.dims && fits_base classes a.base b.base) ≡ true)
          → IsBelowObjects classes a b ⊎ IsLevel classes a b
      by_way (inl e) =
          let parts = and_parts (nat_le b.dims (depth_of a)) (is_object_base classes b.base) e in
          inl (record { within = leb-true b.dims (depth_of a) parts.0; objects = parts.1 })
      by_way (inr e) =
          let parts = and_parts (nat_eq a.dims b.dims) (fits_base classes a.base b.base) e in
          inr (record { dims = eqb-true a.dims b.dims parts.0; bases = parts.1 })

pub below_objects-fits : (classes : List DeclaredClass) (a b : TypeRef) → b.dims ≤ depth_of a → is_object_base classes b.base ≡ true
    → fits_type classes a b ≡ true
unfolding fits_type
below_objects-fits classes a b within objects =
    or_left (is_objects_within classes (depth_of a) b) (nat_eq a.dims b.dims && fits_base classes a.base b.base)
    (and_from (nat_le b.dims (depth_of a)) (is_object_base classes b.base) (le-leb b.dims (depth_of a) within) objects)

pub level-fits : (classes : List DeclaredClass) (a b : TypeRef) → a.dims ≡ b.dims → fits_base classes a.base b.base ≡ true
    → fits_type classes a b ≡ true
unfolding fits_type
level-fits classes a b dims bases =
    or_right (is_objects_within classes (depth_of a) b) (nat_eq a.dims b.dims && fits_base classes a.base b.base)
    (and_from (nat_eq a.dims b.dims) (fits_base classes a.base b.base) (eq-eqb a.dims b.dims dims) bases)

pub type-refl : (classes : List DeclaredClass) → AreTree classes → (a : TypeRef) → fits_type classes a a ≡ true
type-refl classes tree a = level-fits classes a a refl (base-refl classes (omega (arith, object-within classes tree)) a.base)

-- what is level with objects is as deep as they are
pub level-depth : (classes : List DeclaredClass) (a b : TypeRef) → IsLevel classes a b → is_object_base classes b.base ≡ true → depth_of a ≡ b.dims
level-depth classes a b level objects =
    depth-same classes a.dims a.base b.base level.bases ∙ object-depth classes a.dims b.base objects ∙ level.dims

pub type-trans : (classes : List DeclaredClass) → AreTree classes → (a b c : TypeRef) → fits_type classes a b ≡ true
    → fits_type classes b c ≡ true → fits_type classes a c ≡ true
type-trans classes tree a b c f g = by_ways (fits_type-cases classes a b f) (fits_type-cases classes b c g) where
  by_ways : IsBelowObjects classes a b ⊎ IsLevel classes a b → IsBelowObjects classes b c ⊎ IsLevel classes b c → fits_type classes a c ≡ true
  by_ways (inl x) (inl y) =
      let depth : depth_of b ≡ b.dims = object-depth classes b.dims b.base x.objects in
      let within : c.dims ≤ depth_of a = omega (arith, x.within, y.within, depth) in
      below_objects-fits classes a c within y.objects
  by_ways (inl x) (inr y) =
      let within : c.dims ≤ depth_of a = omega (arith, x.within, y.dims) in
      below_objects-fits classes a c within (object-above classes tree b.base c.base x.objects y.bases)
  by_ways (inr x) (inl y) =
      let depth : depth_of a ≡ depth_of b = depth-same classes a.dims a.base b.base x.bases ∙ ap (λ n. depth_with n b.base) x.dims in
      let within : c.dims ≤ depth_of a = omega (arith, y.within, depth) in
      below_objects-fits classes a c within y.objects
  by_ways (inr x) (inr y) = level-fits classes a c (x.dims ∙ y.dims) (base-trans classes tree a.base b.base c.base x.bases y.bases)

-- ---- slots

pub fits-top : (o : Outline) (a : Slot) → fits o a slot.Top ≡ true
unfolding fits
fits-top o slot.Top = refl
fits-top o slot.Int = refl
fits-top o slot.Long = refl
fits-top o slot.Null = refl
fits-top o (slot.Ref t) = refl
fits-top o (slot.Uninit item) = refl
fits-top o slot.UninitThis = refl

pub fits-refl : (o : Outline) → AreTree o.classes → (a : Slot) → fits o a a ≡ true
unfolding fits
fits-refl o tree slot.Top = refl
fits-refl o tree slot.Int = refl
fits-refl o tree slot.Long = refl
fits-refl o tree slot.Null = refl
fits-refl o tree (slot.Ref t) = type-refl o.classes tree t
fits-refl o tree (slot.Uninit item) = eq-eqb item item refl
fits-refl o tree slot.UninitThis = refl

pub fits-trans : (o : Outline) → AreTree o.classes → (a b c : Slot) → fits o a b ≡ true → fits o b c ≡ true → fits o a c ≡ true
unfolding fits
fits-trans o tree a b slot.Top f g = fits-top o a
fits-trans o tree a slot.Top c f g = absurd (false≢true g)
fits-trans o tree slot.Int slot.Int c f g = g
fits-trans o tree slot.Long slot.Long c f g = g
fits-trans o tree slot.Null slot.Null c f g = g
fits-trans o tree slot.Null (slot.Ref t) (slot.Ref u) f g = refl
fits-trans o tree slot.Null (slot.Ref t) c f g = absurd (false≢true g)
fits-trans o tree (slot.Ref s) (slot.Ref t) (slot.Ref u) f g = type-trans o.classes tree s t u f g
fits-trans o tree (slot.Ref s) (slot.Ref t) c f g = absurd (false≢true g)
fits-trans o tree (slot.Uninit i) (slot.Uninit j) c f g =
    let P : ℕ → Type 0 = λ n. fits o (slot.Uninit n) c ≡ true in subst P (sym (eqb-true i j f)) g
fits-trans o tree slot.UninitThis slot.UninitThis c f g = g
fits-trans o tree a b c f g = absurd (false≢true f)
