-- The least type that two types fit.
use Rattle.std.specs.Prelude.{◌≡◌, ℕ, ◌==◌, ◌&&◌, Bool, true, false, List, find, unwrap_or, min, if◌then◌else◌}
use Rattle.fm_base.specs.declared.kinds.Base.{Base}
use Rattle.fm_base.specs.declared.kinds.Base.TheVariants as base
use Rattle.fm_base.specs.declared.kinds.TypeRef.{TypeRef}
use Rattle.fm_types.specs.Fits.{depth_of, fits, object_of}
use Rattle.fm_types.specs.declared.slots.Slot.{Slot}
use Rattle.fm_types.specs.declared.slots.Slot.TheVariants as slot
use Rattle.fm_world.specs.Chains.{chain_of, is_among, same_type}
use Rattle.fm_world.specs.Descriptors.{of_class}
use Rattle.fm_world.specs.Lookups.{is_interface_at}
use Rattle.fm_world.specs.Programs.{Outline}
use Rattle.fm_world.specs.declared.declarations.DeclaredClass.{DeclaredClass}

-- ---- what it is to be the join

-- an interface, or an array of one
abbrev pub is_interface_base : List DeclaredClass → Base → Bool
is_interface_base classes (base.OfClass class) = is_interface_at classes class.0
is_interface_base classes b = false

-- a reference to an interface, or to an array of one
abbrev pub names_interface : Outline → Slot → Bool
names_interface o (slot.Ref t) = is_interface_base o.classes t.base
names_interface o s = false

-- which of several least types it is: equal types join to themselves, null and a type of objects to that type, and others to the one that names
-- no interface
abbrev pub IsChosen : Outline → Slot → Slot → Slot → Type 0
IsChosen o slot.Null (slot.Ref t) joined = joined ≡ slot.Ref t
IsChosen o (slot.Ref t) slot.Null joined = joined ≡ slot.Ref t
IsChosen o a b joined = (a ≡ b → joined ≡ a) × (¬ (a ≡ b) → names_interface o joined ≡ false)

-- both fit it, and it fits whatever both fit
pub record IsJoin (o : Outline) (a b joined : Slot) : Type 0 where
  pub first : fits o a joined ≡ true
  pub second : fits o b joined ≡ true
  pub least : (other : Slot) → fits o a other ≡ true → fits o b other ≡ true → fits o joined other ≡ true
  pub chosen : IsChosen o a b joined

-- ---- the join

-- the nearest superclass of both, one of the two perhaps; Object where there is none
abbrev pub common_class : List DeclaredClass → ℕ → ℕ → ℕ
common_class classes c d = unwrap_or (find (λ above. is_among above (chain_of classes d)) (chain_of classes c)) (object_of classes)

-- the same of two bases that are classes
abbrev pub are_classes : Base → Base → Bool
are_classes (base.OfClass c) (base.OfClass d) = true
are_classes b c = false

-- the nearest class above two that are classes
abbrev pub common_base : List DeclaredClass → Base → Base → Base
common_base classes (base.OfClass c) (base.OfClass d) = of_class (common_class classes c.0 d.0)
common_base classes b c = b

-- the array of Object of a given number of dimensions; with none Object itself
abbrev pub objects_with : List DeclaredClass → ℕ → TypeRef
objects_with classes dims = record { dims = dims; base = of_class (object_of classes) }

-- Different classes, and arrays of classes of equal dimensions, join by their classes. Others have the arrays of Object down from the lesser depth in
-- common, and Object.
unfoldable pub join_type : List DeclaredClass → TypeRef → TypeRef → TypeRef
join_type classes a b =
    if same_type a b then a else
    if (a.dims == b.dims) && are_classes a.base b.base then record { dims = a.dims; base = common_base classes a.base b.base } else
    objects_with classes (min (depth_of a) (depth_of b))

-- different kinds join to Top
unfoldable pub join : Outline → Slot → Slot → Slot
join o slot.Int slot.Int = slot.Int
join o slot.Long slot.Long = slot.Long
join o slot.Null slot.Null = slot.Null
join o slot.Null (slot.Ref t) = slot.Ref t
join o (slot.Ref t) slot.Null = slot.Ref t
join o (slot.Ref a) (slot.Ref b) = slot.Ref (join_type o.classes a b)
join o (slot.Uninit item) (slot.Uninit other) = if item == other then slot.Uninit item else slot.Top
join o slot.UninitThis slot.UninitThis = slot.UninitThis
join o a b = slot.Top
