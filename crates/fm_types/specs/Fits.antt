-- Which type fits which where states are checked: the order of JVMS 4.10.1.2, in which an interface counts as Object; whether an object implements
-- it is looked at in the run.
use Rattle.std.specs.Prelude.{◌≡◌, ℕ, ◌-◌, ◌==◌, ◌&&◌, ◌||◌, Bool, true, false, List, None, Some, unwrap_or, nat_le}
use Rattle.fm_base.specs.declared.kinds.Base.{Base}
use Rattle.fm_base.specs.declared.kinds.Base.TheVariants as base
use Rattle.fm_base.specs.declared.kinds.TypeRef.{TypeRef}
use Rattle.fm_types.specs.declared.slots.Slot.{Slot}
use Rattle.fm_types.specs.declared.slots.Slot.TheVariants as slot
use Rattle.fm_world.specs.Chains.{chain_of, is_among, parent_of, same_base}
use Rattle.fm_world.specs.Lookups.{is_interface_at, object_number}
use Rattle.fm_world.specs.Programs.{Outline}
use Rattle.fm_world.specs.declared.declarations.DeclaredClass.{DeclaredClass}
use Rattle.fm_world.specs.inner.Tables.{IsLinear}

-- ---- classes

-- the number of Object, which is the first class of each program
abbrev pub object_of : List DeclaredClass → ℕ
object_of classes = unwrap_or (object_number classes) 0

-- Object and the interfaces: each class fits them
abbrev pub is_seen_as_object : List DeclaredClass → ℕ → Bool
is_seen_as_object classes class = is_interface_at classes class || (class == object_of classes)

-- What linking makes sure of (JVMS 5.3.5): the classes are a tree below Object. No chain of superclasses leads into a cycle, no superclass is an
-- interface, and the superclass of an interface is Object.
pub record AreTree (classes : List DeclaredClass) : Type 0 where
  pub linear : IsLinear classes
  pub object : object_number classes ≡ Some (object_of classes)
  pub top : parent_of classes (object_of classes) ≡ None
  pub object_is_class : is_interface_at classes (object_of classes) ≡ false
  pub parents : (class parent : ℕ) → parent_of classes class ≡ Some parent → is_interface_at classes parent ≡ false
  pub interfaces : (class : ℕ) → is_interface_at classes class ≡ true → parent_of classes class ≡ Some (object_of classes)

-- ---- types of objects

-- a class and one of its superclasses, or the same letter
abbrev pub fits_base : List DeclaredClass → Base → Base → Bool
fits_base classes (base.OfClass c) (base.OfClass d) = is_among d.0 (chain_of classes c.0)
fits_base classes b c = same_base b c

-- how many dimensions of a type have references for elements: all, but for the innermost of an array of numbers
abbrev pub depth_with : ℕ → Base → ℕ
depth_with dims (base.OfClass class) = dims
depth_with dims b = dims - 1

-- the same of a type
abbrev pub depth_of : TypeRef → ℕ
depth_of t = depth_with t.dims t.base

-- a class that each class fits
abbrev pub is_object_base : List DeclaredClass → Base → Bool
is_object_base classes (base.OfClass class) = is_seen_as_object classes class.0
is_object_base classes b = false

-- Object, an interface, or an array of one of these, of at most a given number of dimensions
abbrev pub is_objects_within : List DeclaredClass → ℕ → TypeRef → Bool
is_objects_within classes depth t = nat_le t.dims depth && is_object_base classes t.base

-- Each type fits Object and the interfaces, and the arrays of these of no more dimensions than its depth; and one of equal dimensions whose
-- elements at the innermost are the same letter, or a superclass.
unfoldable pub fits_type : List DeclaredClass → TypeRef → TypeRef → Bool
fits_type classes a b = is_objects_within classes (depth_of a) b || ((a.dims == b.dims) && fits_base classes a.base b.base)

-- ---- what locals and words of the stack hold

-- all fits Top; null fits each type of objects; and what isn't initialised fits only itself
unfoldable pub fits : Outline → Slot → Slot → Bool
fits o a slot.Top = true
fits o slot.Int slot.Int = true
fits o slot.Long slot.Long = true
fits o slot.Null slot.Null = true
fits o slot.Null (slot.Ref t) = true
fits o (slot.Ref a) (slot.Ref b) = fits_type o.classes a b
fits o (slot.Uninit item) (slot.Uninit other) = item == other
fits o slot.UninitThis slot.UninitThis = true
fits o a b = false
