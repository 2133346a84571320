-- Fields by their place in objects: what an access that names place and kind in place of the field requires.
use Rattle.std.specs.Prelude.{◌≡◌, ℕ}
use Rattle.fm_base.specs.declared.ids.FieldId.{FieldId}
use Rattle.fm_base.specs.declared.kinds.Kind.{Kind}
use Rattle.fm_base.specs.declared.kinds.Kind.TheVariants as kind
use Rattle.fm_base.specs.declared.kinds.TypeRef.{TypeRef}
use Rattle.fm_exec.specs.Holding.{HoldsField, TakesField}
use Rattle.fm_frames.specs.ObjectRows.{class_of_field, kind_of_field}
use Rattle.fm_frames.specs.States.{State}
use Rattle.fm_world.specs.Members.{slot_of}
use Rattle.fm_world.specs.Programs.{Outline, Program}

-- the kinds are the same but for the types of references, by which no value is kept or read
abbrev pub IsLike : Kind → Kind → Type 0
IsLike (kind.Ref t) own = (u : TypeRef) × (own ≡ kind.Ref u)
IsLike k own = own ≡ k

-- the field has this place among those of its class, and values like those of the kind
pub record IsFieldAt (o : Outline) (f : ℕ) (k : Kind) (place : ℕ) : Type 0 where
  pub place_is : slot_of o.classes f ≡ place
  pub kind_is : IsLike k (kind_of_field o f)

-- there is such a field, which has a number of its kind where the topmost operand is an object whose type fits the named one (JVMS 6.5.getfield)
abbrev pub HoldsFieldAt : Program → State → Kind → (place named : ℕ) → Type 0
HoldsFieldAt p x k place named = (f : FieldId) × IsFieldAt p.outline f.0 k place × HoldsField p x f.0 named

-- there is such a field, into which the value can be put where the object below it has a type that fits the named one (JVMS 6.5.putfield)
abbrev pub TakesFieldAt : Program → State → Kind → (place named : ℕ) → Type 0
TakesFieldAt p x k place named = (f : FieldId) × IsFieldAt p.outline f.0 k place × TakesField p x f.0 named

-- it is a static field of this class
pub record IsStaticAt (o : Outline) (f : ℕ) (k : Kind) (place class : ℕ) : Type 0 where
  pub at : IsFieldAt o f k place
  pub class_is : class_of_field o f ≡ class
