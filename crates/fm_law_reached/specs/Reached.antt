-- States within what a program reaches: their frames are of methods that are reached, and their objects of classes that are made.
use Rattle.std.specs.Prelude.{◌≡◌, ℕ, Bool, true, List, Option, Some, None, IfSome}
use Rattle.std.specs.List.{AllByRecursion}
use Rattle.fm_base.specs.Rows.{has}
use Rattle.fm_base.specs.declared.kinds.TypeRef.{TypeRef}
use Rattle.fm_cells.specs.Objects.{Object}
use Rattle.fm_cells.specs.Stores.{object_at, Store}
use Rattle.fm_frames.specs.Sights.{type_numbered}
use Rattle.fm_frames.specs.States.{Frame, State}
use Rattle.fm_rapid.specs.Reach.{IsClosed}
use Rattle.fm_world.specs.Programs.{class_of_type, Outline, Program}

-- the type's class is in the set; an array has none
abbrev pub IsMadeType : List Bool → TypeRef → Type 0
IsMadeType made t = IfSome (class_of_type t) (λ class. has made class ≡ true)

-- each object that is held is of such a type
abbrev pub HoldsMade : Outline → List Bool → Store → Type 0
HoldsMade o made store = (cell : ℕ) (object : Object) → object_at store cell ≡ Some object → IsMadeType made (type_numbered o object.class)

-- each frame is of a method of the set
abbrev pub AreOfMethods : List Bool → List Frame → Type 0
AreOfMethods methods frames = AllByRecursion (λ (f : Frame). has methods f.method ≡ true) frames

-- the frames and the objects of the state are
pub record IsInReach (o : Outline) (methods made : List Bool) (x : State) : Type 0 where
  pub frames : AreOfMethods methods x.frames
  pub objects : HoldsMade o made x.areas.store

-- ---- by what a program is narrowed to

-- there are closed sets whose classes these are
abbrev pub ClosedBy : Program → Option (List Bool) → Type 0
ClosedBy p None = Unit {0}
ClosedBy p (Some made) = (methods : List Bool) × IsClosed p methods made

-- so it is of a program that is narrowed
abbrev pub HasClosedSets : Program → Type 0
HasClosedSets p = ClosedBy p p.made

-- the state is within closed sets whose classes these are
abbrev pub ReachedBy : Program → Option (List Bool) → State → Type 0
ReachedBy p None x = Unit {0}
ReachedBy p (Some made) x = (methods : List Bool) × IsClosed p methods made × IsInReach p.outline methods made x

-- so it is of a state of a program that is narrowed
abbrev pub IsReached : Program → State → Type 0
IsReached p x = ReachedBy p p.made x
