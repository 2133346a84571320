-- The cells to which a state leads are numbers of 32 bits, as those of held objects are: no reference of a state is made but by taking over one that was
-- there, or one to an object that the step made.
use Rattle.std.specs.Prelude.{◌≡◌, ℕ, ◌^◌, ◌<◌, Some, slice_index_or}
use Rattle.std.specs.List.{All}
use Rattle.fm_base.specs.declared.kinds.Kind.TheVariants as kind
use Rattle.fm_base.specs.declared.kinds.TypeRef.{TypeRef}
use Rattle.fm_cells.specs.Objects.{Object}
use Rattle.fm_cells.specs.Stores.{object_at}
use Rattle.fm_world.specs.Programs.{Outline, Program}
use Rattle.fm_frames.specs.Acts.{cell_of}
use Rattle.fm_frames.specs.States.{Areas, Frame, State}
use Rattle.fm_frames.specs.declared.values.Value.{Value}
use Rattle.fm_law_sound.specs.Placing.{kind_in}

-- the cell of a reference, and that of a null or a number is 0
abbrev pub LeadsWithin : Value → Type 0
LeadsWithin v = cell_of v < 2 ^ 32

-- the locals and the words of a frame
pub record FrameLeadsWithin (f : Frame) : Type 0 where
  pub locals : All LeadsWithin f.locals
  pub stack : All LeadsWithin f.stack

-- the chain of an object, and each element where a reference is
pub record ObjectLeadsWithin (o : Outline) (object : Object) : Type 0 where
  pub chain : object.chain < 2 ^ 32
  pub elements : (place : ℕ) (t : TypeRef) → kind_in o object place ≡ Some (kind.Ref t) → slice_index_or object.elements place 0 < 2 ^ 32

-- the static fields, the literals, and each object that is held
pub record AreasLeadWithin (o : Outline) (x : Areas) : Type 0 where
  pub statics : All LeadsWithin x.statics
  pub literals : All (λ cell. cell < 2 ^ 32) x.literals
  pub heap : (cell : ℕ) (object : Object) → object_at x.store cell ≡ Some object → ObjectLeadsWithin o object

-- the frames, and what they share
pub record HoldsCells (p : Program) (x : State) : Type 0 where
  pub frames : All FrameLeadsWithin x.frames
  pub areas : AreasLeadWithin p.outline x.areas
