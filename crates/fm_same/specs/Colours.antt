-- Colours: a region for each object by its birth, such that what a frame holds has the region of the node that holds it, and objects that lead to one
-- another are of one region. That objects are reached from elsewhere only as far as the analysis of classes says is then a matter of three lines.
use Rattle.std.specs.Prelude.{◌≡◌, ℕ, ◌-◌, ◌⊎◌, true, false, List, [], ◌∷◌, length, Some, slice_get}
use Rattle.std.specs.List.{slice_index_or}
use Rattle.fm_base.specs.declared.kinds.Kind.TheVariants as kind
use Rattle.fm_base.specs.declared.kinds.TypeRef.{TypeRef}
use Rattle.fm_cells.specs.Objects.{Object}
use Rattle.fm_cells.specs.Soundness.{IsOrderly}
use Rattle.fm_cells.specs.Stores.{Store, object_at}
use Rattle.fm_conn.specs.Facts.{Facts}
use Rattle.fm_conn.specs.Nodes.{Node, Local, Slot}
use Rattle.fm_world.specs.Programs.{Outline, Program}
use Rattle.fm_frames.specs.States.{Areas, Frame, State}
use Rattle.fm_frames.specs.declared.values.Value.{Value}
use Rattle.fm_frames.specs.declared.values.Value.TheVariants as value
use Rattle.fm_law_sound.specs.Placing.{kind_in}
use Rattle.fm_same.specs.Regions.{Region, Everywhere, region}

-- a region for each number of a birth
abbrev pub Colour : Type 0
Colour = ℕ → Region

-- ---- references

-- a cell that is null's, or holds an object that lives for ever or has the region
pub data IsOf (store : Store) (colour : Colour) (r : Region) (cell : ℕ) : Type 0 where
  OfNull : cell ≡ 0 → IsOf store colour r cell
  OfObject : (object : Object) → object_at store cell ≡ Some object → (object.fixed ≡ true) ⊎ (colour object.birth ≡ r) → IsOf store colour r cell

-- a cell that is null's, or holds an object that lives for ever
pub data LivesForEver (store : Store) (cell : ℕ) : Type 0 where
  IsNull : cell ≡ 0 → LivesForEver store cell
  IsFixed : (object : Object) → object_at store cell ≡ Some object → object.fixed ≡ true → LivesForEver store cell

-- a value that is a number, or a reference to a cell of the region
abbrev pub HasColour : Store → Colour → Region → Value → Type 0
HasColour store colour r value.Top = Unit {0}
HasColour store colour r (value.Int n) = Unit {0}
HasColour store colour r (value.Long n) = Unit {0}
HasColour store colour r (value.Ref cell) = IsOf store colour r cell.0

-- ---- frames

-- the node of a word of the stack, counted from its top
abbrev pub node_of_word : Frame → ℕ → Node
node_of_word f n = Slot f.item (length f.stack - 1 - n)

-- the region of a node of the frame that lies on these
abbrev pub region_of : Outline → Facts → Frame → List Frame → Node → Region
region_of o facts f callers node = region o facts f.method callers (facts.class f.method node)

-- each live local and each word of the stack has the region of its node
pub record IsFrameColoured (o : Outline) (facts : Facts) (store : Store) (colour : Colour) (f : Frame) (callers : List Frame) : Type 0 where
  pub locals : (k : ℕ) (v : Value) → slice_get f.locals k ≡ Some v → facts.live f.method k f.item ≡ true
      → HasColour store colour (region_of o facts f callers (Local k)) v
  pub words : (n : ℕ) (v : Value) → slice_get f.stack n ≡ Some v → HasColour store colour (region_of o facts f callers (node_of_word f n)) v

-- of a frame and of all below it
abbrev pub AreFramesColoured : Outline → Facts → Store → Colour → List Frame → Type 0
AreFramesColoured o facts store colour [] = Unit {0}
AreFramesColoured o facts store colour (f ∷ callers) =
    IsFrameColoured o facts store colour f callers × AreFramesColoured o facts store colour callers

-- ---- what frames share

-- a place for references of an object that doesn't live for ever, and leads to what has the object's own region
pub record IsEdgeEven (store : Store) (colour : Colour) (object : Object) (place : ℕ) : Type 0 where
  pub not_fixed : object.fixed ≡ false
  pub even : IsOf store colour (colour object.birth) (slice_index_or object.elements place 0)

-- static fields lead to what is everywhere; objects to objects of their region, whether anything leads to them or not; and literals live for ever
pub record AreAreasColoured (o : Outline) (colour : Colour) (x : Areas) : Type 0 where
  pub orderly : IsOrderly x.store
  pub statics : (slot : ℕ) (v : Value) → slice_get x.statics slot ≡ Some v → HasColour x.store colour Everywhere v
  pub edges : (cell : ℕ) (object : Object) → object_at x.store cell ≡ Some object → (place : ℕ) (t : TypeRef)
      → kind_in o object place ≡ Some (kind.Ref t) → IsEdgeEven x.store colour object place
  pub literals : (text : ℕ) → LivesForEver x.store (slice_index_or x.literals text 0)

-- ---- a state

-- its frames and its areas
pub record Coloured (p : Program) (facts : Facts) (x : State) (colour : Colour) : Type 0 where
  pub frames : AreFramesColoured p.outline facts x.areas.store colour x.frames
  pub areas : AreAreasColoured p.outline colour x.areas
