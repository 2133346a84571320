-- Between matched states the objects of the first run are those of the second one under other cells, but for what is retired (JVMS 2.7).
use Rattle.std.specs.Prelude.{◌≡◌, ℕ, suc, ◌+◌, ◌≤◌, ◌⊎◌, true, length, Option, Some, slice_get}
use Rattle.std.specs.List.{AllZip, slice_index_or}
use Rattle.fm_base.specs.declared.kinds.Kind.{Kind}
use Rattle.fm_base.specs.declared.kinds.Kind.TheVariants as kind
use Rattle.fm_cells.specs.Objects.{Object}
use Rattle.fm_cells.specs.Stores.{object_at, Store}
use Rattle.fm_conn.specs.Facts.{Facts}
use Rattle.fm_world.specs.Programs.{Outline}
use Rattle.fm_frames.specs.States.{Frame, State, word_at}
use Rattle.fm_frames.specs.declared.values.Value.{Value}
use Rattle.fm_same.specs.DeadRegions.{IsRetired}
use Rattle.fm_law_sound.specs.Placing.{kind_in}
use Rattle.fm_law_two_memories.specs.Pairing.{AreTwins, none_gone, SameCell, SameValue}
use Rattle.fm_law_same_runs.specs.Beside.{Beside}

-- ---- what is retired

-- before the k-th state of the first run the object of that birth was retired: a captured class of an activation led to it, and by then the class isn't busy, or
-- the activation is gone
pub record WasRetired (facts : Facts) (b : Beside) (k birth : ℕ) : Type 0 where
  pub method : ℕ
  pub depth : ℕ
  pub class : ℕ
  pub first : ℕ
  pub count : ℕ
  pub retired : IsRetired b.one facts (λ j. (b.xs j).state) method depth class birth first count
  pub before : first + suc count ≤ k

-- ---- objects

-- an element of an object leads to one that is retired
pub record LeadsToRetired (Retired : ℕ → Type 0) (store : Store) (element : ℕ) : Type 0 where
  pub object : Object
  pub held : object_at store element ≡ Some object
  pub retired : Retired object.birth

-- elements at a place of this kind: equal numbers, or references that correspond to each other, but
-- for one to what is retired
abbrev pub SameOrRetired : (ℕ → Type 0) → Store → Store → Option Kind → ℕ → ℕ → Type 0
SameOrRetired Retired one other (Some (kind.Ref t)) element twin = SameCell none_gone one other element twin ⊎ LeadsToRetired Retired one element
SameOrRetired Retired one other k element twin = twin ≡ element

-- the object in the cell of the second store is that of the first one's, under another cell
pub record IsRenamed (o : Outline) (Retired : ℕ → Type 0) (one other : Store) (object twin : Object) : Type 0 where
  pub class : twin.class ≡ object.class
  pub birth : twin.birth ≡ object.birth
  pub len : length twin.elements ≡ length object.elements
  pub elements : (place : ℕ) → SameOrRetired Retired one other (kind_in o object place)
      (slice_index_or object.elements place 0) (slice_index_or twin.elements place 0)

-- a cell of the second store to which the object's cell is renamed
pub record HasName (o : Outline) (Retired : ℕ → Type 0) (one other : Store) (object : Object) : Type 0 where
  pub cell : ℕ
  pub twin : Object
  pub held : object_at other cell ≡ Some twin
  pub renamed : IsRenamed o Retired one other object twin

-- ---- frames

-- live locals and all words of the stack are the same under the renaming
pub record IsFrameRenamed (facts : Facts) (one other : Store) (f g : Frame) : Type 0 where
  pub method : g.method ≡ f.method
  pub locals : (k : ℕ) (v : Value) → slice_get f.locals k ≡ Some v → facts.live f.method k f.item ≡ true → SameValue none_gone one other v (word_at g.locals k)
  pub stack : AllZip (SameValue none_gone one other) f.stack g.stack

-- ---- states

-- Each object that isn't retired has a cell in the second store, objects of two cells have two, and what frames and static fields hold is the same.
pub record AreRenamed (o : Outline) (facts : Facts) (Retired : ℕ → Type 0) (x y : State) : Type 0 where
  pub objects : (cell : ℕ) (object : Object) → object_at x.areas.store cell ≡ Some object
      → Retired object.birth ⊎ HasName o Retired x.areas.store y.areas.store object
  pub apart : (cell second twin : ℕ) → AreTwins x.areas.store y.areas.store cell twin → AreTwins x.areas.store y.areas.store second twin → cell ≡ second
  pub frames : AllZip (IsFrameRenamed facts x.areas.store y.areas.store) x.frames y.frames
  pub statics : AllZip (SameValue none_gone x.areas.store y.areas.store) x.areas.statics y.areas.statics

-- this holds of matched states of two runs
abbrev pub StatesAreRenamed : Facts → Beside → (k l : ℕ) → Type 0
StatesAreRenamed facts b k l = AreRenamed b.one.outline facts (WasRetired facts b k) (b.xs k).state (b.ys l).state
