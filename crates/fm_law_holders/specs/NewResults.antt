-- Where control goes on behind a site, its result is null, lives for ever, or is an object that no
-- holder of any frame has: of such an object no one heard before.
use Rattle.std.specs.Prelude.{◌≡◌, ◌≢◌, ℕ, suc, ◌+◌, ◌≤◌, false, true, List, ◌∷◌, length, Some, slice_get}
use Rattle.fm_cells.specs.Objects.{Object}
use Rattle.fm_cells.specs.Stores.{object_at, Store}
use Rattle.fm_conn.specs.Facts.{Facts}
use Rattle.fm_types.specs.States.{TypeState}
use Rattle.fm_types.specs.Typed.{state_at}
use Rattle.fm_types.specs.declared.slots.Slot.TheVariants as slot
use Rattle.fm_world.specs.Programs.{Program}
use Rattle.fm_frames.specs.Acts.{cell_of}
use Rattle.fm_frames.specs.Effects.{Falls, Returns}
use Rattle.fm_frames.specs.States.{Frame, State}
use Rattle.fm_frames.specs.Steps.{is_start, next_effect}
use Rattle.fm_frames.specs.declared.values.Value.{Value}
use Rattle.fm_law_no_fault.specs.Whole.{lowest}
use Rattle.fm_same.specs.Colours.{Colour, LivesForEver}
use Rattle.fm_same.specs.Regions.{Own}

-- ---- behind an item

-- The next step of a state goes on in a frame, which lies on these, behind the frame's item: either the frame is the topmost one and its instruction is done,
-- or it called the topmost one, which returns. An exception goes on elsewhere, even where its handler comes next.
pub data GoesOnBehind (p : Program) (x : State) (f : Frame) (callers : List Frame) : Type 0 where
  IsDone : x.frames ≡ f ∷ callers → (next_effect p x).next ≡ Falls → GoesOnBehind p x f callers
  IsReturnedTo : (above : Frame) (words : ℕ) → x.frames ≡ above ∷ f ∷ callers → is_start p.outline above.method ≡ false
      → (next_effect p x).next ≡ Returns words → GoesOnBehind p x f callers

-- ---- what isn't initialised

-- no live local and no word of the frame that the checker has for the object of a `new` leads to the cell (JVMS 4.10.2.4)
pub record IsApart (facts : Facts) (known : TypeState) (f : Frame) (cell : ℕ) : Type 0 where
  pub in_locals : (k item : ℕ) (v : Value) → slice_get known.locals k ≡ Some (slot.Uninit item) → slice_get f.locals k ≡ Some v
      → facts.live f.method k f.item ≡ true → cell_of v ≢ cell
  pub in_stack : (n item : ℕ) (v : Value) → slice_get (lowest (length f.stack) known.stack) n ≡ Some (slot.Uninit item)
      → slice_get f.stack n ≡ Some v → cell_of v ≢ cell

-- no local of the frame, live or not, that the checker has for the object of a `new` leads to the cell
abbrev pub LocalsAreApart : (known : TypeState) (f : Frame) (cell : ℕ) → Type 0
LocalsAreApart known f cell =
    (k item : ℕ) (v : Value) → slice_get known.locals k ≡ Some (slot.Uninit item) → slice_get f.locals k ≡ Some v → cell_of v ≢ cell

-- the object in the cell, if there is one, has no region of a frame right above the one with this many below it
abbrev pub IsNoCallees : Store → Colour → (depth cell : ℕ) → Type 0
IsNoCallees store colour depth cell =
    (object : Object) → object_at store cell ≡ Some object → (class : ℕ) → colour object.birth ≢ Own (suc depth) class

-- to such cells leads each local of the frame, live or not, that the checker has for the object of a `new`
abbrev pub LocalsAreNoCallees : (known : TypeState) (f : Frame) → Store → Colour → (depth : ℕ) → Type 0
LocalsAreNoCallees known f store colour depth =
    (k item : ℕ) (v : Value) → slice_get known.locals k ≡ Some (slot.Uninit item) → slice_get f.locals k ≡ Some v
    → IsNoCallees store colour depth (cell_of v)

-- a word of the frame that isn't initialised leads to the cell
pub record IsUnbuilt (known : TypeState) (f : Frame) (cell : ℕ) : Type 0 where
  pub place : ℕ
  pub item : ℕ
  pub slot_is : slice_get (lowest (length f.stack) known.stack) place ≡ Some (slot.Uninit item)
  pub value : Value
  pub value_is : slice_get f.stack place ≡ Some value
  pub leads : cell_of value ≡ cell

-- ---- what is new

-- What the frame has on top behind its site, by the state and the colours before the step: null, or what lives for ever; what was born in the step; what had a
-- region of the frame that returns; or what wasn't initialised.
pub data IsNew (x : State) (colour : Colour) (known : TypeState) (f : Frame) (depth : ℕ) (later : Store) (cell : ℕ) : Type 0 where
  IsHeldByAll : LivesForEver later cell → IsNew x colour known f depth later cell
  IsBorn : (object : Object) → object_at later cell ≡ Some object → x.areas.store.births ≤ object.birth → IsNew x colour known f depth later cell
  IsCallees : (object : Object) → object_at later cell ≡ Some object → (class : ℕ) → colour object.birth ≡ Own (suc depth) class
      → IsNew x colour known f depth later cell
  IsBuilt : IsUnbuilt known f cell → IsNew x colour known f depth later cell

-- each object that is held stays in its cell, with its chain
abbrev pub KeepsObjects : (store later : Store) → Type 0
KeepsObjects store later =
    (cell : ℕ) (object : Object) → object_at store cell ≡ Some object
    → (now : Object) × (object_at later cell ≡ Some now) × (now.birth ≡ object.birth) × (now.fixed ≡ object.fixed) × (now.chain ≡ object.chain)

-- the frame, with this stack, at the item behind its own
abbrev pub frame_behind : Frame → List Value → Frame
frame_behind f stack = record f { item = f.item + 1; stack = stack }

-- the next state has the frame behind its item, with a new result on top, and nothing live of the frame that isn't initialised leads to that, nor does what
-- isn't live, where that led to nothing of the frame that returns
pub record HasNewResult (facts : Facts) (x next : State) (colour : Colour) (known : TypeState) (f : Frame) (callers : List Frame) : Type 0 where
  pub result : Value
  pub below : List Value
  pub frames_are : next.frames ≡ frame_behind f (result ∷ below) ∷ callers
  pub kept : KeepsObjects x.areas.store next.areas.store
  pub new : IsNew x colour known f (length callers) next.areas.store (cell_of result)
  pub apart : (after : TypeState) → state_at (facts.typing f.method) (f.item + 1) ≡ Some after
      → IsApart facts after (frame_behind f (result ∷ below)) (cell_of result)
  pub dead_apart : LocalsAreNoCallees known f x.areas.store colour (length callers) → (after : TypeState)
      → state_at (facts.typing f.method) (f.item + 1) ≡ Some after → LocalsAreApart after (frame_behind f (result ∷ below)) (cell_of result)
