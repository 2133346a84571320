-- Objects that aren't initialised: each place that the checker has for the object of a `new` leads
-- to an object that was made at the item of this `new`, whether the place is live or not (JVMS 4.10.1.4, 4.10.2.4).
use Rattle.std.specs.Prelude.{◌≡◌, ◌≢◌, ℕ, ◌<◌, true, false, List, [], ◌∷◌, length, Some, slice_get, nat_lt, if◌then◌else◌}
use Rattle.std.specs.List.{AllByRecursion, AllZip}
use Rattle.fm_cells.specs.Objects.{Object}
use Rattle.fm_cells.specs.Stores.{object_at, Store}
use Rattle.fm_conn.specs.Facts.{Facts}
use Rattle.fm_types.specs.States.{TypeState}
use Rattle.fm_types.specs.Typed.{state_at}
use Rattle.fm_types.specs.declared.slots.Slot.{Slot}
use Rattle.fm_types.specs.declared.slots.Slot.TheVariants as slot
use Rattle.fm_frames.specs.Acts.{cell_of}
use Rattle.fm_frames.specs.States.{Frame, State}
use Rattle.fm_frames.specs.declared.values.Value.{Value}
use Rattle.fm_same.specs.Colours.{Colour}
use Rattle.fm_same.specs.Regions.{Own}
use Rattle.fm_law_sound.specs.Sound.{Typings}
use Rattle.fm_law_no_fault.specs.Whole.{lowest}

-- for the number of each birth the item at which a frame then was, the topmost one
abbrev pub Made : Type 0
Made = ℕ → ℕ

-- where the births from this number on were at this item
abbrev pub made_from : Made → (births item : ℕ) → Made
made_from made births item = λ birth. if nat_lt birth births then made birth else item

-- the item of the topmost frame
abbrev pub item_of : State → ℕ
item_of x = of_frames x.frames where
  of_frames : List Frame → ℕ
  of_frames [] = 0
  of_frames (f ∷ callers) = f.item

-- the items of births after a step of this state
abbrev pub made_after : State → Made → Made
made_after x made = made_from made x.areas.store.births (item_of x)

-- an object lies in the cell that was made at the item, and that doesn't live for ever
pub record IsMadeAt (store : Store) (made : Made) (item cell : ℕ) : Type 0 where
  pub object : Object
  pub held : object_at store cell ≡ Some object
  pub born : object.birth < store.births
  pub made_is : made object.birth ≡ item
  pub not_fixed : object.fixed ≡ false

-- where the checker has the object of a `new`, its item made the object to which the value leads
abbrev pub ValueIsMade : Store → Made → Slot → Value → Type 0
ValueIsMade store made (slot.Uninit item) v = IsMadeAt store made item (cell_of v)
ValueIsMade store made s v = Unit {0}

-- the same of all locals and words of a frame, by what is known of them
pub record AreMadeIn (store : Store) (made : Made) (known : TypeState) (f : Frame) : Type 0 where
  pub in_locals : AllZip (ValueIsMade store made) known.locals f.locals
  pub in_stack : AllZip (ValueIsMade store made) (lowest (length f.stack) known.stack) f.stack

-- by the state of its item
abbrev pub FrameIsMade : Typings → Store → Made → Frame → Type 0
FrameIsMade typings store made f =
    (known : TypeState) → state_at (typings f.method) f.item ≡ Some known → AreMadeIn store made known f

-- of all frames of a state
abbrev pub AreMade : Typings → State → Made → Type 0
AreMade typings x made = AllByRecursion (FrameIsMade typings x.areas.store made) x.frames

-- ---- regions of frames above

-- the object in the cell has no own region of a frame above this depth
pub record IsBelow (store : Store) (colour : Colour) (depth cell : ℕ) : Type 0 where
  pub object : Object
  pub held : object_at store cell ≡ Some object
  pub below : (d class : ℕ) → depth < d → colour object.birth ≢ Own d class

-- to such objects lead each live local and each word that the checker has for the object of a `new`
pub record AreBelowIn (facts : Facts) (store : Store) (colour : Colour) (depth : ℕ) (known : TypeState) (f : Frame) : Type 0 where
  pub locals : (k item : ℕ) (v : Value) → slice_get known.locals k ≡ Some (slot.Uninit item) → slice_get f.locals k ≡ Some v
      → facts.live f.method k f.item ≡ true → IsBelow store colour depth (cell_of v)
  pub words : (n item : ℕ) (v : Value) → slice_get (lowest (length f.stack) known.stack) n ≡ Some (slot.Uninit item) → slice_get f.stack n ≡ Some v
      → IsBelow store colour depth (cell_of v)

-- of each frame by its depth and the state of its item
abbrev pub FramesAreBelow : Facts → Store → Colour → List Frame → Type 0
FramesAreBelow facts store colour [] = Unit {0}
FramesAreBelow facts store colour (f ∷ callers) =
    ((known : TypeState) → state_at (facts.typing f.method) f.item ≡ Some known → AreBelowIn facts store colour (length callers) known f)
    × FramesAreBelow facts store colour callers
