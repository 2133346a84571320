-- What a holder of a frame holds: null, what lives for ever, or an object of the region of its
-- class, which nothing else in the frame holds or still has to initialise.
use Rattle.std.specs.Prelude.{◌≡◌, ◌≢◌, ℕ, false, true, length, Some, slice_get, ◌<◌, List}
use Rattle.fm_cells.specs.Objects.{Object}
use Rattle.fm_cells.specs.Stores.{object_at, Store}
use Rattle.fm_code.specs.declared.code_array.Code.{Code}
use Rattle.fm_conn.specs.Facts.{Facts}
use Rattle.fm_place.specs.Insertions.{Holder, Insertions}
use Rattle.fm_place.specs.Woven.{local_of}
use Rattle.fm_types.specs.States.{TypeState}
use Rattle.fm_types.specs.declared.slots.Slot.TheVariants as slot
use Rattle.fm_frames.specs.Acts.{cell_of}
use Rattle.fm_frames.specs.States.{Frame, null, word_at}
use Rattle.fm_frames.specs.declared.values.Value.{Value}
use Rattle.fm_law_no_fault.specs.Whole.{lowest}
use Rattle.fm_same.specs.Colours.{Colour}
use Rattle.fm_same.specs.Regions.{Own}

-- the value of a holder for a class of a frame that has this many others below it
pub data Holding (store : Store) (colour : Colour) (depth class : ℕ) (v : Value) : Type 0 where
  HoldsNull : v ≡ null → Holding store colour depth class v
  HoldsFixed : (object : Object) → object_at store (cell_of v) ≡ Some object → object.fixed ≡ true → Holding store colour depth class v
  HoldsOwn : (object : Object) → object_at store (cell_of v) ≡ Some object → object.fixed ≡ false → colour object.birth ≡ Own depth class
      → Holding store colour depth class v

-- the value leads to an object of this birth that may be freed
pub record HoldsFreeable (store : Store) (v : Value) (birth : ℕ) : Type 0 where
  pub object : Object
  pub held : object_at store (cell_of v) ≡ Some object
  pub not_fixed : object.fixed ≡ false
  pub birth_is : object.birth ≡ birth

-- the object in the cell, if there is one, has another birth
abbrev pub HasOther : Store → (birth cell : ℕ) → Type 0
HasOther store birth cell = (object : Object) → object_at store cell ≡ Some object → object.birth ≢ birth

-- so it is of each live local and each word of the frame that the checker has for the object of a `new`
pub record IsUnshared (facts : Facts) (store : Store) (known : TypeState) (f : Frame) (birth : ℕ) : Type 0 where
  pub in_locals : (k item : ℕ) (v : Value) → slice_get known.locals k ≡ Some (slot.Uninit item) → slice_get f.locals k ≡ Some v
      → facts.live f.method k f.item ≡ true → HasOther store birth (cell_of v)
  pub in_stack : (n item : ℕ) (v : Value) → slice_get (lowest (length f.stack) known.stack) n ≡ Some (slot.Uninit item)
      → slice_get f.stack n ≡ Some v → HasOther store birth (cell_of v)

-- ---- all holders of a frame

-- the value of a holder by its number: its local lies behind those of the method
abbrev pub holder_value : Code → List Value → ℕ → Value
holder_value code locals h = word_at locals (local_of code h)

-- Each holder has what it may hold by these colours, no two of them lead to one object that may be freed, and to none of these leads what the frame of the
-- first program, on its own memory, still has to initialise.
pub record HoldersHold (facts : Facts) (colour : Colour) (one : Store) (known : TypeState) (f : Frame) (depth : ℕ) (store : Store) (code : Code) (plan : Insertions) (locals : List Value) : Type 0 where
  pub holds : (h : ℕ) (holder : Holder) → slice_get plan.holders h ≡ Some holder → Holding store colour depth holder.class (holder_value code locals h)
  pub apart : (h other birth : ℕ) → h < length plan.holders → other < length plan.holders → HoldsFreeable store (holder_value code locals h) birth
      → HoldsFreeable store (holder_value code locals other) birth → h ≡ other
  pub unshared : (h birth : ℕ) → h < length plan.holders → HoldsFreeable store (holder_value code locals h) birth → IsUnshared facts one known f birth
