-- What the second memory frees where a frame frees some of its holders: what they had, and is gone from then on.
use Rattle.std.specs.Prelude.{◌≡◌, ◌≢◌, ◌+◌, ◌⊎◌, ℕ, Bool, true, List, Some, Contains, slice_get}
use Rattle.std.specs.List.{AllZip}
use Rattle.fm_cells.specs.Stores.{Store}
use Rattle.fm_code.specs.declared.code_array.Code.{Code}
use Rattle.fm_conn.specs.Facts.{Facts}
use Rattle.fm_frames.specs.States.{Areas, Frame, State}
use Rattle.fm_frames.specs.declared.values.Value.{Value}
use Rattle.fm_law_held_objects.specs.Contents.{Has}
use Rattle.fm_law_held_objects.specs.Held.{AreHeld, HolderHas}
use Rattle.fm_law_sound.specs.Sound.{Typings}
use Rattle.fm_law_two_memories.specs.Pairing.{AreasPaired, FramesPaired, Gone}
use Rattle.fm_place.specs.Insertions.{Holder, Insertions}
use Rattle.fm_same.specs.Colours.{Colour, Coloured}
use Rattle.fm_same.specs.Regions.{Own, Retired}
use Rattle.fm_world.specs.Programs.{Outline, Program}

-- the birth is of the region of a holder among these
pub record IsOfHolder (colour : Colour) (depth : ℕ) (plan : Insertions) (hs : List ℕ) (birth : ℕ) : Type 0 where
  pub number : ℕ
  pub among : Contains hs number
  pub holder : Holder
  pub is : slice_get plan.holders number ≡ Some holder
  pub own : colour birth ≡ Own depth holder.class

-- one of these holders has the object of this birth
pub record IsHadBy (store : Store) (code : Code) (plan : Insertions) (locals : List Value) (hs : List ℕ) (birth : ℕ) : Type 0 where
  pub number : ℕ
  pub among : Contains hs number
  pub has : HolderHas store code plan locals number birth

-- The second memory's areas lead to later ones, and a frame's locals to others, where it frees these holders: more is gone, which was of the regions of these
-- holders and was what they had, and its words are what was freed; the memories and all frames stay paired, and holders held, those of this frame and those of
-- other frames. What a value leads to then it led to before.
pub record HoldersAreFreed (o : Outline) (typings : Typings) (x : State) (colour : Colour) (depth : ℕ) (code : Code) (plan : Insertions) (hs : List ℕ) (gone : Gone) (y later : Areas) (before locals : List Value) : Type 0 where
  pub more : Gone
  pub paired : AreasPaired more o x.areas later
  pub frames : (fs gs : List Frame) → AllZip (FramesPaired gone x.areas.store y.store) fs gs → AllZip (FramesPaired more x.areas.store later.store) fs gs
  pub was : (birth : ℕ) → more.births birth ≡ true → (gone.births birth ≡ true) ⊎ IsOfHolder colour depth plan hs birth
  pub had : (birth : ℕ) → more.births birth ≡ true → (gone.births birth ≡ true) ⊎ IsHadBy y.store code plan before hs birth
  pub stays : (birth : ℕ) → gone.births birth ≡ true → more.births birth ≡ true
  pub words : later.freed_words + gone.words ≡ y.freed_words + more.words
  pub held : AreHeld typings x colour depth later.store code plan locals
  pub others : (other : ℕ) (second : Code) (inserted : Insertions) (values : List Value) → other ≢ depth
      → AreHeld typings x colour other y.store second inserted values → AreHeld typings x colour other later.store second inserted values
  pub back : (looped : Bool) (v : Value) (birth : ℕ) → Has looped later.store v birth → Has looped y.store v birth

-- colours in which what has the regions of these holders is retired, and the rest is as it was
pub record AreRetired (p : Program) (facts : Facts) (x : State) (colour : Colour) (depth : ℕ) (plan : Insertions) (hs : List ℕ) : Type 0 where
  pub other : Colour
  pub coloured : Coloured p facts x other
  pub retired : (birth : ℕ) → IsOfHolder colour depth plan hs birth → other birth ≡ Retired
  pub or_same : (birth : ℕ) → (other birth ≡ colour birth) ⊎ IsOfHolder colour depth plan hs birth
