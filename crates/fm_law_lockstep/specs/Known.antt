-- What is known of the states of the first program: their colours, where objects were made, and that nothing faults.
use Rattle.std.specs.Prelude.{◌≡◌, ℕ, ◌<◌, true, false, length, Some, None}
use Rattle.fm_cells.specs.Choices.{lawful}
use Rattle.fm_cells.specs.Objects.{Object}
use Rattle.fm_cells.specs.Stores.{object_at}
use Rattle.fm_conn.specs.Facts.{AreFacts, Facts}
use Rattle.fm_frames.specs.Acts.{Choose}
use Rattle.fm_frames.specs.States.{State}
use Rattle.fm_frames.specs.Steps.{step}
use Rattle.fm_law_held_objects.specs.Above.{AreForNoneAbove}
use Rattle.fm_law_held_objects.specs.Clean.{IsClean}
use Rattle.fm_law_holders.specs.Uninitialised.{AreMade, Made, made_after}
use Rattle.fm_law_no_fault.specs.CellsResolved.{CellsAreResolved}
use Rattle.fm_law_no_fault.specs.Whole.{HasNoFault, IsWholeBy}
use Rattle.fm_law_reached.specs.Reached.{HasClosedSets, IsReached}
use Rattle.fm_law_sound.specs.Making.{MakesFew}
use Rattle.fm_law_two_memories.specs.Pairing.{Gone}
use Rattle.fm_law_two_memories.specs.Runs.{IsWithoutFrees}
use Rattle.fm_law_two_memories.specs.Seeing.{SeesNothingGone}
use Rattle.fm_same.specs.Advances.{GoesOver}
use Rattle.fm_same.specs.Colours.{Colour, Coloured}
use Rattle.fm_same.specs.Covering.{CoversAt}
use Rattle.fm_same.specs.Regions.{Own, Retired}
use Rattle.fm_same.specs.Resolved.{IsResolved}
use Rattle.fm_same.specs.Standing.{Stand}
use Rattle.fm_same.specs.Targets.{AreCovered}
use Rattle.fm_world.specs.Programs.{Program}

-- what linking makes sure of, and which classes are made
pub record IsLinked (p : Program) (facts : Facts) : Type 0 where
  pub exact : AreFacts p facts
  pub resolved : IsResolved p
  pub cells : CellsAreResolved p
  -- where the program is narrowed, its classes are those of closed sets
  pub closed : HasClosedSets p
  pub without : IsWithoutFrees p facts.typing

-- A state with these colours, and these items at which objects were made. No object has an own region of a frame that isn't there, and what a frame still has
-- to initialise has none of a frame above it.
pub record IsKnown (p : Program) (facts : Facts) (x : State) (colour : Colour) (made : Made) : Type 0 where
  pub coloured : Coloured p facts x colour
  pub covered : AreCovered p facts x.frames
  pub whole : IsWholeBy p facts.typing x
  pub reached : IsReached p x
  pub no_fault : HasNoFault x
  pub made_at : AreMade facts.typing x made
  pub clean : IsClean (length x.frames) colour
  pub for_none_above : AreForNoneAbove facts.typing x.areas.store colour x.frames

-- The next state goes on from it: of the colours that go on, own regions of frames that aren't there any longer are given up.
pub record IsKnownOn (p : Program) (facts : Facts) (x next : State) (colour : Colour) (made : Made) : Type 0 where
  pub over : GoesOver p facts x next colour
  pub fewer : Colour
  pub stays : (birth depth class : ℕ) → depth < length next.frames → over.other birth ≡ Own depth class → fewer birth ≡ over.other birth
  pub still : (birth : ℕ) → over.other birth ≡ Retired → fewer birth ≡ Retired
  pub known : IsKnown p facts next fewer (made_after x made)

-- each step, unless it makes an object of too many words, leads to no fault, and to such a state if the run goes on
abbrev pub StepsStayKnown : Type 0
StepsStayKnown =
    (p : Program) (facts : Facts) → IsLinked p facts → (choose : Choose) (x : State) (colour : Colour) (made : Made) → MakesFew p x
    → IsKnown p facts x colour made → HasNoFault (step p (lawful choose) x).state
    × (x.ended ≡ None → (step p (lawful choose) x).state.ended ≡ None → IsKnownOn p facts x (step p (lawful choose) x).state colour made)

-- and of such a state the laws of colours may be used: its frames are as these require
abbrev pub KnownStatesStand : Type 0
KnownStatesStand =
    (p : Program) (facts : Facts) → IsLinked p facts → (x : State) (colour : Colour) (made : Made) → IsKnown p facts x colour made
    → Stand p facts x.frames × CoversAt p facts x x.frames

-- ---- what is seen

-- the next step sees nothing that is gone, where all of that is retired
abbrev pub RetiredIsUnseen : Type 0
RetiredIsUnseen =
    (p : Program) (facts : Facts) → IsWithoutFrees p facts.typing → (x : State) (colour : Colour) (gone : Gone) → Coloured p facts x colour
    → ((birth : ℕ) → gone.births birth ≡ true → colour birth ≡ Retired)
    → ((cell : ℕ) (object : Object) → object_at x.areas.store cell ≡ Some object → gone.births object.birth ≡ true → object.fixed ≡ false)
    → SeesNothingGone gone p.outline x
