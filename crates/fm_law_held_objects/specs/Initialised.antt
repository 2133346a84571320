-- Objects that are initialised: no place of any frame, live or not, is for one that still has to be (JVMS 4.10.2.4).
use Rattle.std.specs.Prelude.{◌≡◌, ◌<◌, ℕ, length, Some}
use Rattle.std.specs.List.{AllByRecursion, AllZip}
use Rattle.fm_cells.specs.Choices.{lawful}
use Rattle.fm_cells.specs.Stores.{Store}
use Rattle.fm_types.specs.States.{TypeState}
use Rattle.fm_types.specs.Typed.{state_at}
use Rattle.fm_types.specs.declared.slots.Slot.{Slot}
use Rattle.fm_types.specs.declared.slots.Slot.TheVariants as slot
use Rattle.fm_world.specs.Programs.{Program}
use Rattle.fm_frames.specs.Acts.{cell_of, Choose}
use Rattle.fm_frames.specs.States.{Frame, State}
use Rattle.fm_frames.specs.Steps.{step}
use Rattle.fm_frames.specs.declared.values.Value.{Value}
use Rattle.fm_law_holders.specs.Holding.{HasOther}
use Rattle.fm_law_holders.specs.Uninitialised.{AreMade, Made}
use Rattle.fm_law_no_fault.specs.CellsResolved.{CellsAreResolved}
use Rattle.fm_law_no_fault.specs.Whole.{IsWholeBy, lowest}
use Rattle.fm_law_sound.specs.Making.{MakesAreResolved, MakesFew}
use Rattle.fm_law_sound.specs.Resolved.{StepsAreResolved}
use Rattle.fm_law_sound.specs.Sound.{Typings}
use Rattle.fm_same.specs.Resolved.{CallsNoFreeMe, IsResolved}

-- where the checker has the object of a `new`, it isn't the one of this birth
abbrev pub IsNotFor : Store → (birth : ℕ) → Slot → Value → Type 0
IsNotFor store birth (slot.Uninit item) v = HasOther store birth (cell_of v)
IsNotFor store birth s v = Unit {0}

-- so it is of all locals and words of a frame, by what is known of them
pub record AreNotFor (store : Store) (birth : ℕ) (known : TypeState) (f : Frame) : Type 0 where
  pub in_locals : AllZip (IsNotFor store birth) known.locals f.locals
  pub in_stack : AllZip (IsNotFor store birth) (lowest (length f.stack) known.stack) f.stack

-- by the state of its item
abbrev pub FrameIsNotFor : Typings → Store → (birth : ℕ) → Frame → Type 0
FrameIsNotFor typings store birth f = (known : TypeState) → state_at (typings f.method) f.item ≡ Some known → AreNotFor store birth known f

-- the object of this birth is initialised, as far as all frames of the state go
abbrev pub IsInitialised : Typings → State → (birth : ℕ) → Type 0
IsInitialised typings x birth = AllByRecursion (FrameIsNotFor typings x.areas.store birth) x.frames

-- What is initialised stays so, by each step of a typed and linked program that calls no FreeMe, unless it makes an object of too many words.
abbrev pub StepsKeepInitialised : Type 0
StepsKeepInitialised =
    (p : Program) (typings : Typings) → IsResolved p → StepsAreResolved p → MakesAreResolved p → CellsAreResolved p → CallsNoFreeMe p → (choose : Choose) (x : State)
    (made : Made) → IsWholeBy p typings x → MakesFew p x → AreMade typings x made
    → (birth : ℕ) → birth < x.areas.store.births → IsInitialised typings x birth → IsInitialised typings (step p (lawful choose) x).state birth
