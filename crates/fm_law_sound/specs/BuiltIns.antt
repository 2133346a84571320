-- The words that the built-in methods take and give, and what their effects owe.
use Rattle.std.specs.Prelude.{◌≡◌, ℕ, Bool, true, false, List, [], ◌∷◌, ◌++◌, length}
use Rattle.fm_types.specs.declared.slots.Slot.{Slot}
use Rattle.fm_types.specs.declared.slots.Slot.TheVariants as slot
use Rattle.fm_world.specs.Programs.{Outline}
use Rattle.fm_frames.specs.Acts.{value_of}
use Rattle.fm_frames.specs.Effects.{Effect, Next, Falls, Throws, Exits, Faults, Source}
use Rattle.fm_frames.specs.Natives.{AGiven, AnObject, AShown, from_top, Given, has_receiver, native_type, Nothing, OwnObject, ClassLiteral, Returned, SomeChars}
use Rattle.fm_frames.specs.declared.natives.Native.{Native}
use Rattle.fm_frames.specs.declared.natives.Shown.{Shown}
use Rattle.fm_frames.specs.declared.natives.Shown.TheVariants.{Boolean as ShownBoolean, Char as ShownChar, Int as ShownInt, Long as ShownLong, Text as ShownText}
use Rattle.fm_frames.specs.States.{Areas, Frame}
use Rattle.std.specs.Prelude.{map}
use Rattle.fm_law_sound.specs.Leading.{sources_of}
use Rattle.fm_law_sound.specs.Sound.{HaveKinds, IsReference, static_slots}

-- a reference of whatever type: each has the kind of null
abbrev pub reference : Slot
reference = slot.Null

-- the words of what is shown, the topmost first
abbrev pub shown_slots : Shown → List Slot
shown_slots ShownInt = slot.Int ∷ []
shown_slots ShownLong = slot.Top ∷ slot.Long ∷ []
shown_slots ShownChar = slot.Int ∷ []
shown_slots ShownBoolean = slot.Int ∷ []
shown_slots ShownText = reference ∷ []

-- the words of a value: those of an object are a reference
abbrev pub given_slots : Given → List Slot
given_slots (AShown shown) = shown_slots shown
given_slots SomeChars = reference ∷ []
given_slots AnObject = reference ∷ []

-- with the receiver below them, where there is one
abbrev pub above_receiver : Bool → List Slot → List Slot
above_receiver true arguments = arguments ++ reference ∷ []
above_receiver false arguments = arguments

-- the words that a built-in method takes, the topmost first and the receiver last
abbrev pub native_slots : Native → List Slot
native_slots row = above_receiver (has_receiver row) (from_top given_slots (native_type row).arguments)

-- the words that are returned
abbrev pub returned_slots : Returned → List Slot
returned_slots Nothing = []
returned_slots (AGiven given) = given_slots given
returned_slots OwnObject = reference ∷ []
returned_slots ClassLiteral = reference ∷ []

-- the words that it gives
abbrev pub native_result : Native → List Slot
native_result row = returned_slots (native_type row).result

-- the sources give words of these slots, as long as static fields have their kinds
abbrev pub GivesSlots : Outline → Frame → List Slot → List Source → Type 0
GivesSlots o f slots gives =
    (areas : Areas) (made : List ℕ) → HaveKinds (static_slots o) areas.statics → HaveKinds slots (map (value_of (sources_of f areas made)) gives)

-- it goes on with its words taken and its result given, or throws a reference, or the run ends
abbrev pub NativeLeads : Outline → Frame → Native → Effect → Next → Type 0
NativeLeads o f row e Falls = (e.takes ≡ length (native_slots row)) × (e.writes ≡ []) × GivesSlots o f (native_result row) e.gives
NativeLeads o f row e (Throws s) = (areas : Areas) (made : List ℕ) → IsReference (value_of (sources_of f areas made) s)
NativeLeads o f row e (Exits n) = Unit {0}
NativeLeads o f row e (Faults s) = Unit {0}
NativeLeads o f row e other = ⊥
