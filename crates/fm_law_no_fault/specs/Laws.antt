-- The laws that the functions of `laws` prove.
use Rattle.std.specs.Prelude.{◌≡◌, ℕ, ℤ, Some, slice_get, true, false, Bool, List, [], ◌∷◌, ◌++◌, drop, Option}
use Rattle.std.specs.List.{AllByRecursion, AllZip}
use Rattle.fm_base.specs.declared.kinds.TypeRef.{TypeRef}
use Rattle.fm_cells.specs.Choices.{lawful}
use Rattle.fm_cells.specs.Objects.{Object}
use Rattle.fm_cells.specs.Stores.{object_at, Store}
use Rattle.fm_code.specs.declared.instructions.Insn.{Insn}
use Rattle.fm_types.specs.Fits.{AreTree, fits, fits_type}
use Rattle.fm_types.specs.Named.{this_class, throwable_type}
use Rattle.fm_types.specs.States.{is_whole, state_fits, TypeState}
use Rattle.fm_types.specs.Typed.{made_at, use_by}
use Rattle.fm_types.specs.declared.slots.Slot.{Slot}
use Rattle.fm_types.specs.declared.slots.Slot.TheVariants as slot
use Rattle.fm_world.specs.Programs.{Outline, Program}
use Rattle.fm_frames.specs.Acts.{cell_of, Choose, performed}
use Rattle.fm_frames.specs.Effects.{Action, Effect}
use Rattle.fm_frames.specs.Operands.{on_int, on_long, on_object}
use Rattle.fm_frames.specs.Rows.{effect_of}
use Rattle.fm_frames.specs.Sights.{Looks, sight, sights, type_numbered}
use Rattle.fm_frames.specs.States.{Areas, Frame, State}
use Rattle.fm_frames.specs.Steps.{caught, continued, InFrames, stack_after, start_frames, step, written}
use Rattle.fm_frames.specs.declared.values.Value.{Value}
use Rattle.fm_law_sound.specs.Going.{IsGoingOn, StandsAtRow, StartsClass}
use Rattle.fm_law_sound.specs.Leading.{is_call, LeadsAs, sources_of}
use Rattle.fm_same.specs.Resolved.{CallsNoFreeMe, IsResolved}
use Rattle.fm_law_sound.specs.Making.{MakesAreResolved, MakesFew}
use Rattle.fm_law_sound.specs.Resolved.{MainIsReady, StepsAreResolved}
use Rattle.fm_law_sound.specs.Sound.{AreasAreSound, AreTyped, IsReference, StandBelow, StandsWithout, Typings}
use Rattle.fm_law_no_fault.specs.Catching.{CatchesFit}
use Rattle.fm_law_no_fault.specs.CellsResolved.{BuiltInsFit, CellsAreResolved}
use Rattle.fm_law_no_fault.specs.Doing.{ActsLead, LeavesWhole}
use Rattle.fm_law_no_fault.specs.NoFault.{NeverFaults, NeverFaultsWhileFew}
use Rattle.fm_law_no_fault.specs.Seen.{IsNoFault, SeesA}
use Rattle.fm_law_no_fault.specs.Whole.{AreasAreWhole, FrameFits, FrameIsWhole, HasNoFault, IsWholeBy, LeadsToA, WordFits}

-- what fits a state fits each state that this one fits, where no long is split: so it goes along each edge of a typing
abbrev pub FitsKeepsCells : Type 0
FitsKeepsCells =
    (o : Outline) → AreTree o.classes → (store : Store) (own : ℕ) (news : ℕ → Option TypeRef) (s other : TypeState)
    → is_whole s.stack ≡ true → is_whole other.stack ≡ true → state_fits o s other ≡ true
    → (locals stack : List Value) → FrameFits o store own news s locals stack → FrameFits o store own news other locals stack

-- of a reference that leads to null or to an object of a type that passes a test, just that is seen
abbrev pub ReferencesAreSeen : Type 0
ReferencesAreSeen =
    (o : Outline) (store : Store) (test : TypeRef → Bool) (v : Value) → IsReference v → LeadsToA o store test (cell_of v) → SeesA test (sight o store v)

-- What a row requires of a word holds where the checker has a slot that fits: it goes on with an
-- object of a type that fits, or throws for null, and neither an operand of another sort nor a cell
-- in which it can't be is met.
abbrev pub ObjectsAreAsAsked : Type 0
ObjectsAreAsAsked =
    (o : Outline) → AreTree o.classes → (store : Store) (own : ℕ) (news : ℕ → Option TypeRef) (slots : List Slot) (words : List Value)
    → AllZip (WordFits o store own news) slots words → (n : ℕ) (s : Slot) → slice_get slots n ≡ Some s → (t : TypeRef) → fits o s (slot.Ref t) ≡ true
    → (follows : Looks → Effect) → ((it : Looks) → fits_type o.classes it.type t ≡ true → IsNoFault (follows it).next)
    → IsNoFault (on_object o t (sights o store words) n follows).next

-- the same of ints
abbrev pub IntsAreAsAsked : Type 0
IntsAreAsAsked =
    (o : Outline) (store : Store) (own : ℕ) (news : ℕ → Option TypeRef) (slots : List Slot) (words : List Value)
    → AllZip (WordFits o store own news) slots words → (n : ℕ) (s : Slot) → slice_get slots n ≡ Some s → fits o s slot.Int ≡ true
    → (follows : ℤ → Effect) → ((i : ℤ) → IsNoFault (follows i).next) → IsNoFault (on_int (sights o store words) n follows).next

-- and of longs
abbrev pub LongsAreAsAsked : Type 0
LongsAreAsAsked =
    (o : Outline) (store : Store) (own : ℕ) (news : ℕ → Option TypeRef) (slots : List Slot) (words : List Value)
    → AllZip (WordFits o store own news) slots words → (n : ℕ) (s : Slot) → slice_get slots n ≡ Some s → fits o s slot.Long ≡ true
    → (follows : ℤ → Effect) → ((i : ℤ) → IsNoFault (follows i).next) → IsNoFault (on_long (sights o store words) n follows).next

-- Actions by which each place gets what fits it keep whole what the frames share, at each choice of a memory that reuses cells in any way.
abbrev pub ActionsKeepWhole : Type 0
ActionsKeepWhole =
    (o : Outline) (choose : Choose) (locals stack : List Value) (x : Areas) (actions : List Action) → AreasAreWhole o x
    → ActsLead o x.store stack [] actions → LeavesWhole o (performed o (lawful choose) locals stack actions x [])

-- ---- built-in classes

-- Built-in classes and methods are as required, in each linked program.
abbrev pub BuiltInsAreAsAsked : Type 0
BuiltInsAreAsAsked = (p : Program) → IsResolved p → BuiltInsFit p

-- ---- rows

-- No instruction but a call is a fault where the checker's row is met: it never meets an operand of another sort, or a cell in which it can't be.
abbrev pub PlainRowsAreNoFaults : Type 0
PlainRowsAreNoFaults =
    (p : Program) (typings : Typings) → AreTyped p typings → StepsAreResolved p → CellsAreResolved p
    → (x : Areas) → AreasAreSound p.outline x → AreasAreWhole p.outline x → (f : Frame) (i : Insn) (after : TypeState) → StandsAtRow p typings f i after
    → StandsWithout p typings 0 f → FrameIsWhole p typings x.store f → is_call i ≡ false → (byte : Option ℕ)
    → IsNoFault (effect_of p.outline f.method (use_by p f.method i) i byte (sights p.outline x.store f.stack)).next

-- Nor is a call, where the program calls no method of FreeMe: so no instruction is a fault.
abbrev pub RowsAreNoFaults : Type 0
RowsAreNoFaults =
    (p : Program) (typings : Typings) → AreTyped p typings → StepsAreResolved p → CellsAreResolved p → CallsNoFreeMe p
    → (x : Areas) → AreasAreSound p.outline x → AreasAreWhole p.outline x → (f : Frame) (i : Insn) (after : TypeState) → StandsAtRow p typings f i after
    → StandsWithout p typings 0 f → FrameIsWhole p typings x.store f → (byte : Option ℕ)
    → IsNoFault (effect_of p.outline f.method (use_by p f.method i) i byte (sights p.outline x.store f.stack)).next

-- ---- frames

-- A frame that goes on to the next item or to a target with what fits the state after its row is whole there, and the frames below it stay as they are.
abbrev pub GoingOnKeepsWhole : Type 0
GoingOnKeepsWhole =
    (p : Program) (typings : Typings) → AreTree p.outline.classes → AreTyped p typings
    → (f : Frame) (callers : List Frame) (i : Insn) (after : TypeState) (h : StandsAtRow p typings f i after)
    → (e : Effect) → IsGoingOn e.next → LeadsAs p.outline i after f e e.next → (areas : Areas) (made : List ℕ)
    → FrameFits p.outline areas.store (this_class p.outline f.method) (made_at p f.method h.code) after
    (written (sources_of f areas made) e.writes f.locals) (stack_after (sources_of f areas made) e f.stack)
    → AllByRecursion (FrameIsWhole p typings areas.store) callers
    → (x : State) → AllByRecursion (FrameIsWhole p typings areas.store) (continued p (sources_of f areas made) e f callers x).frames

-- A frame that calls another one stays whole without the words of the call.
abbrev pub WaitingKeepsWhole : Type 0
WaitingKeepsWhole =
    (p : Program) (typings : Typings) (store : Store) (f : Frame) (words : ℕ) → StandsWithout p typings 0 f → FrameIsWhole p typings store f
    → FrameIsWhole p typings store (record f { stack = drop words f.stack })

-- The frames of methods that start classes are whole.
abbrev pub StartingKeepsWhole : Type 0
StartingKeepsWhole =
    (p : Program) (typings : Typings) → AreTyped p typings → (store : Store) (methods : List ℕ)
    → AllByRecursion (StartsClass p) methods → (frames : List Frame) → AllByRecursion (FrameIsWhole p typings store) frames
    → AllByRecursion (FrameIsWhole p typings store) (start_frames p methods ++ frames)

-- And the frames after an exception, an object that fits Throwable, which one of them catches.
abbrev pub CatchingKeepsWhole : Type 0
CatchingKeepsWhole =
    (p : Program) → CatchesFit p → (t : TypeRef) → fits_type p.outline.classes t (throwable_type p.outline) ≡ true
    → (typings : Typings) → AreTree p.outline.classes → AreTyped p typings → (store : Store) (v : Value) → IsReference v
    → (object : Object) → object_at store (cell_of v) ≡ Some object → type_numbered p.outline object.class ≡ t
    → (f : Frame) (callers : List Frame) (words : ℕ) → StandsWithout p typings words f → StandBelow p typings f callers
    → AllByRecursion (FrameIsWhole p typings store) (f ∷ callers) → (frames : List Frame) → caught p t v (f ∷ callers) ≡ InFrames frames
    → AllByRecursion (FrameIsWhole p typings store) frames

-- ---- steps and runs

-- A step of a typed and linked program that calls no FreeMe leads from a whole state to a whole one, and never to a fault, unless it makes an object of too
-- many words, at each choice of a memory that reuses cells in any way.
abbrev pub StepsKeepWhole : Type 0
StepsKeepWhole =
    (p : Program) (typings : Typings) → IsResolved p → StepsAreResolved p → MakesAreResolved p → CellsAreResolved p → CallsNoFreeMe p → (choose : Choose) (x : State)
    → IsWholeBy p typings x → HasNoFault x → MakesFew p x → IsWholeBy p typings (step p (lawful choose) x).state × HasNoFault (step p (lawful choose) x).state

-- So each state of each of its runs is whole, from the opening on, and none ends in a fault.
abbrev pub RunsNeverFault : Type 0
RunsNeverFault =
    (p : Program) (typings : Typings) → IsResolved p → StepsAreResolved p → MakesAreResolved p → CellsAreResolved p → MainIsReady p → NeverFaults p typings

-- and so it is however many words may live
abbrev pub RunsNeverFaultWhileFew : Type 0
RunsNeverFaultWhileFew =
    (p : Program) (typings : Typings) → IsResolved p → StepsAreResolved p → MakesAreResolved p → CellsAreResolved p → MainIsReady p → NeverFaultsWhileFew p typings
