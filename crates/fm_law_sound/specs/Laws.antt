-- The laws that the functions of `laws` prove.
use Rattle.std.specs.Prelude.{◌≡◌, ℕ, ◌^◌, ◌<◌, false, true, List, [], ◌∷◌, ◌++◌, drop, length, take, reverse, Option, Some, None, ◌≤◌, Bool}
use Rattle.std.specs.List.{AllByRecursion}
use Rattle.fm_base.specs.declared.kinds.TypeRef.{TypeRef}
use Rattle.fm_base.specs.declared.limits.TheConstants.{MAX_LIVE_WORDS}
use Rattle.fm_cells.specs.Choices.{lawful}
use Rattle.fm_cells.specs.Soundness.{CellsFit}
use Rattle.fm_cells.specs.Stores.{Store, opened}
use Rattle.fm_code.specs.AccessFlags.{is_static}
use Rattle.fm_code.specs.declared.instructions.Insn.{Insn}
use Rattle.fm_types.specs.Fits.{AreTree}
use Rattle.fm_types.specs.Named.{result_words}
use Rattle.fm_types.specs.Rows.{row_after}
use Rattle.fm_types.specs.States.{is_whole, state_fits, TypeState}
use Rattle.fm_types.specs.Typed.{use_by}
use Rattle.fm_world.specs.Members.{size_of, field_at, fields_of, slot_of}
use Rattle.fm_world.specs.Programs.{Outline, Program, kind_at}
use Rattle.fm_world.specs.Chains.{chain_of, is_among}
use Rattle.fm_world.specs.Numbers.{type_of_class}
use Rattle.fm_frames.specs.Acts.{Choose, Did, FullAt, LostAt, performed, Performed}
use Rattle.fm_world.specs.declared.uses.Use.{Use}
use Rattle.fm_frames.specs.Effects.{Action, Effect}
use Rattle.fm_frames.specs.NativeRows.{native_effect}
use Rattle.fm_frames.specs.declared.natives.Native.{Native}
use Rattle.fm_frames.specs.ObjectRows.{kind_of_field}
use Rattle.fm_frames.specs.Rows.{effect_of}
use Rattle.fm_frames.specs.Sights.{Sight, sights}
use Rattle.fm_frames.specs.Starts.{start_methods, with_start}
use Rattle.fm_frames.specs.Runs.{after, Job, opening, opening_actions}
use Rattle.fm_frames.specs.States.{Areas, Frame, State}
use Rattle.fm_frames.specs.Steps.{caught, continued, InFrames, is_over, new_frame, next_effect, returned, start_frames, step}
use Rattle.fm_frames.specs.Runnable.{IsRunnable}
use Rattle.fm_frames.specs.declared.values.Value.{Value}
use Rattle.fm_law_sound.specs.Acting.{ActsFit}
use Rattle.fm_law_sound.specs.BuiltIns.{native_slots, NativeLeads}
use Rattle.fm_law_sound.specs.Going.{CallLeads, ConstructorsGiveNothing, IsCalled, IsGoingOn, StandsAtRow, StartsClass}
use Rattle.fm_law_sound.specs.HeldCells.{HoldsCells}
use Rattle.fm_law_sound.specs.Leading.{is_call, LeadsAs, NamesField, sources_of}
use Rattle.fm_law_sound.specs.Resolved.{CallsAreResolved, MainIsReady, StepsAreResolved}
use Rattle.fm_law_sound.specs.Sound.{AreasAreSound, AreTyped, FrameHasKinds, HaveKinds, IsReference, IsSoundBy, Stand, StandBelow, StandsWithout, static_slots, Typings}
use Rattle.fm_law_sound.specs.Making.{AreFew, ArgumentsFit, ConstantsAreStatic, HaveTextFirst, HoldsObjects, IsMakeable, MakesAreResolved, MakesFew, NamesAreUnits, NamesMade}

-- ---- kinds

-- what has the kinds of a state has those of each state that this one fits, where no long is split
abbrev pub FitsKeepsKinds : Type 0
FitsKeepsKinds =
    (o : Outline) (s other : TypeState) → is_whole s.stack ≡ true → is_whole other.stack ≡ true → state_fits o s other ≡ true
    → (locals stack : List Value) → FrameHasKinds s locals stack → FrameHasKinds other locals stack

-- ---- effects

-- The effect of an instruction that is no call leads where the checker's row leads, whatever is seen of the operands: the frame that goes on has the
-- kinds of the state after it, a result has its kind, and what is thrown is a reference.
abbrev pub EffectsLead : Type 0
EffectsLead =
    (o : Outline) (s after : TypeState) (f : Frame) (i : Insn) (u : Use) (news : ℕ → Option TypeRef) (byte : Option ℕ) (sights : List Sight)
    → FrameHasKinds s f.locals f.stack → is_whole s.stack ≡ true → NamesField o u i → is_call i ≡ false
    → row_after o f.method f.item news u i s ≡ Some after
    → LeadsAs o i after f (effect_of o f.method u i byte sights) (effect_of o f.method u i byte sights).next

-- The effect of a built-in method takes the words that its row has, where the stack has them, and gives its result; or it throws a reference, or the run
-- ends.
abbrev pub BuiltInsLead : Type 0
BuiltInsLead =
    (o : Outline) (f : Frame) (row : Native) (byte : Option ℕ) (sights : List Sight)
    → HaveKinds (native_slots row) (take (length (native_slots row)) f.stack)
    → NativeLeads o f row (native_effect o row byte sights) (native_effect o row byte sights).next

-- The effect of an instruction that calls leads where the call may lead, whatever object it sees for a receiver, as long as the heap is sound: to a method
-- that has code, the name and the descriptor that are named, and the receiver that is wanted; or it goes on with the kinds of the state after it.
abbrev pub CallsLead : Type 0
CallsLead =
    (p : Program) (typings : Typings) → AreTyped p typings → CallsAreResolved p
    → (f : Frame) (i : Insn) (after : TypeState) (h : StandsAtRow p typings f i after) → FrameHasKinds h.known f.locals f.stack → is_call i ≡ true
    → (x : Areas) → AreasAreSound p.outline x → (byte : Option ℕ)
    → CallLeads p f i after (effect_of p.outline f.method (use_by p f.method i) i byte (sights p.outline x.store f.stack))
    (effect_of p.outline f.method (use_by p f.method i) i byte (sights p.outline x.store f.stack)).next

-- The methods that start classes have code and no arguments.
abbrev pub StartsAreMethods : Type 0
StartsAreMethods = (p : Program) → CallsAreResolved p → (classes : List ℕ) → AllByRecursion (StartsClass p) (start_methods p.outline classes)

-- ---- frames

-- A frame that goes on to the next item or to a target, with an effect that leads where the
-- checker's row does, has what the checker knows there, and the frames below it are as they were.
abbrev pub GoingOnKeepsFrames : Type 0
GoingOnKeepsFrames =
    (p : Program) (typings : Typings) → AreTree p.outline.classes → AreTyped p typings
    → (f : Frame) (callers : List Frame) (i : Insn) (after : TypeState) → StandsAtRow p typings f i after → StandBelow p typings f callers
    → (e : Effect) → IsGoingOn e.next → LeadsAs p.outline i after f e e.next
    → (areas : Areas) (made : List ℕ) → HaveKinds (static_slots p.outline) areas.statics
    → (x : State) → Stand p typings (continued p (sources_of f areas made) e f callers x).frames

-- The frames have what the checker knows also after one of them catches an exception, which is a
-- reference: whether or not the words of a call are off the stack of the frame on top.
abbrev pub CatchingKeepsFrames : Type 0
CatchingKeepsFrames =
    (p : Program) (typings : Typings) → AreTyped p typings
    → (f : Frame) (callers : List Frame) (words : ℕ) → StandsWithout p typings words f → StandBelow p typings f callers
    → (t : TypeRef) (v : Value) → IsReference v → (frames : List Frame) → caught p t v (f ∷ callers) ≡ InFrames frames → Stand p typings frames

-- Of a frame that returns with words of its result's kind, the frame below goes on after its call
-- with them on top; the one for which a class was started is as it was.
abbrev pub ReturningKeepsFrames : Type 0
ReturningKeepsFrames =
    (p : Program) (typings : Typings) → AreTree p.outline.classes → AreTyped p typings → ConstructorsGiveNothing p.outline
    → (f g : Frame) (callers : List Frame) → StandBelow p typings f (g ∷ callers) → (n : ℕ) → HaveKinds (result_words p.outline f.method) (take n f.stack)
    → (x : State) → Stand p typings (returned p n f (g ∷ callers) x).frames

-- The frame of a method that a call leads to is at its first item with the words of the call for
-- arguments, and the frame that calls is below it, at the call and without them.
abbrev pub CallingKeepsFrames : Type 0
CallingKeepsFrames =
    (p : Program) (typings : Typings) → AreTyped p typings
    → (f : Frame) (callers : List Frame) (i : Insn) (after : TypeState) (h : StandsAtRow p typings f i after) → FrameHasKinds h.known f.locals f.stack
    → StandBelow p typings f callers → (target words : ℕ) → IsCalled p f i target words
    → Stand p typings (new_frame p target (reverse (take words f.stack)) ∷ record f { stack = drop words f.stack } ∷ callers)

-- Above frames that have what the checker knows, so have the frames of methods that start classes,
-- the first of them on top.
abbrev pub StartingKeepsFrames : Type 0
StartingKeepsFrames =
    (p : Program) (typings : Typings) → AreTyped p typings
    → (methods : List ℕ) → AllByRecursion (StartsClass p) methods → (f : Frame) (callers : List Frame) → Stand p typings (f ∷ callers)
    → Stand p typings (start_frames p methods ++ f ∷ callers)

-- ---- actions

-- The actions of the effect of an instruction that is no call fit, where the frame has the kinds of a state and what is seen are the words of its stack.
abbrev pub InstructionsActFit : Type 0
InstructionsActFit =
    (p : Program) → IsMakeable p → (s after : TypeState) (f : Frame) (store : Store) (i : Insn) (u : Use) (news : ℕ → Option TypeRef) (byte : Option ℕ)
    → FrameHasKinds s f.locals f.stack → is_whole s.stack ≡ true → NamesField p.outline u i → NamesMade p.outline u i → is_call i ≡ false
    → row_after p.outline f.method f.item news u i s ≡ Some after
    → AreFew p.outline (effect_of p.outline f.method u i byte (sights p.outline store f.stack)).actions
    → ActsFit p.outline store f [] (effect_of p.outline f.method u i byte (sights p.outline store f.stack)).actions

-- The actions of the effect of a built-in method fit, where the stack has the words of its row and what is seen are objects of the program.
abbrev pub BuiltInsActFit : Type 0
BuiltInsActFit =
    (p : Program) → IsMakeable p → NamesAreUnits p.outline → HaveTextFirst p.outline → (store : Store) → HoldsObjects p.outline store
    → (f : Frame) (row : Native) (byte : Option ℕ) → HaveKinds (native_slots row) (take (length (native_slots row)) f.stack)
    → AreFew p.outline (native_effect p.outline row byte (sights p.outline store f.stack)).actions
    → ActsFit p.outline store f [] (native_effect p.outline row byte (sights p.outline store f.stack)).actions

-- Where the words of all that a step makes are within those that may live, none of its objects has more.
abbrev pub WithinIsFew : Type 0
WithinIsFew =
    (o : Outline) (x : Areas) (actions : List Action) → x.store.budget ≤ MAX_LIVE_WORDS → is_over o x actions ≡ false → AreFew o actions

-- What the start of classes does to their static fields fits; so what is done before an effect, where a class has to be started for it, fits with it.
abbrev pub StartsFit : Type 0
StartsFit =
    (p : Program) → IsMakeable p → ConstantsAreStatic p.outline → (store : Store) (f : Frame) (started : List Bool) (e : Effect)
    → (AreFew p.outline e.actions → ActsFit p.outline store f [] e.actions) → AreFew p.outline (with_start p.outline started e).actions
    → ActsFit p.outline store f [] (with_start p.outline started e).actions

-- The actions of the opening fit, where main is given texts.
abbrev pub OpeningsFit : Type 0
OpeningsFit =
    (p : Program) → IsMakeable p → (job : Job) → ArgumentsFit job.arguments → (store : Store) (f : Frame)
    → ActsFit p.outline store f [] (opening_actions p.outline job)

-- No step changes how many words may live.
abbrev pub StepsKeepBudgets : Type 0
StepsKeepBudgets = (p : Program) (choose : Choose) (x : State) → (step p choose x).state.areas.store.budget ≡ x.areas.store.budget

-- ---- places of fields

-- Objects of a class have each field of the class and of its superclasses at the field's place, with its kind; so a place is one of all classes below.
abbrev pub FieldsHavePlaces : Type 0
FieldsHavePlaces =
    (o : Outline) → AreTree o.classes → (class field : ℕ) → class < length o.classes → field < length (fields_of o.classes)
    → is_static (field_at o.classes field).field.flags ≡ false → is_among (field_at o.classes field).class (chain_of o.classes class) ≡ true
    → kind_at o.classes (type_of_class class) (slot_of o.classes field) ≡ Some (kind_of_field o field)

-- Objects that build texts, and throwables, have the text that they lead to at their first place.
abbrev pub TextsComeFirst : Type 0
TextsComeFirst = (p : Program) → IsRunnable p → AreTree p.outline.classes → HaveTextFirst p.outline

-- ---- areas

-- what the frames share is sound, where all actions were done and where the store was full
abbrev pub LeavesSound : Outline → Performed → Type 0
LeavesSound o (Did x made) = AreasAreSound o x
LeavesSound o (FullAt x needed) = AreasAreSound o x
LeavesSound o (LostAt v) = Unit {0}

-- Actions that fit keep what the frames share sound, at each choice of a memory that reuses cells in any way, and whatever is freed.
abbrev pub ActionsKeepAreas : Type 0
ActionsKeepAreas =
    (o : Outline) → ((class : ℕ) → size_of o.classes class < 2 ^ 31) → (choose : Choose) (f : Frame) (x : Areas) (actions : List Action)
    → AreasAreSound o x → ActsFit o x.store f [] actions → LeavesSound o (performed o (lawful choose) f.locals f.stack actions x [])

-- ---- a step

-- the actions of the next effect fit, where they are within the budget
abbrev pub NextActsFit : Program → State → Type 0
NextActsFit p x =
    (f : Frame) (callers : List Frame) → x.frames ≡ f ∷ callers → is_over p.outline x.areas (next_effect p x).actions ≡ false
    → ActsFit p.outline x.areas.store f [] (next_effect p x).actions

-- A step whose actions fit keeps a state sound, at each choice of a memory that reuses cells in any way, and whatever was freed.
abbrev pub StepsKeepSound : Type 0
StepsKeepSound =
    (p : Program) (typings : Typings) → StepsAreResolved p → (choose : Choose) (x : State) → IsSoundBy p typings x → (x.ended ≡ None → NextActsFit p x)
    → IsSoundBy p typings (step p (lawful choose) x).state

-- ---- the opening

-- before there is any frame
abbrev pub no_frame : Frame
no_frame = record { method = 0; item = 0; locals = []; stack = [] }

-- ---- typed and linked programs

-- The actions of each step of a sound state fit that makes no object of too many words; so each such step keeps a state sound, at each choice of a memory
-- that reuses cells in any way, and whatever was freed.
abbrev pub SoundStatesStep : Type 0
SoundStatesStep =
    (p : Program) (typings : Typings) → StepsAreResolved p → MakesAreResolved p → (choose : Choose) (x : State) → IsSoundBy p typings x → MakesFew p x
    → NextActsFit p x × IsSoundBy p typings (step p (lawful choose) x).state

-- the steps of a run before this one make no object of too many words
abbrev pub MakesFewBefore : Program → Choose → Job → Store → ℕ → Type 0
MakesFewBefore p choose job store k = (j : ℕ) → j < k → MakesFew p (after p choose j (opening p choose job store)).state

-- So each state of a run of a typed and linked program before which no object has too many words is sound, from its opening on, by the states of the items
-- of each method: whatever is read, and however many words may live.
abbrev pub SoundWhileFew : Type 0
SoundWhileFew =
    (p : Program) (typings : Typings) → AreTyped p typings → StepsAreResolved p → MakesAreResolved p → MainIsReady p → (choose : Choose) (job : Job)
    → ArgumentsFit job.arguments → (budget : ℕ) (limit : Option ℕ) (free : List (List ℕ)) (k : ℕ)
    → MakesFewBefore p (lawful choose) job (opened budget limit free) k
    → IsSoundBy p typings (after p (lawful choose) k (opening p (lawful choose) job (opened budget limit free))).state

-- So is each state of a run with no more words than `fmrun` allows at most.
abbrev pub SoundRuns : Type 0
SoundRuns =
    (p : Program) (typings : Typings) → AreTyped p typings → StepsAreResolved p → MakesAreResolved p → MainIsReady p → (choose : Choose) (job : Job)
    → ArgumentsFit job.arguments → (budget : ℕ) (limit : Option ℕ) (free : List (List ℕ)) → budget ≤ MAX_LIVE_WORDS → (k : ℕ)
    → IsSoundBy p typings (after p (lawful choose) k (opening p (lawful choose) job (opened budget limit free))).state

-- ---- cells

-- A step leads to no cell but to those to which the state led and those of what is held after it: so where these are numbers of 32 bits, those are.
abbrev pub StepsHoldCells : Type 0
StepsHoldCells =
    (p : Program) (typings : Typings) → StepsAreResolved p → MakesAreResolved p → (choose : Choose) (x : State) → IsSoundBy p typings x → MakesFew p x
    → HoldsCells p x → CellsFit (step p (lawful choose) x).state.areas.store → HoldsCells p (step p (lawful choose) x).state

-- And the opening leads to no other cell.
abbrev pub OpeningsHoldCells : Type 0
OpeningsHoldCells =
    (p : Program) → StepsAreResolved p → MakesAreResolved p → (choose : Choose) (job : Job) → ArgumentsFit job.arguments
    → (budget : ℕ) (limit : Option ℕ) (free : List (List ℕ)) → CellsFit (opening p (lawful choose) job (opened budget limit free)).state.areas.store
    → HoldsCells p (opening p (lawful choose) job (opened budget limit free)).state
