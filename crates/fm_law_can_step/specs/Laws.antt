-- The laws that the functions of `laws` prove: what the code of each instruction requires, of each
-- state from which a run goes on.
use Rattle.std.specs.Prelude.{◌≡◌, ℕ, ◌+◌, ◌-◌, ◌^◌, ◌<◌, ◌≤◌, true, List, length, Option, Some, slice_get}
use Rattle.std.specs.List.{AllByRecursion}
use Rattle.fm_base.specs.declared.ids.FieldId.{FieldId}
use Rattle.fm_base.specs.declared.ids.TypeId.{TypeId}
use Rattle.fm_base.specs.declared.kinds.TypeRef.{TypeRef}
use Rattle.fm_base.specs.declared.limits.TheConstants.{MAX_LIVE_WORDS}
use Rattle.fm_exec_calls.specs.Calls.{AreRowsBuiltIn}
use Rattle.fm_exec_calls.specs.Constants.{ConstantsSuit}
use Rattle.fm_exec_calls.specs.inner.Actions.{unmade}
use Rattle.fm_cells.specs.Choices.{IsLawful}
use Rattle.fm_cells.specs.Soundness.{CellsFit}
use Rattle.fm_cells.specs.Stores.{opened, Store}
use Rattle.fm_code.specs.declared.instructions.Insn.{Insn}
use Rattle.fm_code.specs.declared.instructions.Insn.TheVariants as insn
use Rattle.fm_code.specs.declared.operations.Elem.{Elem}
use Rattle.fm_exec.specs.Holding.{HoldsElements, HoldsField, HoldsLength, TakesElement, TakesField}
use Rattle.fm_frames.specs.Acts.{Choose}
use Rattle.fm_frames.specs.Elements.{kept}
use Rattle.fm_frames.specs.ObjectRows.{kind_of_field}
use Rattle.fm_frames.specs.Runnable.{IsUseIn}
use Rattle.fm_frames.specs.Runs.{Job, opening}
use Rattle.fm_frames.specs.Starts.{start_actions}
use Rattle.fm_frames.specs.States.{State, word_at}
use Rattle.fm_frames.specs.Steps.{stack_of, step}
use Rattle.fm_frames.specs.inner.Doings.{CanStep}
use Rattle.fm_frames.specs.inner.Opening.{opening_classes, StartFits}
use Rattle.fm_frames.specs.inner.Places.{IsOfKind}
use Rattle.fm_native.specs.Serving.{ServesNatives}
use Rattle.fm_law_can_step.specs.Ready.{CanRun, is_wanted, IsGoing, IsNext}
use Rattle.fm_law_sound.specs.HeldCells.{HoldsCells}
use Rattle.fm_law_sound.specs.Making.{ArgumentsFit}
use Rattle.fm_law_sound.specs.Sound.{AreTyped, IsSound, Typings}
use Rattle.fm_base.specs.Kinds.{kind_words}
use Rattle.fm_frames.specs.Literals.{literal_count, literal_named}
use Rattle.fm_world.specs.Programs.{Program}
use Rattle.fm_world.specs.declared.uses.Use.{Use}
use Rattle.fm_world.specs.declared.uses.Use.TheVariants as resolved

-- each step of such a state can be done in code
abbrev pub StepsCanBeDone : Type 0
StepsCanBeDone = (p : Program) (x : State) → CanRun p → IsGoing p x → CanStep p x

-- ---- what the next instruction names

-- it is there
abbrev pub NamesAreThere : Type 0
NamesAreThere = (p : Program) (x : State) (i : Insn) (u : Use) → CanRun p → IsNext p x i u → IsUseIn p.outline u

-- it is of the sort that the instruction wants, and the instruction is a supported one
abbrev pub NamesAreWanted : Type 0
NamesAreWanted = (p : Program) (x : State) (i : Insn) (u : Use) → CanRun p → IsGoing p x → IsNext p x i u → is_wanted i u ≡ true

-- a literal that is named has a place
abbrev pub LiteralsHavePlaces : Type 0
LiteralsHavePlaces =
    (p : Program) (x : State) (i : Insn) (u : Use) (literal : ℕ) → CanRun p → IsGoing p x → IsNext p x i u → literal_named p.outline u ≡ Some literal
    → literal < length x.areas.literals

-- at least one dimension is made, and no more than the named type has (JVMS 6.5.multianewarray)
abbrev pub DimensionsAreWithin : Type 0
DimensionsAreWithin =
    (p : Program) (x : State) (index dimensions : ℕ) (t : TypeId) → CanRun p → IsGoing p x
    → IsNext p x (insn.MultiArray index dimensions) (resolved.OfType t)
    → (0 < dimensions) × ((named : TypeRef) → slice_get p.outline.types t.0 ≡ Some named → dimensions ≤ named.dims)

-- ---- objects

-- the length of each array is an int
abbrev pub LengthsAreInts : Type 0
LengthsAreInts = (p : Program) (x : State) → CanRun p → IsGoing p x → HoldsLength p x

-- each element of an array is a number of its kind
abbrev pub ElementsAreOfKinds : Type 0
ElementsAreOfKinds = (p : Program) (x : State) (e : Elem) → CanRun p → IsGoing p x → HoldsElements p x e

-- the field that getfield reads has a number of its kind
abbrev pub FieldsAreOfKinds : Type 0
FieldsAreOfKinds =
    (p : Program) (x : State) (index : ℕ) (f : FieldId) (t : TypeId) → CanRun p → IsGoing p x
    → IsNext p x (insn.GetField index) (resolved.OfField f t) → HoldsField p x f.0 t.0

-- ---- values

-- an array can keep the value that is stored
abbrev pub ArraysTakeValues : Type 0
ArraysTakeValues = (p : Program) (x : State) (e : Elem) (u : Use) → CanRun p → IsGoing p x → IsNext p x (insn.ArrayStore e) u → TakesElement p x e

-- a field can keep the value that putfield puts
abbrev pub FieldsTakeValues : Type 0
FieldsTakeValues =
    (p : Program) (x : State) (index : ℕ) (f : FieldId) (t : TypeId) → CanRun p → IsGoing p x
    → IsNext p x (insn.PutField index) (resolved.OfField f t) → TakesField p x f.0 t.0

-- and so can a static field
abbrev pub StaticsTakeValues : Type 0
StaticsTakeValues =
    (p : Program) (x : State) (index : ℕ) (f : FieldId) (t : TypeId) → CanRun p → IsGoing p x
    → IsNext p x (insn.PutStatic index) (resolved.OfField f t)
    → let k = kind_of_field p.outline f.0 in IsOfKind k (kept k (word_at (stack_of x) (kind_words k - 1)))

-- ---- built-in methods, and the start of classes

-- what frames share is as the built-in methods require it, and only these have rows
abbrev pub BuiltInsAreServed : Type 0
BuiltInsAreServed = (p : Program) → CanRun p → AreRowsBuiltIn p.outline × ((x : State) → IsGoing p x → ServesNatives p.outline x.areas)

-- the constants of static fields suit them, and a birth is left for each literal that isn't made yet
abbrev pub ClassesCanStart : Type 0
ClassesCanStart =
    (p : Program) (x : State) → CanRun p → IsGoing p x
    → ConstantsSuit p x × (x.areas.store.births + unmade x.areas.literals < 2 ^ 32 - 1)

-- ---- runs

-- A step leads to a sound state whose cells are numbers of 32 bits, where those of held objects are: so the run can go on.
abbrev pub StepsStaySteady : Type 0
StepsStaySteady =
    (p : Program) (x : State) (choose : Choose) → IsLawful choose → CanRun p → IsSound p x → HoldsCells p x
    → CellsFit (step p choose x).state.areas.store → IsSound p (step p choose x).state × HoldsCells p (step p choose x).state

-- and so does the opening
abbrev pub OpeningsAreSteady : Type 0
OpeningsAreSteady =
    (p : Program) (typings : Typings) (choose : Choose) (job : Job) → IsLawful choose → CanRun p → AreTyped p typings
    → ArgumentsFit job.arguments → (budget : ℕ) (limit : Option ℕ) (free : List (List ℕ)) → budget ≤ MAX_LIVE_WORDS
    → CellsFit (opening p choose job (opened budget limit free)).state.areas.store
    → IsSound p (opening p choose job (opened budget limit free)).state × HoldsCells p (opening p choose job (opened budget limit free)).state

-- what the start of main's class does fits
abbrev pub OpeningStartsFit : Type 0
OpeningStartsFit = (p : Program) → CanRun p → AllByRecursion (StartFits p.outline) (start_actions p.outline (opening_classes p.outline))

-- the objects of the opening, with all literals, are no more than the literals, what main is given, its array and the two streams
abbrev pub OpeningsMakeFew : Type 0
OpeningsMakeFew =
    (p : Program) (choose : Choose) (job : Job) (store : Store) → IsLawful choose → CanRun p
    → (opening p choose job store).state.areas.store.births + unmade (opening p choose job store).state.areas.literals
    ≤ store.births + literal_count p.outline + (length job.arguments + 3)
