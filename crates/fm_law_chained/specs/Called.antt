-- What a step does that calls a method of FreeMe over chains.
use Rattle.std.specs.Prelude.{◌≡◌, ◌⊎◌, ℕ, suc, ◌+◌, true, false, Bool, List, [], ◌∷◌, Some, None, slice_get}
use Rattle.fm_base.specs.declared.ids.MethodId.{MethodId}
use Rattle.fm_base.specs.declared.ids.TypeId.{TypeId}
use Rattle.fm_base.specs.declared.kinds.TypeRef.{TypeRef}
use Rattle.fm_cells.specs.Objects.{Object}
use Rattle.fm_cells.specs.Stores.{object_at, Store}
use Rattle.fm_code.specs.declared.instructions.Insn.TheVariants as insn
use Rattle.fm_frames.specs.Acts.{all_freed, cell_of, chain_from, chained, Choose}
use Rattle.fm_frames.specs.CallRows.{native_of}
use Rattle.fm_frames.specs.Starts.{to_start}
use Rattle.fm_frames.specs.States.{Areas, Frame, Moved, State}
use Rattle.fm_frames.specs.Steps.{halted, next_insn, offset_at, step}
use Rattle.fm_frames.specs.declared.ends.Ended.TheVariants as end
use Rattle.fm_frames.specs.declared.natives.Native.{Native}
use Rattle.fm_frames.specs.declared.natives.Native.TheVariants.{FreeMeFreeChain, FreeMeLink}
use Rattle.fm_frames.specs.declared.values.Value.{Value}
use Rattle.fm_law_sound.specs.Sound.{IsReference}
use Rattle.fm_types.specs.Named.{class_of_method}
use Rattle.fm_types.specs.Typed.{use_in}
use Rattle.fm_world.specs.Programs.{Outline, Program}
use Rattle.fm_world.specs.declared.uses.Use.{Use}
use Rattle.fm_world.specs.declared.uses.Use.TheVariants as resolved

-- ---- the call

-- an index is resolved to this built-in method, which starts no class
pub record CallsNative (o : Outline) (row : Native) (u : Use) : Type 0 where
  pub method : MethodId
  pub number : TypeId
  pub type : TypeRef
  pub use_is : u ≡ resolved.OfMethod method number
  pub type_is : slice_get o.types number.0 ≡ Some type
  pub row_is : native_of o method.0 ≡ Some row
  pub started : (started : List Bool) → to_start o started (class_of_method o method.0) ≡ []

-- the next instruction of the frame calls it (JVMS 6.5.invokestatic)
pub record IsCalled (p : Program) (row : Native) (f : Frame) (call : ℕ) : Type 0 where
  pub next : next_insn p f ≡ Some (insn.Static call)
  pub calls : CallsNative p.outline row (use_in p f.method call)

-- ---- states

-- the frame with this stack
abbrev pub with_stack : Frame → List Value → Frame
with_stack f stack = record f { stack = stack }

-- the run goes on with this frame on top of these
abbrev pub with_frame : State → Frame → List Frame → State
with_frame x f callers = record x { frames = f ∷ callers; ended = None }

-- one step more was done, which printed nothing: the areas are these, and the frame is at its next item with this stack
abbrev pub called : State → Frame → List Frame → Areas → List Value → Moved
called x f callers areas stack = record {
  state = with_frame (record x { areas = areas; steps = x.steps + 1 }) (record f { item = f.item + 1; stack = stack }) callers;
  printed = [];
}

-- the run ends in a fault at this cell: nothing is freed, linked, counted or printed, and all else is as it was
abbrev pub faulted_at : Program → State → Frame → ℕ → Moved
faulted_at p x f cell = halted x (end.Fault (record { 0 = f.method }) (offset_at p f) cell)

-- ---- link

-- null, and an object that lives for ever, join no chain
abbrev pub JoinsNone : Store → ℕ → Type 0
JoinsNone store cell = (cell ≡ 0) ⊎ ((below : ℕ) × (object : Object) × (cell ≡ suc below) × (object_at store (suc below) ≡ Some object) × (object.fixed ≡ true))

-- what joins none is passed over: the chain is the result
abbrev pub LinksPassOver : Type 0
LinksPassOver =
    (p : Program) (choose : Choose) (x : State) (f : Frame) (callers : List Frame) (call : ℕ) (first chain : Value) (rest : List Value)
    → IsCalled p FreeMeLink f call → IsReference first → JoinsNone x.areas.store (cell_of first)
    → step p choose (with_frame x (with_stack f (chain ∷ first ∷ rest)) callers) ≡ called x f callers x.areas (chain ∷ rest)

-- an object that may be freed is put before the chain, and is the result
abbrev pub LinksJoin : Type 0
LinksJoin =
    (p : Program) (choose : Choose) (x : State) (f : Frame) (callers : List Frame) (call cell : ℕ) (first chain : Value) (rest : List Value) (object : Object)
    → IsCalled p FreeMeLink f call → IsReference first → cell_of first ≡ suc cell → object_at x.areas.store (suc cell) ≡ Some object → object.fixed ≡ false
    → step p choose (with_frame x (with_stack f (chain ∷ first ∷ rest)) callers)
    ≡ called x f callers (chained x.areas (cell_of first) (cell_of chain)) (first ∷ rest)

-- a cell that isn't held faults
abbrev pub LinksFault : Type 0
LinksFault =
    (p : Program) (choose : Choose) (x : State) (f : Frame) (callers : List Frame) (call cell : ℕ) (first chain : Value) (rest : List Value)
    → IsCalled p FreeMeLink f call → IsReference first → cell_of first ≡ suc cell → object_at x.areas.store (suc cell) ≡ None
    → step p choose (with_frame x (with_stack f (chain ∷ first ∷ rest)) callers)
    ≡ faulted_at p (with_frame x (with_stack f (chain ∷ first ∷ rest)) callers) f (suc cell)

-- ---- freeChain

-- the walk's cells are freed, one after the other
abbrev pub ChainsFree : Type 0
ChainsFree =
    (p : Program) (choose : Choose) (x : State) (f : Frame) (callers : List Frame) (call : ℕ) (chain : Value) (rest : List Value) (cells : List ℕ)
    → IsCalled p FreeMeFreeChain f call → chain_from x.areas.store (cell_of chain) ≡ Some cells
    → step p choose (with_frame x (with_stack f (chain ∷ rest)) callers) ≡ called x f callers (all_freed x.areas cells) rest

-- where the walk finds none, it faults at the first one
abbrev pub ChainsFault : Type 0
ChainsFault =
    (p : Program) (choose : Choose) (x : State) (f : Frame) (callers : List Frame) (call : ℕ) (chain : Value) (rest : List Value)
    → IsCalled p FreeMeFreeChain f call → chain_from x.areas.store (cell_of chain) ≡ None
    → step p choose (with_frame x (with_stack f (chain ∷ rest)) callers) ≡ faulted_at p (with_frame x (with_stack f (chain ∷ rest)) callers) f (cell_of chain)
