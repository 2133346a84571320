-- The next instruction of a state, and which function does it.
use Rattle.std.specs.Prelude.{◌≡◌, ℕ, ◌+◌, ◌≤◌, None, Some, List, ◌∷◌}
use Rattle.fm_exec_calls.specs.inner.Actions.{unmade}
use Rattle.fm_code.specs.declared.code_array.Code.{Code}
use Rattle.fm_code.specs.declared.instructions.Insn.{Insn}
use Rattle.fm_code.specs.declared.instructions.Insn.TheVariants as insn
use Rattle.fm_world.specs.Programs.{code_at, Program}
use Rattle.fm_frames.specs.Acts.{Choose}
use Rattle.fm_frames.specs.States.{Frame, State}
use Rattle.fm_frames.specs.Steps.{cost, next_insn, next_effect}
use Rattle.fm_frames.specs.inner.Doings.{DoesIn}
use Rattle.fm_law_sound.specs.HeldCells.{HoldsCells}
use Rattle.fm_law_sound.specs.Sound.{IsSound}
use Rattle.fm_run.specs.declared.groups.Group.{Group}
use Rattle.fm_run.specs.declared.groups.Group.TheVariants as group

-- the topmost frame is at this instruction
pub record StandsAt (p : Program) (x : State) (i : Insn) : Type 0 where
  pub frame : Frame
  pub callers : List Frame
  pub frames_is : x.frames ≡ frame ∷ callers
  pub insn_is : next_insn p frame ≡ Some i

-- it is there in this method
pub record StandsIn (p : Program) (x : State) (method : ℕ) (i : Insn) : Type 0 where
  pub at : StandsAt p x i
  pub method_is : at.frame.method ≡ method

-- there is a frame
abbrev pub HasFrame : State → Type 0
HasFrame x = (frame : Frame) × (callers : List Frame) × (x.frames ≡ frame ∷ callers)

-- the method has code
abbrev pub HasCode : Program → ℕ → Type 0
HasCode p method = (code : Code) × (code_at p method ≡ Some code)

-- what is known of a step that was done: the state is sound, and as long as the run goes on no more objects were made than the step costs
pub record Stepped (p : Program) (x y : State) : Type 0 where
  pub sound : IsSound p y
  pub cells : HoldsCells p y
  pub counted : y.ended ≡ None → y.steps ≡ x.steps + cost p x
  pub births : y.ended ≡ None → y.areas.store.births + unmade y.areas.literals ≤ x.areas.store.births + unmade x.areas.literals + cost p x

-- the effect of the next instruction leads from one state to the other, and nothing is printed
abbrev pub DoesNext : Program → Choose → (x y : State) → Type 0
DoesNext p choose x y = DoesIn p choose x y (next_effect p x)

-- which function does an instruction: one that is in no other group is rarer
abbrev pub group_of : Insn → Group
group_of insn.Null = group.Frequent
group_of (insn.Const n) = group.Frequent
group_of (insn.LoadPool index) = group.Frequent
group_of (insn.Load kind local) = group.Frequent
group_of (insn.Store kind local) = group.Frequent
group_of (insn.Inc local by) = group.Frequent
group_of (insn.IntOp op) = group.Frequent
group_of (insn.LongOp op) = group.Frequent
group_of (insn.IntShift shift) = group.Frequent
group_of (insn.Convert to) = group.Frequent
group_of (insn.IfInt test target) = group.Frequent
group_of (insn.IfPair test target) = group.Frequent
group_of (insn.IfSame same target) = group.Frequent
group_of (insn.IfNull null target) = group.Frequent
group_of (insn.Goto target) = group.Frequent
group_of (insn.Return value) = group.Frequent
group_of insn.Throw = group.Throws
group_of insn.Pop = group.Frequent
group_of insn.Dup = group.Frequent
group_of (insn.GetField index) = group.Frequent
group_of (insn.PutField index) = group.Frequent
group_of (insn.GetStatic index) = group.Statics
group_of (insn.PutStatic index) = group.Statics
group_of (insn.ArrayLoad e) = group.Frequent
group_of (insn.ArrayStore e) = group.Frequent
group_of insn.Length = group.Frequent
group_of (insn.NewArray e) = group.Objects
group_of (insn.NewRefs index) = group.Objects
group_of (insn.MultiArray index dimensions) = group.Objects
group_of (insn.New index) = group.Frequent
group_of (insn.Cast index) = group.Objects
group_of (insn.IsA index) = group.Objects
group_of (insn.Virtual index) = group.Calls
group_of (insn.Interface index) = group.Calls
group_of (insn.Special index) = group.Calls
group_of (insn.Static index) = group.Calls
group_of (insn.LeftOut opcode) = group.LeftOut
group_of i = group.Rarer
