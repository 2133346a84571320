-- What a row makes of the frames that are taken out of a machine: the step of the machine that has them.
use Rattle.std.specs.Prelude.{ℕ, ◌+◌, Bool, List, ◌∷◌, drop, slice_set, if◌then◌else◌}
use Rattle.fm_code.specs.declared.instructions.Insn.{Insn}
use Rattle.fm_exec.specs.Steps.{Steps}
use Rattle.fm_frames.specs.Acts.{Choose}
use Rattle.fm_frames.specs.Effects.{Effect}
use Rattle.fm_frames.specs.States.{Frame, State}
use Rattle.fm_frames.specs.declared.values.Value.{Value}
use Rattle.fm_frames.specs.declared.values.Value.TheVariants as value
use Rattle.fm_frames.specs.inner.Targets.{IsAtIn}
use Rattle.fm_world.specs.Programs.{Program}

-- a state with these frames in place of its own
abbrev pub on : State → List Frame → State
on x frames = record x { frames = frames }

-- a state with these frames, one step later
abbrev pub stepped_on : State → List Frame → State
stepped_on x frames = record x { frames = frames; steps = x.steps + 1 }

-- a state with these frames, at which `steps` steps are done
abbrev pub resumed : State → List Frame → (steps : ℕ) → State
resumed x frames steps = record x { frames = frames; steps = steps }

-- in each program, whatever the rest of the state, the effect is a step from the one frames to the others
abbrev pub Flows : (old new : List Frame) → (Program → State → Effect) → Type 0
Flows old new effect = (p : Program) (choose : Choose) (x : State) → Steps p choose (on x old) (stepped_on x new) (effect p (on x old))

-- the same in each program in which the topmost frame is at this instruction
abbrev pub FlowsAt : (old new : List Frame) → Insn → (Program → State → Effect) → Type 0
FlowsAt old new i effect =
    (p : Program) (choose : Choose) (x : State) → IsAtIn p old i → Steps p choose (on x old) (stepped_on x new) (effect p (on x old))

-- ---- the topmost frame

-- it goes on to the next item, with a word in place of `takes`
abbrev pub with_given : (takes : ℕ) → Value → Frame → Frame
with_given takes v f = record f { item = f.item + 1; stack = v ∷ drop takes f.stack }

-- the same with a long, whose second half is on top
abbrev pub with_given_wide : (takes : ℕ) → Value → Frame → Frame
with_given_wide takes v f = record f { item = f.item + 1; stack = value.Top ∷ v ∷ drop takes f.stack }

-- it goes on to the next item, without `takes` words and with a local that has this value
abbrev pub with_stored : (takes place : ℕ) → Value → Frame → Frame
with_stored takes place v f = record f { item = f.item + 1; locals = slice_set f.locals place v; stack = drop takes f.stack }

-- the same with a long; the next local is its second half
abbrev pub with_stored_wide : (takes place : ℕ) → Value → Frame → Frame
with_stored_wide takes place v f = record f {
  item = f.item + 1;
  locals = slice_set (slice_set f.locals place v) (place + 1) value.Top;
  stack = drop takes f.stack;
}

-- it goes on at an item or at the next one, without `takes` words
abbrev pub with_branched : (takes : ℕ) → Bool → (target : ℕ) → Frame → Frame
with_branched takes taken target f = record f { item = (if taken then target else f.item + 1); stack = drop takes f.stack }
