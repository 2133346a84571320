-- Steps over frames that are taken out of the machine.
use Rattle.std.specs.Prelude.{◌≡◌, ℕ, ◌+◌, ◌-◌, ◌≤◌, Option, None, Some, List, [], ◌∷◌}
use Rattle.fm_code.specs.declared.instructions.Insn.{Insn}
use Rattle.fm_fast.specs.Flows.{on, resumed, stepped_on}
use Rattle.fm_fast.specs.Operands.{AsksOf}
use Rattle.fm_frames.specs.Acts.{Choose}
use Rattle.fm_frames.specs.States.{Frame, State}
use Rattle.fm_exec_nests.specs.inner.Costs.{nest_of}
use Rattle.fm_run.specs.inner.Going.{IsCheapNext, Keeps, LeadsQuietly}
use Rattle.fm_run.specs.inner.Nexts.{DoesNext, StandsIn}
use Rattle.fm_world.specs.Programs.{Program}

-- the topmost frame is at the instruction in the method and has what its row asks, and its step is
-- within the budget, if it costs 1
pub record IsFlatNext (p : Program) (budget : ℕ) (x : State) (method : ℕ) (i : Insn) : Type 0 where
  pub at : StandsIn p x method i
  pub asks : AsksOf i x.frames
  pub next : nest_of i ≡ None → IsCheapNext p budget x method i

-- the instruction costs 1, and whatever the rest of the state, its step in the method leads from the one frames to the others
pub record FlowsNext (p : Program) (method : ℕ) (old new : List Frame) (i : Insn) : Type 0 where
  pub cheap : nest_of i ≡ None
  pub does : (choose : Choose) (x : State) → StandsIn p (on x old) method i → DoesNext p choose (on x old) (stepped_on x new)

-- the instruction costs 1, and its step leads from one state to the other
abbrev pub DoesAlone : Program → Choose → Insn → (x y : State) → Type 0
DoesAlone p choose i x y = (nest_of i ≡ None) × DoesNext p choose x y

-- a run that goes on led quietly from one state to another, from which it can go on
pub record WentOn (p : Program) (choose : Choose) (budget : ℕ) (x y : State) : Type 0 where
  pub leads : LeadsQuietly p choose budget x y
  pub keeps : Keeps p budget y
  pub on : y.ended ≡ None

-- the item that is next
abbrev pub item_in : List Frame → ℕ
item_in [] = 0
item_in (f ∷ callers) = f.item

-- the method of the topmost frame
abbrev pub method_in : List Frame → Option ℕ
method_in [] = None
method_in (f ∷ callers) = Some f.method

-- how many steps are done where this is the reach: the count at the item 65,536, if no jump comes before it
abbrev pub done_by : (reach : ℕ) → List Frame → ℕ
done_by reach frames = reach + item_in frames - 65536

-- a run that goes on led quietly to frames of that reach, and straight code ends within the budget
pub record IsStraight (p : Program) (choose : Choose) (budget before : ℕ) (first m : State) (frames : List Frame) (reach : ℕ) : Type 0 where
  pub leads : LeadsQuietly p choose budget first (resumed m frames (done_by reach frames))
  pub keeps : Keeps p budget (resumed m frames (done_by reach frames))
  pub on : m.ended ≡ None
  pub more : before ≤ done_by reach frames
  pub there : 65536 ≤ reach + item_in frames
  pub within : reach ≤ budget
