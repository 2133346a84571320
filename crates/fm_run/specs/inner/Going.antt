-- A run that goes on: what is known of its state, and where steps lead.
use Rattle.std.specs.Prelude.{◌≡◌, ◌⊎◌, ℕ, ◌+◌, ◌-◌, ◌^◌, ◌<◌, suc, Option, None, Some}
use Rattle.fm_exec_calls.specs.inner.Actions.{unmade}
use Rattle.fm_files.specs.Sink.{Output, with_pieces}
use Rattle.fm_code.specs.declared.instructions.Insn.{Insn}
use Rattle.fm_frames.specs.Acts.{Choose}
use Rattle.fm_frames.specs.Runs.{Goes}
use Rattle.fm_frames.specs.States.{State}
use Rattle.fm_frames.specs.declared.ends.Ended.{Ended}
use Rattle.fm_frames.specs.inner.Doings.{CanStep}
use Rattle.fm_law_can_step.specs.Ready.{IsGoing}
use Rattle.fm_run.specs.Running.{BreaksRun, FailsRun, GoFirst, pieces_of, state_after}
use Rattle.fm_run.specs.Stepping.{DoesStep, FailsStep}
use Rattle.fm_run.specs.inner.Nexts.{StandsIn, Stepped}
use Rattle.fm_law_sound.specs.HeldCells.{HoldsCells}
use Rattle.fm_law_sound.specs.Sound.{IsSound}
use Rattle.fm_world.specs.Programs.{Program}

-- the state is sound, and as long as the run goes on, the objects can be numbered that the steps left within the budget may make
pub record Keeps (p : Program) (budget : ℕ) (x : State) : Type 0 where
  pub sound : IsSound p x
  pub cells : HoldsCells p x
  pub births : x.ended ≡ None → x.areas.store.births + unmade x.areas.literals + (budget - x.steps) < 2 ^ 32

-- the first steps were done, what they printed came, and the state is sound and can go on
pub record Ran (p : Program) (choose : Choose) (budget : ℕ) (first x : State) (old new : Output) : Type 0 where
  pub count : ℕ
  pub goes : GoFirst p choose budget first count
  pub state : x ≡ state_after p choose count first
  pub put : new ≡ with_pieces (pieces_of p choose first count) old
  pub keeps : Keeps p budget x

-- how many steps may be left within the budget; none once the run has ended
abbrev pub left_of : (budget : ℕ) → State → ℕ
left_of budget x = left_by budget x.steps x.ended where
  left_by : (budget steps : ℕ) → Option Ended → ℕ
  left_by budget steps None = suc (budget - steps)
  left_by budget steps (Some e) = 0

-- an instruction that costs 1 is next in the method, and its step is within the budget
pub record IsCheapNext (p : Program) (budget : ℕ) (x : State) (method : ℕ) (i : Insn) : Type 0 where
  pub at : StandsIn p x method i
  pub goes : Goes p budget x
  pub going : IsGoing p x
  pub can : CanStep p x

-- one step within the budget leads from one state to the other, and what it prints went to the
-- output
pub record DidCheap (p : Program) (choose : Choose) (budget : ℕ) (x y : State) (old new : Output) : Type 0 where
  pub goes : Goes p budget x
  pub does : DoesStep p choose x y old new
  pub stepped : Stepped p x y

-- the same of a step that prints nothing, whatever went to the output before
abbrev pub DidQuietly : Program → Choose → (budget : ℕ) → (x y : State) → Type 0
DidQuietly p choose budget x y = (out : Output) → DidCheap p choose budget x y out out

-- the next step is within the budget, and the put of what it prints failed
pub record FailsNext (p : Program) (choose : Choose) (budget : ℕ) (x : State) (old new : Output) : Type 0 where
  pub goes : Goes p budget x
  pub fails : FailsStep p choose x old new

-- a run that has reached one state and output reaches by steps the other
pub record Leads (p : Program) (choose : Choose) (budget : ℕ) (x y : State) (old new : Output) : Type 0 where
  pub ran : (first : State) (from : Output) → Ran p choose budget first x from old → Ran p choose budget first y from new
  pub left : (y ≡ x) ⊎ (left_of budget y < left_of budget x)

-- the same by steps that print nothing
abbrev pub LeadsQuietly : Program → Choose → (budget : ℕ) → (x y : State) → Type 0
LeadsQuietly p choose budget x y = (out : Output) → Leads p choose budget x y out out

-- a run that has reached the state and output goes on to a step whose put fails
abbrev pub FailsLater : Program → Choose → (budget : ℕ) → State → (old new : Output) → Type 0
FailsLater p choose budget x old new = (first : State) (from : Output) → Ran p choose budget first x from old → FailsRun p choose budget first from new

-- a run that has reached the state and output goes on by some steps
abbrev pub BreaksLater : Program → Choose → (budget : ℕ) → State → (old new : Output) → Type 0
BreaksLater p choose budget x old new = (first : State) (from : Output) → Ran p choose budget first x from old → BreaksRun p choose budget first from new
