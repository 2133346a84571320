-- The result of one step, with what it prints.
use Rattle.std.specs.Prelude.{◌≡◌, ℕ, List, Option, None, Some}
use Rattle.fm_files.specs.Sink.{FailsPiece, Output}
use Rattle.fm_native.specs.Doing.{PutsOnce}
use Rattle.fm_world.specs.Programs.{Program}
use Rattle.fm_frames.specs.Acts.{Choose}
use Rattle.fm_frames.specs.States.{State}
use Rattle.fm_frames.specs.Steps.{step}
use Rattle.fm_frames.specs.declared.ends.Ended.{Ended}
use Rattle.fm_frames.specs.declared.turns.Turn.{Turn}
use Rattle.fm_frames.specs.declared.turns.Turn.TheVariants as turn

-- one step leads from one state to the other, and what it prints went to the output in one put;
-- nothing went to it where it prints nothing
pub record DoesStep (p : Program) (choose : Choose) (x y : State) (old new : Output) : Type 0 where
  pub printed : List ℕ
  pub is : step p choose x ≡ record { state = y; printed = printed }
  pub put : PutsOnce printed old new

-- one step prints something, and the put of it failed
abbrev pub FailsStep : Program → Choose → State → (old new : Output) → Type 0
FailsStep p choose x old new = FailsPiece (step p choose x).printed old new

-- the result of a step of this cost: the run has ended, or it goes on
abbrev pub turn_of : ℕ → State → Turn
turn_of price y = by_end y.ended where
  by_end : Option Ended → Turn
  by_end None = turn.Went price
  by_end (Some e) = turn.Stopped
