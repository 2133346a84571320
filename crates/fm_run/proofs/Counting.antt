-- A step of a run that goes on, as the code computes it.
use Rattle.std.proofs.Common.{◌≡◌, ℕ, ◌-◌, Option, Some, None, refl, sym, ◌∙◌, ap, subst, arith}
use Rattle.fm_frames.specs.Acts.{Choose}
use Rattle.fm_frames.specs.States.{Moved, State}
use Rattle.fm_frames.specs.Steps.{cost, next_effect}
use Rattle.fm_frames.specs.declared.ends.Ended.{Ended}
use Rattle.fm_frames.proofs.StepCounts.{step_going}
use Rattle.fm_files.specs.Sink.{FailsPiece, Output}
use Rattle.fm_frames.specs.declared.turns.Turn.{Turn}
use Rattle.fm_frames.specs.declared.turns.Turn.TheVariants as turn
use Rattle.fm_native.specs.Doing.{FailsAt, StepsTo}
use Rattle.fm_run.specs.Stepping.{DoesStep, FailsStep, turn_of}
use Rattle.fm_run.specs.inner.Nexts.{Stepped}
use Rattle.fm_world.specs.Programs.{Program}

pub step-does : (p : Program) (choose : Choose) (x y : State) (old new : Output) → x.ended ≡ None → StepsTo p choose x y old new (next_effect p x)
    → DoesStep p choose x y old new
step-does p choose x y old new goes told = record { printed = told.printed; is = step_going p choose x goes ∙ sym told.does; put = told.put }

pub step-fails : (p : Program) (choose : Choose) (x : State) (old new : Output) → x.ended ≡ None → FailsAt p choose x old new (next_effect p x)
    → FailsStep p choose x old new
step-fails p choose x old new goes fails = subst (λ (m : Moved). FailsPiece m.printed old new) (sym (step_going p choose x goes)) fails

abbrev turn_by : ℕ → Option Ended → Turn
turn_by price None = turn.Went price
turn_by price (Some e) = turn.Stopped

pub turn-is : (p : Program) (x y : State) → Stepped p x y → turn_of (y.steps - x.steps) y ≡ turn_of (cost p x) y
turn-is p x y stepped = by_end y.ended refl where
  by_end : (e : Option Ended) → y.ended ≡ e → turn_by (y.steps - x.steps) e ≡ turn_by (cost p x) e
  by_end (Some e) is = refl
  by_end None is = let counted = stepped.counted is in let price : y.steps - x.steps ≡ cost p x = omega arith in ap turn.Went price
