-- What the code of a built-in method does, stated by its effect.
use Rattle.std.specs.Prelude.{◌≡◌, ◌⊎◌, ℕ, List, [], Option, None, Some, Result, Ok, Err, slice_get}
use Rattle.fm_files.specs.Sink.{FailsPiece, GetsPiece, Output}
use Rattle.fm_world.specs.Programs.{Program}
use Rattle.fm_frames.specs.Acts.{Choose}
use Rattle.fm_frames.specs.Effects.{Effect}
use Rattle.fm_frames.specs.NativeRows.{native_effect}
use Rattle.fm_frames.specs.declared.natives.Native.{Native}
use Rattle.fm_frames.specs.States.{State}
use Rattle.fm_frames.specs.Steps.{attempted}
use Rattle.fm_frames.specs.declared.ends.Ended.{Ended}
use Rattle.fm_base.specs.declared.error.NoMemory.{NoMemory}
use Rattle.fm_frames.specs.declared.turns.StepFail.{StepFail}
use Rattle.fm_frames.specs.declared.turns.StepFail.TheVariants as fail
use Rattle.fm_frames.specs.declared.turns.Turn.{Turn}
use Rattle.fm_frames.specs.declared.turns.Turn.TheVariants as turn
use Rattle.fm_frames.specs.inner.Doings.{DoesIn, DoesPrinting, seen}

-- the effect of a built-in method leads from one state to the other, and nothing is printed
abbrev pub DoesRow : Program → Choose → State → State → Native → Type 0
DoesRow p choose x y n = (byte : Option ℕ) → DoesIn p choose x y (native_effect p.outline n byte (seen p x))

-- what is printed went to the output in one put; nothing went to it where nothing is printed
abbrev pub PutsOnce : (printed : List ℕ) → Output → Output → Type 0
PutsOnce printed old new = GetsPiece printed old new ⊎ ((printed ≡ []) × (new ≡ old))

-- an effect leads from one state to the other, and what it prints went to the output
pub record StepsTo (p : Program) (choose : Choose) (x y : State) (old new : Output) (e : Effect) : Type 0 where
  pub printed : List ℕ
  pub does : DoesPrinting p choose x y e printed
  pub put : PutsOnce printed old new

-- an effect prints something, and the put of it failed
abbrev pub FailsAt : Program → Choose → State → (old new : Output) → Effect → Type 0
FailsAt p choose x old new e = FailsPiece (attempted p choose x e).printed old new

-- the effect of a built-in method with the next byte of the input
abbrev pub effect_of_native : Program → State → Native → Effect
effect_of_native p x n = native_effect p.outline n (slice_get x.input 0) (seen p x)

-- the same of a built-in method
abbrev pub PrintsRow : Program → Choose → State → State → (old new : Output) → Native → Type 0
PrintsRow p choose x y old new n = StepsTo p choose x y old new (effect_of_native p x n)

-- a built-in method prints something, and the put of it failed
abbrev pub FailsRow : Program → Choose → State → (old new : Output) → Native → Type 0
FailsRow p choose x old new n = FailsAt p choose x old new (effect_of_native p x n)

-- a step that cost 1 ended the run, or it goes on
abbrev pub turn_of : State → Turn
turn_of x = by_end x.ended where
  by_end : Option Ended → Turn
  by_end None = turn.Went 1
  by_end (Some e) = turn.Stopped

-- the result of a step that prints nothing
abbrev pub quiet : {T : Type 0} → Result T NoMemory → Result T StepFail
quiet (Ok done) = Ok done
quiet (Err e) = Err fail.NoMemory
