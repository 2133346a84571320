-- What the whole step of a call does, with what it prints; and that only built-in methods have
-- rows.
use Rattle.std.specs.Prelude.{◌≡◌, ℕ, ◌≤◌, List, length, Option, None, slice_get}
use Rattle.fm_exec.specs.Steps.{seen}
use Rattle.fm_files.specs.Sink.{Output}
use Rattle.fm_frames.specs.Acts.{Choose}
use Rattle.fm_frames.specs.Effects.{Effect}
use Rattle.fm_frames.specs.Sights.{Sight}
use Rattle.fm_frames.specs.Starts.{with_start}
use Rattle.fm_frames.specs.States.{State}
use Rattle.fm_native.specs.Doing.{FailsAt, StepsTo}
use Rattle.fm_world.specs.BuiltIns.{built_in}
use Rattle.fm_world.specs.Members.{method_at, methods_of}
use Rattle.fm_world.specs.Programs.{Outline, Program}

-- linking gives rows only to built-in methods, which have the same numbers in each program
abbrev pub AreRowsBuiltIn : Outline → Type 0
AreRowsBuiltIn o = (method : ℕ) → length (methods_of built_in) ≤ method → (method_at o.classes method).method.row ≡ None

-- the effect of a call, which sees the next byte of the input and the operands; with the start of its class
abbrev pub effect_with_start : Program → State → (Option ℕ → List Sight → Effect) → Effect
effect_with_start p x call = with_start p.outline x.areas.started (call (slice_get x.input 0) (seen p x))

-- the whole step of a call is done, and what it prints went to the output
abbrev pub CallsAs : Program → Choose → (x y : State) → (old new : Output) → (Option ℕ → List Sight → Effect) → Type 0
CallsAs p choose x y old new call = StepsTo p choose x y old new (effect_with_start p x call)

-- a call prints something, and the put of it failed
abbrev pub FailsCall : Program → Choose → State → (old new : Output) → (Option ℕ → List Sight → Effect) → Type 0
FailsCall p choose x old new call = FailsAt p choose x old new (effect_with_start p x call)
