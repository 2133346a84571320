-- What it means that a call finds the method that it calls.
use Rattle.std.specs.Prelude.{◌≡◌, ℕ, Option, Some, None}
use Rattle.fm_base.specs.declared.ids.MethodId.{MethodId}
use Rattle.fm_exec.specs.Steps.{seen, Steps}
use Rattle.fm_frames.specs.Acts.{Choose}
use Rattle.fm_frames.specs.CallRows.{entered}
use Rattle.fm_frames.specs.Effects.{Effect}
use Rattle.fm_frames.specs.States.{State}
use Rattle.fm_world.specs.Programs.{Program}

-- where a method was found nothing has changed, and the effect of the call is that this method is
-- entered with `words` words; where none was, the whole step of the call is done
abbrev pub Selects : Program → Choose → (x y : State) → (words : ℕ) → (Option ℕ → Effect) → Option MethodId → Type 0
Selects p choose x y words call (Some m) = (y ≡ x) × ((byte : Option ℕ) → call byte ≡ entered p.outline words (Some m.0) byte (seen p x))
Selects p choose x y words call None = (byte : Option ℕ) → Steps p choose x y (call byte)
