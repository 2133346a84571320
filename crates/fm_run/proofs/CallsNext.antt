-- The step of a call is the next one.
use Rattle.std.proofs.Common.{◌≡◌, ℕ, List, Option, Result, OnOk, sym, ◌∙◌, ap, subst, slice_get}
use Rattle.fm_exec_calls.specs.Calls.{CallsAs, FailsCall}
use Rattle.fm_code.specs.declared.instructions.Insn.{Insn}
use Rattle.fm_exec.specs.Steps.{seen}
use Rattle.fm_files.specs.Sink.{Output}
use Rattle.fm_frames.specs.Acts.{Choose}
use Rattle.fm_frames.specs.Effects.{Effect}
use Rattle.fm_frames.specs.Rows.{effect_of}
use Rattle.fm_frames.specs.Sights.{Sight}
use Rattle.fm_frames.specs.Starts.{with_start}
use Rattle.fm_frames.specs.States.{State}
use Rattle.fm_frames.specs.Steps.{next_effect}
use Rattle.fm_frames.specs.declared.turns.StepFail.{StepFail}
use Rattle.fm_native.specs.Doing.{FailsAt, StepsTo}
use Rattle.fm_run.proofs.NextSteps.{named-is}
use Rattle.fm_run.specs.inner.Nexts.{StandsIn}
use Rattle.fm_types.specs.Typed.{use_by}
use Rattle.fm_world.specs.Programs.{Program}
use Rattle.fm_world.specs.declared.uses.Use.{Use}

-- the effect of the call that the index refers to is the next one
call-is : (p : Program) (x : State) (method : ℕ) (i : Insn) (u : Use) (call : Option ℕ → List Sight → Effect) → StandsIn p x method i → use_by p method i ≡ u
    → effect_of p.outline method u i (slice_get x.input 0) (seen p x) ≡ call (slice_get x.input 0) (seen p x)
    → next_effect p x ≡ with_start p.outline x.areas.started (call (slice_get x.input 0) (seen p x))
call-is p x method i u call stands is same = named-is p x method i u stands is ∙ ap (with_start p.outline x.areas.started) same

pub called-told : (p : Program) (choose : Choose) (x y : State) (old new : Output) (method : ℕ) (i : Insn) (u : Use) (call : Option ℕ → List Sight → Effect)
    (result : Result Unit StepFail) → StandsIn p x method i → use_by p method i ≡ u
    → effect_of p.outline method u i (slice_get x.input 0) (seen p x) ≡ call (slice_get x.input 0) (seen p x)
    → OnOk result (CallsAs p choose x y old new call) → OnOk result (StepsTo p choose x y old new (next_effect p x))
called-told p choose x y old new method i u call result stands is same told =
    subst (λ e. OnOk result (StepsTo p choose x y old new e)) (sym (call-is p x method i u call stands is same)) told

pub called-fails : (p : Program) (choose : Choose) (x : State) (old new : Output) (method : ℕ) (i : Insn) (u : Use) (call : Option ℕ → List Sight → Effect)
    → StandsIn p x method i → use_by p method i ≡ u
    → effect_of p.outline method u i (slice_get x.input 0) (seen p x) ≡ call (slice_get x.input 0) (seen p x)
    → FailsCall p choose x old new call → FailsAt p choose x old new (next_effect p x)
called-fails p choose x old new method i u call stands is same fails =
    subst (λ e. FailsAt p choose x old new e) (sym (call-is p x method i u call stands is same)) fails
