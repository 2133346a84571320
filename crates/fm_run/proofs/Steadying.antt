-- The state after a step is sound, and no more objects were made than the step costs.
use Rattle.std.proofs.Common.{◌≡◌, ℕ, sym, ap, subst}
use Rattle.fm_code.specs.declared.instructions.Insn.{Insn}
use Rattle.fm_cells.specs.Choices.{IsLawful}
use Rattle.fm_cells.specs.Soundness as cells
use Rattle.fm_cells.specs.Soundness.{CellsFit}
use Rattle.fm_files.specs.Sink.{Output}
use Rattle.fm_frames.specs.Acts.{Choose}
use Rattle.fm_frames.specs.States.{Moved, State}
use Rattle.fm_frames.specs.Steps.{next_effect, step}
use Rattle.fm_native.proofs.Prints.{quiet-does}
use Rattle.fm_exec_nests.proofs.Grown.{step-makes}
use Rattle.fm_law_can_step.proofs.Loops.{steady}
use Rattle.fm_law_can_step.proofs.Standing.{standing}
use Rattle.fm_law_can_step.specs.Ready.{CanRun, IsGoing}
use Rattle.fm_frames.proofs.StepCounts.{steps-after}
use Rattle.fm_run.proofs.Counting.{step-does}
use Rattle.fm_run.specs.Stepping.{DoesStep}
use Rattle.fm_run.specs.inner.Going.{DidQuietly, IsCheapNext}
use Rattle.fm_run.specs.inner.Nexts.{DoesNext, Stepped}
use Rattle.fm_world.specs.Programs.{Program}

pub stepped-is : (p : Program) (choose : Choose) (x y : State) (old new : Output) → CanRun p → IsGoing p x → DoesStep p choose x y old new → IsLawful choose
    → cells.IsSound y.areas.store → Stepped p x y
stepped-is p choose x y old new run going does lawful store =
    let is : (step p choose x).state ≡ y = ap (λ (m : Moved). m.state) does.is in
    let fit : CellsFit (step p choose x).state.areas.store = subst (λ (z : State). CellsFit z.areas.store) (sym is) store.cells_fit in
    let steadied = steady p x choose lawful run going.sound going.cells fit in
    let s = standing p x run going in
    subst (Stepped p x) is (record {
      sound = steadied.0;
      cells = steadied.1;
      counted = λ goes. steps-after p choose x s.frame s.callers s.frames_is going.goes goes;
      births = λ goes. step-makes p x choose lawful run.steps run.makes going.sound goes;
    })

-- a cheap instruction that prints nothing was done
pub did-quietly : (p : Program) (choose : Choose) (budget : ℕ) (x y : State) (method : ℕ) (i : Insn) → CanRun p → IsCheapNext p budget x method i → DoesNext p choose x y
    → IsLawful choose → cells.IsSound y.areas.store → DidQuietly p choose budget x y
did-quietly p choose budget x y method i run next does lawful store out =
    let done = step-does p choose x y out out next.going.goes (quiet-does p choose x y out (next_effect p x) does) in
    record { goes = next.goes; does = done; stepped = stepped-is p choose x y out out run next.going done lawful store }
