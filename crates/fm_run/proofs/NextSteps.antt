-- The effect of the next instruction is that of its row.
use Rattle.std.proofs.Common.{◌≡◌, ℕ, List, ◌∷◌, Some, refl, ap, sym, ◌∙◌, subst, slice_get, OnOk, Result}
use Rattle.fm_base.specs.declared.error.NoMemory.{NoMemory}
use Rattle.fm_code.specs.declared.instructions.Insn.{Insn}
use Rattle.fm_exec.specs.Steps.{seen, Steps}
use Rattle.fm_frames.proofs.Throwing.{told-ok}
use Rattle.fm_frames.specs.Acts.{Choose}
use Rattle.fm_frames.specs.Effects.{Effect}
use Rattle.fm_frames.specs.Rows.{effect_of}
use Rattle.fm_frames.specs.Sights.{sights}
use Rattle.fm_frames.specs.Starts.{with_start}
use Rattle.fm_frames.specs.States.{Frame, State}
use Rattle.fm_frames.specs.Steps.{effect_by, next_insn, next_effect}
use Rattle.fm_frames.specs.inner.Doings.{DoesIn}
use Rattle.fm_frames.specs.inner.Frames.{stack_in}
use Rattle.fm_frames.specs.inner.Targets.{IsAt}
use Rattle.fm_law_can_step.proofs.Standing.{at_insn}
use Rattle.fm_law_can_step.specs.Ready.{IsNext}
use Rattle.fm_run.specs.inner.Nexts.{DoesNext, StandsAt, StandsIn}
use Rattle.fm_types.specs.Typed.{use_by}
use Rattle.fm_world.specs.Programs.{Program}
use Rattle.fm_world.specs.declared.uses.Use.{Use}
use Rattle.fm_exec_nests.proofs.CostSteps.{frames_effect}

-- that of a row
abbrev row_effect : Program → State → (method : ℕ) → Insn → List Frame → Effect
row_effect p x method i frames =
    effect_of p.outline method (use_by p method i) i (slice_get x.input 0) (sights p.outline x.areas.store (stack_in frames))

-- the effect of an instruction in a method
abbrev pub own_effect : Program → State → (method : ℕ) → Insn → Effect
own_effect p x method i = effect_of p.outline method (use_by p method i) i (slice_get x.input 0) (seen p x)

in-frames : (p : Program) (x : State) (i : Insn) (frames : List Frame) (f : Frame) (callers : List Frame) → frames ≡ f ∷ callers
    → next_insn p f ≡ Some i → frames_effect p x frames ≡ row_effect p x f.method i frames
in-frames p x i frames f callers is insn_is =
    let P : List Frame → Type 0 = λ frames. frames_effect p x frames ≡ row_effect p x f.method i frames in
    subst P (sym is) (ap (effect_by p x f) insn_is)

pub next-is : (p : Program) (x : State) (i : Insn) (at : StandsAt p x i)
    → next_effect p x ≡ with_start p.outline x.areas.started (own_effect p x at.frame.method i)
unfolding next_effect
next-is p x i at = ap (with_start p.outline x.areas.started) (in-frames p x i x.frames at.frame at.callers at.frames_is at.insn_is)

-- a row's step is the next one
pub row-does : (p : Program) (choose : Choose) (x y : State) (insn i : Insn) (at : StandsAt p x insn) → insn ≡ i
    → Steps p choose x y (own_effect p x at.frame.method i) → DoesNext p choose x y
row-does p choose x y insn i at is does =
    subst (DoesIn p choose x y) (sym (next-is p x insn at))
    (subst (λ i. Steps p choose x y (own_effect p x at.frame.method i)) (sym is) does)

-- the same where the row may have wanted memory
pub row-done : (p : Program) (choose : Choose) (x y : State) (insn i : Insn) (result : Result Unit NoMemory) (at : StandsAt p x insn) → insn ≡ i
    → OnOk result (Steps p choose x y (own_effect p x at.frame.method i)) → OnOk result (DoesNext p choose x y)
row-done p choose x y insn i result at is does =
    told-ok result (Steps p choose x y (own_effect p x at.frame.method i)) (DoesNext p choose x y) (row-does p choose x y insn i at is) does

-- a row for what its index refers to
pub named-is : (p : Program) (x : State) (method : ℕ) (i : Insn) (u : Use) → StandsIn p x method i → use_by p method i ≡ u
    → next_effect p x ≡ with_start p.outline x.areas.started (effect_of p.outline method u i (slice_get x.input 0) (seen p x))
named-is p x method i u stands is =
    next-is p x i stands.at
    ∙ ap (λ m. with_start p.outline x.areas.started (own_effect p x m i)) stands.method_is
    ∙ ap (λ u. with_start p.outline x.areas.started (effect_of p.outline method u i (slice_get x.input 0) (seen p x))) is

pub named-done : (p : Program) (choose : Choose) (x y : State) (method : ℕ) (i : Insn) (u : Use) (result : Result Unit NoMemory)
    → StandsIn p x method i → use_by p method i ≡ u
    → OnOk result (Steps p choose x y (effect_of p.outline method u i (slice_get x.input 0) (seen p x))) → OnOk result (DoesNext p choose x y)
named-done p choose x y method i u result stands is does =
    subst (λ e. OnOk result (DoesIn p choose x y e)) (sym (named-is p x method i u stands is)) does

-- what the index of the instruction refers to
abbrev pub next-of : (p : Program) (x : State) (method : ℕ) (i : Insn) (u : Use) → StandsIn p x method i → use_by p method i ≡ u → IsNext p x i u
next-of p x method i u stands is = record {
  frame = stands.at.frame;
  callers = stands.at.callers;
  frames_is = stands.at.frames_is;
  insn_is = stands.at.insn_is;
  use_is = ap (λ m. use_by p m i) stands.method_is ∙ is;
}

abbrev pub next-at : (p : Program) (x : State) (i : Insn) (at : StandsAt p x i) → IsNext p x i (use_by p at.frame.method i)
next-at p x i at = record { frame = at.frame; callers = at.callers; frames_is = at.frames_is; insn_is = at.insn_is; use_is = refl }

pub at-row : (p : Program) (x : State) (insn i : Insn) → StandsAt p x insn → insn ≡ i → IsAt p x i
at-row p x insn i at is = subst (IsAt p x) is (at_insn p x insn (use_by p at.frame.method insn) (next-at p x insn at))

-- it is at the instruction that was matched
pub stands-at : (p : Program) (x : State) (method : ℕ) (insn i : Insn) → StandsIn p x method insn → insn ≡ i → StandsIn p x method i
stands-at p x method insn i stands is = subst (StandsIn p x method) is stands

pub here : (p : Program) (x : State) (insn i : Insn) → StandsAt p x insn → insn ≡ i → StandsAt p x i
here p x insn i at is = subst (StandsAt p x) is at
