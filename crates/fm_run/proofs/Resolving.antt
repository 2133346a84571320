-- What the functions of instructions that name something ask.
use Rattle.std.proofs.Common.{◌≡◌, ℕ, ◌<◌, length, true, refl, ap, ◌∙◌, subst, arith}
use Rattle.fm_base.specs.declared.ids.TypeId.{TypeId}
use Rattle.fm_code.specs.declared.instructions.Insn.TheVariants as insn
use Rattle.fm_exec_nests.proofs.NestFitting as nests
use Rattle.fm_exec_nests.specs.Nests.{NestFits}
use Rattle.fm_code.specs.declared.instructions.Insn.{Insn}
use Rattle.fm_frames.specs.Runnable.{IsUseIn}
use Rattle.fm_frames.specs.States.{State}
use Rattle.fm_law_can_step.proofs.Named.{dimensions_within, use_inside, wanted}
use Rattle.fm_law_can_step.proofs.Standing.{caller_inside}
use Rattle.fm_law_can_step.specs.Ready.{CanRun, IsGoing, is_wanted}
use Rattle.fm_run.proofs.NextSteps.{next-of}
use Rattle.fm_run.specs.inner.Nexts.{StandsIn}
use Rattle.fm_types.specs.Typed.{use_by, use_in}
use Rattle.fm_world.specs.Members.{methods_of}
use Rattle.fm_world.specs.Programs.{Program}
use Rattle.fm_world.specs.declared.uses.Use.{Use}
use Rattle.fm_world.specs.declared.uses.Use.TheVariants as used

-- the index refers to what the instruction wants
pub is-wanted : (p : Program) (x : State) (method : ℕ) (i : Insn) → CanRun p → IsGoing p x → StandsIn p x method i → is_wanted i (use_by p method i) ≡ true
is-wanted p x method i run going stands = wanted p x i (use_by p method i) run going (next-of p x method i (use_by p method i) stands refl)

-- the method is one of the program
pub is-method : (p : Program) (x : State) (method : ℕ) (i : Insn) → CanRun p → StandsIn p x method i → method < length (methods_of p.outline.classes)
is-method p x method i run stands =
    subst (λ m. m < length (methods_of p.outline.classes)) stands.method_is
    (caller_inside p x i (use_by p method i) run (next-of p x method i (use_by p method i) stands refl))

-- what the index refers to is there
pub is-inside : (p : Program) (x : State) (method : ℕ) (i : Insn) (u : Use) → CanRun p → StandsIn p x method i → use_by p method i ≡ u → IsUseIn p.outline u
is-inside p x method i u run stands is = use_inside p x i u run (next-of p x method i u stands is)

-- the arrays that multianewarray makes can be numbered, and their steps counted
pub nest-fits : (p : Program) (x : State) (method index dimensions : ℕ) (t : TypeId) → CanRun p → IsGoing p x
    → StandsIn p x method (insn.MultiArray index dimensions) → use_in p method index ≡ used.OfType t → NestFits p x t.0 dimensions
nest-fits p x method index dimensions t run going stands is =
    let within = dimensions_within p x index dimensions t run going (next-of p x method (insn.MultiArray index dimensions) (used.OfType t) stands is) in
    let few = going.births in
    nests.nest-fits p x stands.at.frame stands.at.callers index dimensions t stands.at.frames_is stands.at.insn_is
    (ap (λ m. use_in p m index) stands.method_is ∙ is) within.0 within.1 (omega arith) going.steps
