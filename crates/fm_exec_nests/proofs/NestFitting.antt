-- What the row requires of the state follows from what its step costs.
use Rattle.std.proofs.Common.{◌≡◌, ℕ, ◌+◌, ◌<◌, ◌≤◌, ◌^◌, List, ◌∷◌, max, Some, slice_get, ap, ◌∙◌, arith}
use Rattle.fm_base.specs.declared.ids.TypeId.{TypeId}
use Rattle.fm_base.specs.declared.kinds.TypeRef.{TypeRef}
use Rattle.fm_code.specs.declared.instructions.Insn.TheVariants as insn
use Rattle.fm_exec.specs.Steps.{seen}
use Rattle.fm_frames.specs.ArrayRows.{multi_array_effect}
use Rattle.fm_frames.specs.States.{Frame, State}
use Rattle.fm_frames.specs.Steps.{cost, next_insn, objects_made}
use Rattle.fm_exec_nests.proofs.CostSteps.{cost-nest}
use Rattle.fm_exec_nests.specs.Nests.{nested, NestFits}
use Rattle.fm_types.specs.Typed.{use_in}
use Rattle.fm_world.specs.Programs.{Program}
use Rattle.fm_world.specs.declared.uses.Use.TheVariants as used

pub nest-fits : (p : Program) (x : State) (f : Frame) (callers : List Frame) (index dimensions : ℕ) (t : TypeId) → x.frames ≡ f ∷ callers
    → next_insn p f ≡ Some (insn.MultiArray index dimensions) → use_in p f.method index ≡ used.OfType t → 0 < dimensions
    → ((named : TypeRef) → slice_get p.outline.types t.0 ≡ Some named → dimensions ≤ named.dims)
    → x.areas.store.births + cost p x < 2 ^ 32 → x.steps + cost p x < 2 ^ 64 → NestFits p x t.0 dimensions
nest-fits p x f callers index dimensions t is at names some deep births steps =
    let price : cost p x ≡ max 1 (nested p x t.0 dimensions) =
    cost-nest p x f callers index dimensions is at
    ∙ ap (λ u. max 1 (objects_made (multi_array_effect p.outline u dimensions (seen p x)).actions)) names in
    record { some = some; deep = deep; births = omega (arith, price, births); steps = omega (arith, price, steps) }
