use Rattle.std.proofs.Common.{◌≡◌, ◌+◌, [], true, refl, ap, ◌∙◌, rules}
use Rattle.fm_base.specs.declared.kinds.TypeRef.{TypeRef}
use Rattle.fm_exec.proofs.CastSteps.{cast-told}
use Rattle.fm_exec.proofs.Seen.{carried}
use Rattle.fm_fast.proofs.FlowSteps.{kept-top}
use Rattle.fm_fast.specs.Flows.{resumed}
use Rattle.fm_fast.proofs.casts.cast.Goals as goal
use Rattle.fm_fast.proofs.CellSteps.{found-over}
use Rattle.fm_frames.proofs.Finishes.{took}
use Rattle.fm_frames.specs.Effects.{words}
use Rattle.fm_frames.specs.ObjectRows.{cast_effect}
use Rattle.fm_frames.specs.Steps.{stack_of}
use Rattle.fm_frames.specs.inner.Doings.{seen}
use Rattle.fm_world.specs.Chains.{is_sub}
use Rattle.fm_world.specs.declared.uses.Use.TheVariants as used

pub returns-clause-did : goal.returns-clause-did
returns-clause-did g c told steps =
    let p = c.args.program.now in
    let o = p.outline in
    let m = c.args.machine.now in
    let x = resumed m c.args.frames.now steps in
    let y = resumed m c.advance.new.self (steps + 1) in
    let it = found-over o m c.args.frames.now steps 0 c.in-Some.field-0-0 c.in-Some.head c.in-Some.ensures in
    let passes : true ≡ is_sub o.classes c.type_in.result c.type_of.result = search rules in
    carried p g.M.Memory.choose x y (cast_effect o (used.OfType c.args.t) (seen p x)) (words 0 [])
    (cast-told o m.areas.store (stack_of x) c.args.t c.type_of.result c.in-Some.field-0-0 c.in-Some.head true c.type_of.ensures it
    (passes ∙ ap (λ (t : TypeRef). is_sub o.classes t c.type_of.result) c.type_in.ensures.value))
    (took p g.M.Memory.choose x x c.advance.new.self c.advance.new.self 0 refl c.requires.fits c.advance.ensures (kept-top c.advance.new.self))
