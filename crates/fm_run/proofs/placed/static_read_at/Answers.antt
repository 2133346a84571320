use Rattle.std.proofs.Common.{◌≡◌, ◌+◌, ◌<◌, length, sym, subst}
use Rattle.fm_code.specs.declared.instructions.Insn.TheVariants as insn
use Rattle.fm_fast.specs.Flows.{resumed}
use Rattle.fm_frames.specs.Rows.{effect_of}
use Rattle.fm_exec_calls.proofs.UseSteps.{field-owner}
use Rattle.fm_run.proofs.FlatSteps.{named-does}
use Rattle.fm_run.proofs.Resolving.{is-inside}
use Rattle.fm_run.proofs.placed.static_read_at.Goals as goal
use Rattle.fm_run.specs.inner.Flats.{IsFlatNext}
use Rattle.fm_world.specs.declared.uses.Use.TheVariants as used

pub get_static_at-requires-clause-class : goal.get_static_at-requires-clause-class
get_static_at-requires-clause-class g c =
    let p = c.args.program.now in
    let x = (resumed c.args.machine.now c.args.frames.now c.args.counted) in
    let names = c.requires.next.1 in
    let here = subst (IsFlatNext p c.args.steps x c.args.method.0) names.insn_is c.requires.next.2 in
    let inside = is-inside p x c.args.method.0 (insn.GetStatic names.index) (used.OfField names.field names.named) c.requires.run here.at names.use_is in
    subst (λ n. n < length p.outline.classes) names.at.class_is (field-owner p.outline names.field.0 inside.0)

pub returns-clause-did : goal.returns-clause-did
unfolding effect_of
returns-clause-did g c told =
    let p = c.args.program.now in
    let x = (resumed c.args.machine.now c.args.frames.now c.args.counted) in
    let names = c.requires.next.1 in
    let here = subst (IsFlatNext p c.args.steps x c.args.method.0) names.insn_is c.requires.next.2 in
    let u = used.OfField names.field names.named in
    let inside = is-inside p x c.args.method.0 (insn.GetStatic names.index) u c.requires.run here.at names.use_is in
    named-does p g.M.Memory.choose x (resumed c.args.machine.now c.get_static_at.new.frames (c.args.counted + 1)) c.args.method.0 (insn.GetStatic names.index) u
    here.at names.use_is (c.get_static_at.ensures.did told names.field names.named inside.1 names.at c.args.counted)
