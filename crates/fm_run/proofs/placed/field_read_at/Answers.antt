use Rattle.std.proofs.Common.{◌+◌, refl, subst}
use Rattle.fm_code.specs.declared.instructions.Insn.TheVariants as insn
use Rattle.fm_fast.specs.Flows.{resumed}
use Rattle.fm_frames.specs.Rows.{effect_of}
use Rattle.fm_law_can_step.proofs.Heap.{holds_field}
use Rattle.fm_run.proofs.FlatSteps.{named-does}
use Rattle.fm_run.proofs.NextSteps.{next-of}
use Rattle.fm_run.proofs.Resolving.{is-inside}
use Rattle.fm_run.proofs.placed.field_read_at.Goals as goal
use Rattle.fm_run.specs.inner.Flats.{IsFlatNext}
use Rattle.fm_world.specs.declared.uses.Use.TheVariants as used

pub get_field_at-requires-clause-named : goal.get_field_at-requires-clause-named
get_field_at-requires-clause-named g c =
    let p = c.args.program.now in
    let x = (resumed c.args.machine.now c.args.frames.now c.args.counted) in
    let names = c.requires.next.1 in
    let here = subst (IsFlatNext p c.args.steps x c.args.method.0) names.insn_is c.requires.next.2 in
    (is-inside p x c.args.method.0 (insn.GetField names.index) (used.OfField names.field c.args.named) c.requires.run here.at names.use_is).1

pub get_field_at-requires-clause-object : goal.get_field_at-requires-clause-object
get_field_at-requires-clause-object g c =
    let p = c.args.program.now in
    let x = (resumed c.args.machine.now c.args.frames.now c.args.counted) in
    let names = c.requires.next.1 in
    let here = subst (IsFlatNext p c.args.steps x c.args.method.0) names.insn_is c.requires.next.2 in
    here.asks

pub get_field_at-requires-clause-holds : goal.get_field_at-requires-clause-holds
get_field_at-requires-clause-holds g c =
    let p = c.args.program.now in
    let x = (resumed c.args.machine.now c.args.frames.now c.args.counted) in
    let names = c.requires.next.1 in
    let here = subst (IsFlatNext p c.args.steps x c.args.method.0) names.insn_is c.requires.next.2 in (
      names.field,
      names.at,
      holds_field p x names.index names.field c.args.named c.requires.run (here.next refl).going
          (next-of p x c.args.method.0 (insn.GetField names.index) (used.OfField names.field c.args.named) here.at names.use_is),
    )

pub returns-clause-did : goal.returns-clause-did
unfolding effect_of
returns-clause-did g c told =
    let p = c.args.program.now in
    let x = (resumed c.args.machine.now c.args.frames.now c.args.counted) in
    let names = c.requires.next.1 in
    let here = subst (IsFlatNext p c.args.steps x c.args.method.0) names.insn_is c.requires.next.2 in
    named-does p g.M.Memory.choose x (resumed c.args.machine.now c.get_field_at.new.frames (c.args.counted + 1)) c.args.method.0 (insn.GetField names.index)
    (used.OfField names.field c.args.named) here.at names.use_is (c.get_field_at.ensures.did told names.field names.at c.args.counted)
