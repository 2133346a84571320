use Rattle.std.proofs.Common.{◌+◌, refl, sym, subst}
use Rattle.fm_code.specs.declared.instructions.Insn.TheVariants as insn
use Rattle.fm_fast.specs.Flows.{resumed}
use Rattle.fm_frames.specs.Rows.{effect_of}
use Rattle.fm_fast.proofs.Asked.{put-asked}
use Rattle.fm_fast.proofs.Likes.{like-asks}
use Rattle.fm_fast.specs.Operands.{AsksOfPut}
use Rattle.fm_frames.specs.ObjectRows.{kind_of_field}
use Rattle.fm_law_can_step.proofs.Named.{meets}
use Rattle.fm_law_can_step.proofs.Puts.{takes_field_value}
use Rattle.fm_run.proofs.FlatSteps.{named-does}
use Rattle.fm_run.proofs.NextSteps.{next-of}
use Rattle.fm_run.proofs.Resolving.{is-inside}
use Rattle.fm_run.proofs.placed.field_written_at.Goals as goal
use Rattle.fm_run.specs.inner.Flats.{IsFlatNext}
use Rattle.fm_types.specs.Rows.{row_after}
use Rattle.fm_world.specs.declared.uses.Use.TheVariants as used

pub put_field_at-requires-clause-named : goal.put_field_at-requires-clause-named
put_field_at-requires-clause-named g c =
    let p = c.args.program.now in
    let x = (resumed c.args.machine.now c.args.frames.now c.args.counted) in
    let names = c.requires.next.1 in
    let here = subst (IsFlatNext p c.args.steps x c.args.method.0) names.insn_is c.requires.next.2 in
    (is-inside p x c.args.method.0 (insn.PutField names.index) (used.OfField names.field c.args.named) c.requires.run here.at names.use_is).1

pub put_field_at-requires-clause-asks : goal.put_field_at-requires-clause-asks
unfolding row_after
put_field_at-requires-clause-asks g c =
    let p = c.args.program.now in
    let x = (resumed c.args.machine.now c.args.frames.now c.args.counted) in
    let names = c.requires.next.1 in
    let here = subst (IsFlatNext p c.args.steps x c.args.method.0) names.insn_is c.requires.next.2 in
    let i = insn.PutField names.index in
    let u = used.OfField names.field c.args.named in
    let next = next-of p x c.args.method.0 i u here.at names.use_is in
    let row = meets p x i u (here.next refl).going next in
    like-asks c.args.frames.now c.args.kind (kind_of_field p.outline names.field.0) names.at.kind_is
    (subst (AsksOfPut (kind_of_field p.outline names.field.0)) (sym next.frames_is)
    (put-asked p.outline row.known next.frame next.callers row.kinds row.whole row.after next.frame.method names.field c.args.named row.row))

pub put_field_at-requires-clause-takes : goal.put_field_at-requires-clause-takes
put_field_at-requires-clause-takes g c =
    let p = c.args.program.now in
    let x = (resumed c.args.machine.now c.args.frames.now c.args.counted) in
    let names = c.requires.next.1 in
    let here = subst (IsFlatNext p c.args.steps x c.args.method.0) names.insn_is c.requires.next.2 in (
      names.field,
      names.at,
      takes_field_value p x names.index names.field c.args.named c.requires.run (here.next refl).going
          (next-of p x c.args.method.0 (insn.PutField names.index) (used.OfField names.field c.args.named) here.at names.use_is),
    )

pub returns-clause-did : goal.returns-clause-did
unfolding effect_of
returns-clause-did g c told =
    let p = c.args.program.now in
    let x = (resumed c.args.machine.now c.args.frames.now c.args.counted) in
    let names = c.requires.next.1 in
    let here = subst (IsFlatNext p c.args.steps x c.args.method.0) names.insn_is c.requires.next.2 in
    named-does p g.M.Memory.choose x (resumed c.put_field_at.new.machine c.put_field_at.new.frames (c.args.counted + 1)) c.args.method.0
    (insn.PutField names.index) (used.OfField names.field c.args.named) here.at names.use_is (c.put_field_at.ensures.did told names.field names.at c.args.counted)
