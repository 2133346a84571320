use Rattle.std.proofs.Common.{◌+◌, refl, sym, subst}
use Rattle.fm_code.specs.declared.instructions.Insn.TheVariants as insn
use Rattle.fm_fast.proofs.Asked.{put-asked}
use Rattle.fm_fast.specs.Flows.{resumed}
use Rattle.fm_fast.specs.Operands.{AsksOfPut}
use Rattle.fm_frames.specs.ObjectRows.{kind_of_field}
use Rattle.fm_frames.specs.Rows.{effect_of}
use Rattle.fm_law_can_step.proofs.Named.{meets}
use Rattle.fm_law_can_step.proofs.Puts.{takes_field_value}
use Rattle.fm_run.proofs.FlatSteps.{named-does}
use Rattle.fm_run.proofs.NextSteps.{next-of}
use Rattle.fm_run.proofs.Resolving.{is-inside, is-method, is-wanted}
use Rattle.fm_run.proofs.indexed.field_written.Goals as goal
use Rattle.fm_types.specs.Rows.{row_after}
use Rattle.fm_world.specs.declared.uses.Use.TheVariants as used

pub field_named-requires-clause-method : goal.field_named-requires-clause-method
field_named-requires-clause-method g c =
    is-method c.args.program.now (resumed c.args.machine.now c.args.frames.now c.args.counted) c.args.method.0 (insn.PutField c.args.index) c.requires.run c.requires.next.at

pub field_named-requires-clause-wanted : goal.field_named-requires-clause-wanted
field_named-requires-clause-wanted g c =
    is-wanted c.args.program.now (resumed c.args.machine.now c.args.frames.now c.args.counted) c.args.method.0 (insn.PutField c.args.index) c.requires.run
    (c.requires.next.next refl).going c.requires.next.at

pub put_field-requires-clause-field : goal.put_field-requires-clause-field
put_field-requires-clause-field g c =
    (is-inside c.args.program.now (resumed c.args.machine.now c.args.frames.now c.args.counted) c.args.method.0 (insn.PutField c.args.index)
    (used.OfField c.field_named.result.0 c.field_named.result.1) c.requires.run c.requires.next.at c.field_named.ensures).0

pub put_field-requires-clause-named : goal.put_field-requires-clause-named
put_field-requires-clause-named g c =
    (is-inside c.args.program.now (resumed c.args.machine.now c.args.frames.now c.args.counted) c.args.method.0 (insn.PutField c.args.index)
    (used.OfField c.field_named.result.0 c.field_named.result.1) c.requires.run c.requires.next.at c.field_named.ensures).1

pub put_field-requires-clause-asks : goal.put_field-requires-clause-asks
unfolding row_after
put_field-requires-clause-asks g c =
    let p = c.args.program.now in
    let x = resumed c.args.machine.now c.args.frames.now c.args.counted in
    let f = c.field_named.result.0 in
    let u = used.OfField f c.field_named.result.1 in
    let i = insn.PutField c.args.index in
    let next = next-of p x c.args.method.0 i u c.requires.next.at c.field_named.ensures in
    let row = meets p x i u (c.requires.next.next refl).going next in
    subst (AsksOfPut (kind_of_field p.outline f.0)) (sym next.frames_is)
    (put-asked p.outline row.known next.frame next.callers row.kinds row.whole row.after next.frame.method f c.field_named.result.1 row.row)

pub put_field-requires-clause-takes : goal.put_field-requires-clause-takes
put_field-requires-clause-takes g c =
    let x = resumed c.args.machine.now c.args.frames.now c.args.counted in
    let u = used.OfField c.field_named.result.0 c.field_named.result.1 in
    takes_field_value c.args.program.now x c.args.index c.field_named.result.0 c.field_named.result.1 c.requires.run (c.requires.next.next refl).going
    (next-of c.args.program.now x c.args.method.0 (insn.PutField c.args.index) u c.requires.next.at c.field_named.ensures)

pub returns-clause-did : goal.returns-clause-did
unfolding effect_of
returns-clause-did g c told =
    named-does c.args.program.now g.M.Memory.choose (resumed c.args.machine.now c.args.frames.now c.args.counted)
    (resumed c.put_field.new.machine c.put_field.new.frames (c.args.counted + 1)) c.args.method.0 (insn.PutField c.args.index)
    (used.OfField c.field_named.result.0 c.field_named.result.1) c.requires.next.at c.field_named.ensures (c.put_field.ensures.did told c.args.counted)
