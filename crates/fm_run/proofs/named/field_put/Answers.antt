use Rattle.fm_code.specs.declared.instructions.Insn.TheVariants as insn
use Rattle.fm_frames.specs.Rows.{effect_of}
use Rattle.fm_law_can_step.proofs.Puts.{takes_field_value}
use Rattle.fm_run.proofs.Resolving.{is-inside, is-method, is-wanted}
use Rattle.fm_run.proofs.NextSteps.{named-done, next-of}
use Rattle.fm_world.specs.declared.uses.Use.TheVariants as used
use Rattle.fm_run.proofs.named.field_put.Goals as goal

pub field_named-requires-clause-method : goal.field_named-requires-clause-method
field_named-requires-clause-method g c =
    is-method c.args.program.now c.args.machine.now c.args.method.0 (insn.PutField c.args.index) c.requires.run c.requires.at

pub field_named-requires-clause-wanted : goal.field_named-requires-clause-wanted
field_named-requires-clause-wanted g c =
    is-wanted c.args.program.now c.args.machine.now c.args.method.0 (insn.PutField c.args.index) c.requires.run c.requires.going c.requires.at

pub put_field-requires-clause-field : goal.put_field-requires-clause-field
put_field-requires-clause-field g c =
    (is-inside c.args.program.now c.args.machine.now c.args.method.0 (insn.PutField c.args.index) (used.OfField c.field_named.result.0 c.field_named.result.1) c.requires.run c.requires.at c.field_named.ensures).0

pub put_field-requires-clause-named : goal.put_field-requires-clause-named
put_field-requires-clause-named g c =
    (is-inside c.args.program.now c.args.machine.now c.args.method.0 (insn.PutField c.args.index) (used.OfField c.field_named.result.0 c.field_named.result.1) c.requires.run c.requires.at c.field_named.ensures).1

pub put_field-requires-clause-takes : goal.put_field-requires-clause-takes
put_field-requires-clause-takes g c =
    takes_field_value c.args.program.now c.args.machine.now c.args.index c.field_named.result.0 c.field_named.result.1 c.requires.run c.requires.going (next-of c.args.program.now c.args.machine.now c.args.method.0 (insn.PutField c.args.index) (used.OfField c.field_named.result.0 c.field_named.result.1) c.requires.at c.field_named.ensures)

pub returns : goal.returns
unfolding effect_of
returns g c =
    named-done c.args.program.now g.M.Memory.choose c.args.machine.now c.put_field.new.machine c.args.method.0 (insn.PutField c.args.index) (used.OfField c.field_named.result.0 c.field_named.result.1) c.put_field.result c.requires.at c.field_named.ensures c.put_field.ensures
