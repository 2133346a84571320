use Rattle.fm_code.specs.declared.instructions.Insn.TheVariants as insn
use Rattle.fm_frames.specs.Rows.{effect_of}
use Rattle.fm_law_can_step.proofs.Constants.{suit}
use Rattle.fm_law_can_step.proofs.Puts.{keeps_static}
use Rattle.fm_law_can_step.proofs.Standing.{births}
use Rattle.fm_run.proofs.Resolving.{is-inside, is-method, is-wanted}
use Rattle.fm_run.proofs.NextSteps.{named-done, next-of}
use Rattle.fm_world.specs.declared.uses.Use.TheVariants as used
use Rattle.fm_run.proofs.named.static_put.Goals as goal

pub field_named-requires-clause-method : goal.field_named-requires-clause-method
field_named-requires-clause-method g c =
    is-method c.args.program.now c.args.machine.now c.args.method.0 (insn.PutStatic c.args.index) c.requires.run c.requires.at

pub field_named-requires-clause-wanted : goal.field_named-requires-clause-wanted
field_named-requires-clause-wanted g c =
    is-wanted c.args.program.now c.args.machine.now c.args.method.0 (insn.PutStatic c.args.index) c.requires.run c.requires.going c.requires.at

pub put_static-requires-clause-births : goal.put_static-requires-clause-births
put_static-requires-clause-births g c =
    births c.args.program.now c.args.machine.now c.requires.run c.requires.going

pub put_static-requires-clause-suit : goal.put_static-requires-clause-suit
put_static-requires-clause-suit g c =
    suit c.args.program.now c.args.machine.now c.requires.run c.requires.going

pub put_static-requires-clause-field : goal.put_static-requires-clause-field
put_static-requires-clause-field g c =
    (is-inside c.args.program.now c.args.machine.now c.args.method.0 (insn.PutStatic c.args.index) (used.OfField c.field_named.result.0 c.field_named.result.1) c.requires.run c.requires.at c.field_named.ensures).0

pub put_static-requires-clause-named : goal.put_static-requires-clause-named
put_static-requires-clause-named g c =
    (is-inside c.args.program.now c.args.machine.now c.args.method.0 (insn.PutStatic c.args.index) (used.OfField c.field_named.result.0 c.field_named.result.1) c.requires.run c.requires.at c.field_named.ensures).1

pub put_static-requires-clause-fits : goal.put_static-requires-clause-fits
put_static-requires-clause-fits g c =
    keeps_static c.args.program.now c.args.machine.now c.args.index c.field_named.result.0 c.field_named.result.1 c.requires.run c.requires.going (next-of c.args.program.now c.args.machine.now c.args.method.0 (insn.PutStatic c.args.index) (used.OfField c.field_named.result.0 c.field_named.result.1) c.requires.at c.field_named.ensures)

pub returns : goal.returns
unfolding effect_of
returns g c =
    named-done c.args.program.now g.M.Memory.choose c.args.machine.now c.put_static.new.machine c.args.method.0 (insn.PutStatic c.args.index) (used.OfField c.field_named.result.0 c.field_named.result.1) c.put_static.result c.requires.at c.field_named.ensures c.put_static.ensures
