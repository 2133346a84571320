use Rattle.fm_code.specs.declared.instructions.Insn.TheVariants as insn
use Rattle.fm_frames.specs.Rows.{effect_of}
use Rattle.fm_law_can_step.proofs.Constants.{suit}
use Rattle.fm_law_can_step.proofs.Standing.{births}
use Rattle.fm_run.proofs.Resolving.{is-inside, is-method, is-wanted}
use Rattle.fm_run.proofs.NextSteps.{named-done}
use Rattle.fm_world.specs.declared.uses.Use.TheVariants as used
use Rattle.fm_run.proofs.named.object_made.Goals as goal

pub type_named-t-requires-clause-method : goal.type_named-t-requires-clause-method
type_named-t-requires-clause-method g c =
    is-method c.args.program.now c.args.machine.now c.args.method.0 (insn.New c.args.index) c.requires.run c.requires.at

pub type_named-t-requires-clause-wanted : goal.type_named-t-requires-clause-wanted
type_named-t-requires-clause-wanted g c =
    is-wanted c.args.program.now c.args.machine.now c.args.method.0 (insn.New c.args.index) c.requires.run c.requires.going c.requires.at

pub new_object-requires-clause-births : goal.new_object-requires-clause-births
new_object-requires-clause-births g c =
    births c.args.program.now c.args.machine.now c.requires.run c.requires.going

pub new_object-requires-clause-suit : goal.new_object-requires-clause-suit
new_object-requires-clause-suit g c =
    suit c.args.program.now c.args.machine.now c.requires.run c.requires.going

pub new_object-requires-clause-inside : goal.new_object-requires-clause-inside
new_object-requires-clause-inside g c =
    is-inside c.args.program.now c.args.machine.now c.args.method.0 (insn.New c.args.index) (used.OfType c.type_named-t.result) c.requires.run c.requires.at c.type_named-t.ensures

pub returns : goal.returns
unfolding effect_of
returns g c =
    named-done c.args.program.now g.M.Memory.choose c.args.machine.now c.new_object.new.machine c.args.method.0 (insn.New c.args.index) (used.OfType c.type_named-t.result) c.new_object.result c.requires.at c.type_named-t.ensures c.new_object.ensures
