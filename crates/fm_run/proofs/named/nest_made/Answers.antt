use Rattle.fm_code.specs.declared.instructions.Insn.TheVariants as insn
use Rattle.fm_frames.specs.Rows.{effect_of}
use Rattle.fm_run.proofs.Resolving.{is-inside, is-method, is-wanted, nest-fits}
use Rattle.fm_run.proofs.NextSteps.{named-done}
use Rattle.fm_world.specs.declared.uses.Use.TheVariants as used
use Rattle.fm_run.proofs.named.nest_made.Goals as goal

pub type_named-t-requires-clause-method : goal.type_named-t-requires-clause-method
type_named-t-requires-clause-method g c =
    is-method c.args.program.now c.args.machine.now c.args.method.0 (insn.MultiArray c.args.index c.args.dimensions) c.requires.run c.requires.at

pub type_named-t-requires-clause-wanted : goal.type_named-t-requires-clause-wanted
type_named-t-requires-clause-wanted g c =
    is-wanted c.args.program.now c.args.machine.now c.args.method.0 (insn.MultiArray c.args.index c.args.dimensions) c.requires.run c.requires.going c.requires.at

pub multi_array-requires-clause-inside : goal.multi_array-requires-clause-inside
multi_array-requires-clause-inside g c =
    is-inside c.args.program.now c.args.machine.now c.args.method.0 (insn.MultiArray c.args.index c.args.dimensions) (used.OfType c.type_named-t.result) c.requires.run c.requires.at c.type_named-t.ensures

pub multi_array-requires-clause-fits : goal.multi_array-requires-clause-fits
multi_array-requires-clause-fits g c =
    nest-fits c.args.program.now c.args.machine.now c.args.method.0 c.args.index c.args.dimensions c.type_named-t.result c.requires.run c.requires.going c.requires.at c.type_named-t.ensures

pub returns : goal.returns
unfolding effect_of
returns g c =
    named-done c.args.program.now g.M.Memory.choose c.args.machine.now c.multi_array.new.machine c.args.method.0 (insn.MultiArray c.args.index c.args.dimensions) (used.OfType c.type_named-t.result) c.multi_array.result c.requires.at c.type_named-t.ensures c.multi_array.ensures
