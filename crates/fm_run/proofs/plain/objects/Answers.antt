use Rattle.fm_code.specs.declared.instructions.Insn.TheVariants as insn
use Rattle.fm_frames.specs.Rows.{effect_of}
use Rattle.fm_run.proofs.NextSteps.{row-done, stands-at}
use Rattle.fm_run.proofs.plain.objects.Goals as goal

pub references_made-requires-clause-at : goal.references_made-requires-clause-at
references_made-requires-clause-at g c = stands-at c.args.program.now c.args.machine.now c.args.method.0 c.args.insn.now (insn.NewRefs c.in-NewRefs.index) c.requires.at c.in-NewRefs.is

pub nest_made-requires-clause-at : goal.nest_made-requires-clause-at
nest_made-requires-clause-at g c = stands-at c.args.program.now c.args.machine.now c.args.method.0 c.args.insn.now (insn.MultiArray c.in-MultiArray.index c.in-MultiArray.dimensions) c.requires.at c.in-MultiArray.is

pub cast-requires-clause-at : goal.cast-requires-clause-at
cast-requires-clause-at g c = stands-at c.args.program.now c.args.machine.now c.args.method.0 c.args.insn.now (insn.Cast c.in-Cast.index) c.requires.at c.in-Cast.is

pub instance-requires-clause-at : goal.instance-requires-clause-at
instance-requires-clause-at g c = stands-at c.args.program.now c.args.machine.now c.args.method.0 c.args.insn.now (insn.IsA c.in-IsA.index) c.requires.at c.in-IsA.is

pub returns-in-NewArray : goal.returns-in-NewArray
unfolding effect_of
returns-in-NewArray g c =
    row-done c.args.program.now g.M.Memory.choose c.args.machine.now c.new_array.new.machine c.args.insn.now (insn.NewArray c.in-NewArray.e) c.new_array.result c.requires.at.at c.in-NewArray.is c.new_array.ensures
