use Rattle.fm_code.specs.declared.instructions.Insn.TheVariants as insn
use Rattle.fm_run.proofs.NextSteps.{stands-at}
use Rattle.fm_run.proofs.calls.calls.Goals as goal

pub virtual_called-requires-clause-at : goal.virtual_called-requires-clause-at
virtual_called-requires-clause-at g c = stands-at c.args.program.now c.args.machine.now c.args.method.0 c.args.insn.now (insn.Virtual c.in-Virtual.index) c.requires.at c.in-Virtual.is

pub interface_called-requires-clause-at : goal.interface_called-requires-clause-at
interface_called-requires-clause-at g c = stands-at c.args.program.now c.args.machine.now c.args.method.0 c.args.insn.now (insn.Interface c.in-Interface.index) c.requires.at c.in-Interface.is

pub special_called-requires-clause-at : goal.special_called-requires-clause-at
special_called-requires-clause-at g c = stands-at c.args.program.now c.args.machine.now c.args.method.0 c.args.insn.now (insn.Special c.in-Special.index) c.requires.at c.in-Special.is

pub static_called-requires-clause-at : goal.static_called-requires-clause-at
static_called-requires-clause-at g c = stands-at c.args.program.now c.args.machine.now c.args.method.0 c.args.insn.now (insn.Static c.in-Static.index) c.requires.at c.in-Static.is
