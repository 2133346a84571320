use Rattle.fm_code.specs.declared.instructions.Insn.TheVariants as insn
use Rattle.fm_run.proofs.NextSteps.{stands-at}
use Rattle.fm_run.proofs.plain.statics.Goals as goal

pub static_got-requires-clause-at : goal.static_got-requires-clause-at
static_got-requires-clause-at g c = stands-at c.args.program.now c.args.machine.now c.args.method.0 c.args.insn.now (insn.GetStatic c.in-GetStatic.index) c.requires.at c.in-GetStatic.is

pub static_put-requires-clause-at : goal.static_put-requires-clause-at
static_put-requires-clause-at g c = stands-at c.args.program.now c.args.machine.now c.args.method.0 c.args.insn.now (insn.PutStatic c.in-PutStatic.index) c.requires.at c.in-PutStatic.is
