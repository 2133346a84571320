use Rattle.std.proofs.Common.{ap, subst}
use Rattle.fm_fast.specs.Flows.{resumed}
use Rattle.fm_exec_nests.specs.inner.Costs.{nest_of}
use Rattle.fm_run.proofs.called.do_out_of_line.Goals as goal
use Rattle.fm_run.specs.inner.Flats.{IsFlatNext}

pub static_written-requires-clause-next : goal.static_written-requires-clause-next
static_written-requires-clause-next g c =
    subst (IsFlatNext c.args.program.now c.args.steps (resumed c.args.machine.now c.args.frames.now c.args.counted) c.args.method.0) c.in-PutStatic.is
    c.requires.next

pub returns-in-PutStatic-clause-did : goal.returns-in-PutStatic-clause-did
returns-in-PutStatic-clause-did g c told = (ap nest_of c.in-PutStatic.is, c.static_written.ensures.did told)
