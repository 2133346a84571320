use Rattle.std.proofs.Common.{ap}
use Rattle.fm_exec_nests.specs.inner.Costs.{nest_of}
use Rattle.fm_run.proofs.Naming.{quick-stands}
use Rattle.fm_run.proofs.quick_rows.do_cast.Goals as goal
use Rattle.fm_run.specs.declared.quick.Quick.TheVariants as quick

pub cast_passed-requires-clause-next : goal.cast_passed-requires-clause-next
cast_passed-requires-clause-next g c =
    let i = c.requires.next.0 in
    (i, quick-stands c.args.program.now c.args.method.0 i c.args.quick.now (quick.Checkcast c.in-Checkcast.t) c.requires.next.1 c.in-Checkcast.is, c.requires.next.2)

pub returns-in-Checkcast-clause-did : goal.returns-in-Checkcast-clause-did
returns-in-Checkcast-clause-did g c told i has =
    let names = quick-stands c.args.program.now c.args.method.0 i c.args.quick.now (quick.Checkcast c.in-Checkcast.t) has c.in-Checkcast.is in
    (ap nest_of names.insn_is, c.cast_passed.ensures.did told)
