use Rattle.fm_run.proofs.Steadying.{did-quietly}
use Rattle.fm_run.proofs.runs.do_frequent.Goals as goal

pub frequent-requires-clause-going : goal.frequent-requires-clause-going
frequent-requires-clause-going g c = c.in-Some.ensures.going

pub frequent-requires-clause-can : goal.frequent-requires-clause-can
frequent-requires-clause-can g c = c.in-Some.ensures.can

pub frequent-requires-clause-at : goal.frequent-requires-clause-at
frequent-requires-clause-at g c = c.in-Some.ensures.at

pub returns-clause-did : goal.returns-clause-did
returns-clause-did g c told =
    did-quietly c.args.program.now g.M.Memory.choose c.args.steps c.args.machine.now c.frequent.new.machine c.args.method.0 c.in-Some.insn.now c.requires.run
    c.in-Some.ensures (c.in_ok-did.ensures.did told) c.births-births.ensures.lawful c.births-births.ensures.sound
