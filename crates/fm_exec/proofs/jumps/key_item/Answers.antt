use Rattle.std.proofs.Common.{rules}
use Rattle.fm_exec.proofs.KeySteps.{found-of, missing-of}
use Rattle.fm_exec.proofs.jumps.key_item.Goals as goal

pub returns-in-Some : goal.returns-in-Some
returns-in-Some c =
    found-of c.args.key _ c.args.keys.now c.args.others c.min-few.result c.in-Some.place _ c.args.targets.now (search rules) c.in-Some.ensures
    (search rules)

pub returns-in-None : goal.returns-in-None
returns-in-None c =
    missing-of c.args.key _ c.args.keys.now c.args.others c.min-few.result c.args.targets.now (search rules) c.in-None.ensures (search rules)
