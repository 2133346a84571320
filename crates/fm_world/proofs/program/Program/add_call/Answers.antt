use Rattle.fm_world.proofs.KnownLemmas.{knows_more}
use Rattle.fm_world.proofs.program.Program.add_call.Goals as goal

pub returns : goal.returns
returns c =
    knows_more c.args.self.now c.args.known.now c.push.new.self
    (record { named = c.in-Some.named; method = c.in-Some.method; targets = c.in_ok-targets.targets }) c.requires.known c.in_ok-push.ensures
    c.in_ok-targets.ensures
