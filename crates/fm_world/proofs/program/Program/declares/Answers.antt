use Rattle.std.proofs.Common.{ap, nat_eq}
use Rattle.fm_world.proofs.program.Program.declares.Goals as goal

pub returns : goal.returns
returns c = ap (λ d. nat_eq d c.args.c.0) c.owner_of.ensures.value
