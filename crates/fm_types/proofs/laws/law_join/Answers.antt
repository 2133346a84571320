use Rattle.fm_types.proofs.LeastJoins.{join-least}
use Rattle.fm_types.proofs.laws.law_join.Goals as goal

pub returns : goal.returns
returns c = join-least
