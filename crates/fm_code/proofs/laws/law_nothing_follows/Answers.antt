use Rattle.fm_code.proofs.ClassLaw.{nothing_follows}
use Rattle.fm_code.proofs.laws.law_nothing_follows.Goals as goal

pub returns : goal.returns
returns c = nothing_follows
