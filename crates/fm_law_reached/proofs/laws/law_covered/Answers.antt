use Rattle.fm_law_reached.proofs.Covered.{covers_narrowed}
use Rattle.fm_law_reached.proofs.laws.law_covered.Goals as goal

pub returns : goal.returns
returns c = covers_narrowed
